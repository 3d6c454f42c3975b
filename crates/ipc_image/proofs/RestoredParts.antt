-- States are told apart by their clock's object, as far as it tells of them.
use Rattle.std.proofs.Common.{◌≡◌, ℕ, zero, suc, ◌<◌, ◌^◌, List, [], ◌∷◌, ◌++◌, get_or, length, take, refl, sym, ap, ◌∙◌}
use Rattle.shm_segment.specs.SysSegment.{SysSegment}
use Rattle.ipc_base.specs.declared.field.Size.{Size}
use Rattle.ipc_base.specs.declared.field.Size.TheVariants.{Four}
use Rattle.ipc_state.specs.Keyed.{Keyed}
use Rattle.ipc_state.specs.State.{State}
use Rattle.ipc_base.specs.Numbers.{fields_bytes, FitFields}
use Rattle.ipc_base.proofs.CallerLemmas.{fields_one}
use Rattle.ipc_image.specs.declared.format.Format.{Format}
use Rattle.ipc_image.specs.Format.{IsFormat}
use Rattle.ipc_image.specs.Relations.Restored.{next_shm_bytes}
use Rattle.ipc_image.specs.Saved.{clock_sizes, clock_numbers, clock_bytes, count_bytes, HasKindsOf}
use Rattle.ipc_image.proofs.Formats.{by-form}

-- a state with its clock and its next numbers alone
abbrev pub emptied : State → State
emptied s =
    record {
      clock = s.clock;
      processes = record { next = s.processes.next; entries = [] };
      wait = [];
      undo = [];
      msg = record { next = s.msg.next; entries = [] };
      semset = record { next = s.semset.next; entries = [] };
      mq = record { next = s.mq.next; entries = [] };
      psem = record { next = s.psem.next; entries = [] };
      pshm = record { next = s.pshm.next; entries = [] };
      shm = record { next = s.shm.next; entries = [] };
    }

-- the first numbers of some have their places
fit-take : (k : ℕ) (sizes : List Size) (ns : List ℕ) → FitFields sizes ns → FitFields (take k sizes) (take k ns)
fit-take zero sizes ns fit = tt
fit-take (suc k) [] [] fit = tt
fit-take (suc k) [] (n ∷ ns) fit = absurd fit
fit-take (suc k) (s ∷ sizes) [] fit = absurd fit
fit-take (suc k) (s ∷ sizes) (n ∷ ns) fit = (fit.0, fit-take k sizes ns fit.1)

-- the numbers that every version has
abbrev pub first_sizes : List Size
first_sizes = take 7 clock_sizes

abbrev pub first_numbers : State → List ℕ
first_numbers s = take 7 (clock_numbers s)

pub first-fit : (s : State) → FitFields clock_sizes (clock_numbers s) → FitFields first_sizes (first_numbers s)
first-fit s fit = fit-take 7 clock_sizes (clock_numbers s) fit

pub all-fit : (s : State) → FitFields first_sizes (first_numbers s) → s.shm.next < 2 ^ 32 → FitFields clock_sizes (clock_numbers s)
all-fit s fit below = (fit.0, (fit.1.0, (fit.1.1.0, (fit.1.1.1.0, (fit.1.1.1.1.0, (fit.1.1.1.1.1.0, (fit.1.1.1.1.1.1.0, (below, tt))))))))

module _ (form : Format) (known : IsFormat form) where
  -- the object is they, and the next number of System V segments
  pub clock-parts : (s : State) → clock_bytes form s ≡ fields_bytes first_sizes (first_numbers s) ++ next_shm_bytes form s.shm.next
  clock-parts s =
      by-form (λ f. clock_bytes f s ≡ fields_bytes first_sizes (first_numbers s) ++ next_shm_bytes f s.shm.next) refl refl (λ j its. refl) form known

  -- which is as long for each
  pub shm-length : (n m : ℕ) → length (next_shm_bytes form n) ≡ length (next_shm_bytes form m)
  shm-length n m = by-form (λ f. length (next_shm_bytes f n) ≡ length (next_shm_bytes f m)) refl refl (λ j its. refl) form known

  shm_one : (s t : State) → s.shm.next < 2 ^ 32 → t.shm.next < 2 ^ 32 → HasKindsOf form s → HasKindsOf form t
      → next_shm_bytes form s.shm.next ≡ next_shm_bytes form t.shm.next → s.shm.next ≡ t.shm.next
  shm_one s t few less =
      let next : Keyed SysSegment → ℕ = λ k. k.next in
      by-form (λ f. HasKindsOf f s → HasKindsOf f t → next_shm_bytes f s.shm.next ≡ next_shm_bytes f t.shm.next → s.shm.next ≡ t.shm.next)
      (λ has also same. ap next (has refl ∙ sym (also refl))) (λ has also same. from same) (λ j its has also same. from same) form known
    where
      from : count_bytes s.shm.next ≡ count_bytes t.shm.next → s.shm.next ≡ t.shm.next
      from same =
          ap (λ (ns : List ℕ). get_or ns 0 0) (fields_one (Four ∷ []) (s.shm.next ∷ []) (t.shm.next ∷ []) [] [] (few, tt) (less, tt)
          (ap (λ (l : List ℕ). l ++ []) same)).0

  -- states with the same clock's object have the same clock and next numbers
  pub clock_one : (s t : State) → FitFields clock_sizes (clock_numbers s) → FitFields clock_sizes (clock_numbers t) → HasKindsOf form s
      → HasKindsOf form t → clock_bytes form s ≡ clock_bytes form t → emptied s ≡ emptied t
  clock_one s t fit also has kinds same =
      let both = fields_one first_sizes (first_numbers s) (first_numbers t) (next_shm_bytes form s.shm.next) (next_shm_bytes form t.shm.next)
      (first-fit s fit) (first-fit t also) (sym (clock-parts s) ∙ same ∙ clock-parts t) in
      let shm = shm_one s t fit.1.1.1.1.1.1.1.0 also.1.1.1.1.1.1.1.0 has kinds both.1 in
      let made : List ℕ → ℕ → State = λ ns n. record {
        clock = get_or ns 0 0;
        processes = record { next = get_or ns 1 0; entries = [] };
        wait = [];
        undo = [];
        msg = record { next = get_or ns 2 0; entries = [] };
        semset = record { next = get_or ns 3 0; entries = [] };
        mq = record { next = get_or ns 4 0; entries = [] };
        psem = record { next = get_or ns 5 0; entries = [] };
        pshm = record { next = get_or ns 6 0; entries = [] };
        shm = record { next = n; entries = [] };
      } in
      λ i. made (both.0 i) (shm i)
