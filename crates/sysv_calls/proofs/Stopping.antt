-- What becomes of a list of operations, by what its tests met.
use Rattle.std.proofs.Common.{◌≡◌, ◌∙◌, ℕ, zero, suc, ◌<◌, Bool, true, false, not, ◌&&◌, List, [], ◌∷◌, None, All, length, refl, sym, ap}
use Rattle.std.specs.Prelude.{Ok, Err, Option, if◌then◌else◌, slice_get}
use Rattle.std.proofs.lemmas.List.Elements.{All-head, All-tail, All-weaker}
use Rattle.ipc_base.specs.declared.errno.Errno.TheVariants.{EAGAIN, ENOSPC}
use Rattle.ipc_base.specs.declared.identity.Cred.{Cred}
use Rattle.ipc_limits.specs.declared.limits.Limits.{Limits}
use Rattle.sysv_sem.specs.declared.operation.Operation.{Operation}
use Rattle.sysv_sem.specs.declared.operation.Trial.{Trial}
use Rattle.sysv_sem.specs.declared.operation.Trial.TheVariants as trial
use Rattle.sysv_sem.specs.Operation.{Outcome, Done as IsDone, Blocks as Stops, Fails as IsRefused, gives_nothing, is_patient, outcome, trial_of}
use Rattle.sysv_sem.specs.Set.{Set, values_of}
use Rattle.sysv_sem.proofs.CallerLemmas.{stops-inside}
use Rattle.sysv_calls.specs.Relations.{CanPass}
use Rattle.ipc_state.specs.Keyed.{KeyedEntry}
use Rattle.ipc_state.specs.Finish.{Attempt, Halt, Fails, Blocks, refuse, ◌>>◌, ◌>>=◌}
use Rattle.ipc_state.proofs.CallerLemmas.{is_blocked}
use Rattle.ipc_state.specs.State.{State}
use Rattle.ipc_state.specs.Steps.{seen}
use Rattle.sysv_calls.specs.Semop.{decided, held_by, notes_too_many, operable, performable, proceeding, stopped_by, stopping, tried_list}

-- ---- what the tests came to

abbrev pub Tested : Type 0
Tested = Attempt (KeyedEntry Set × Outcome)

-- what is seen of them
abbrev pub met : Tested → Attempt Trial
met tried = seen (λ (found : KeyedEntry Set × Outcome). trial_of found.1) tried

-- a refusal after the tests of a call makes none wait that did not
pub refused-blocks : {X : Type 0} (b : Bool) (a : Attempt X) → is_blocked (a >>= (λ x. refuse ENOSPC b >> Ok x)) ≡ is_blocked a
refused-blocks true (Ok x) = refl
refused-blocks false (Ok x) = refl
refused-blocks b (Err (Fails e)) = refl
refused-blocks b (Err Blocks) = refl

-- nothing is looked at
abbrev unseen : {X : Type 0} → X → Unit {0}
unseen x = tt

-- and it is the same if nothing is seen of them
refused-seen : {X : Type 0} (b : Bool) (a : Attempt X)
    → (seen (unseen {X = X}) a >>= (λ (u : Unit {0}). refuse ENOSPC b >> Ok u)) ≡ seen (unseen {X = X}) (a >>= (λ (x : X). refuse ENOSPC b >> Ok x))
refused-seen true (Ok x) = refl
refused-seen false (Ok x) = refl
refused-seen b (Err h) = refl

-- whether the list may be performed, by that
abbrev pub settled : List Operation → Trial → Attempt (Unit {0})
settled ops trial.Done = Ok tt
settled ops (trial.Blocks at) = Err (stopped_by (slice_get ops at))
settled ops (trial.Fails e) = Err (Fails e)

pub settles : (ops : List Operation) (tried : Tested)
    → (met tried >>= settled ops)
    ≡ seen (λ (found : KeyedEntry Set × List ℕ). tt) (tried >>= (λ found. decided ops found.1 >>= (λ values. Ok (found.0, values))))
settles ops (Err h) = refl
settles ops (Ok (e, IsDone values after)) = refl
settles ops (Ok (e, Stops at)) = refl
settles ops (Ok (e, IsRefused errno)) = refl

-- ---- what they came to, by the set that may be tried

module _ (limits : Limits) (s : State) (cred : Cred) (pid : ℕ) (again : Bool) (id : ℕ) (ops : List Operation) where
  abbrev pub meeting : Set → Outcome
  meeting set = outcome (values_of set) (held_by s pid id) ops

  abbrev pub Operable : Attempt Set → Type 0
  Operable a = a ≡ seen (λ (e : KeyedEntry Set). e.object) (operable limits s cred again id ops)

  pub tried-of : (set : Set) → Operable (Ok set) → met (tried_list limits s cred pid again id ops) ≡ Ok (trial_of (meeting set))
  tried-of set is = by_set (operable limits s cred again id ops) is
    where
      by_set : (a : Attempt (KeyedEntry Set)) → (let b : Attempt Set = Ok set in b) ≡ seen (λ e. e.object) a
          → met (a >>= (λ e. Ok (e, meeting e.object))) ≡ Ok (trial_of (meeting set))
      by_set (Err h) is = cc
      by_set (Ok e) is = let same : set ≡ e.object = cc in ap (λ (x : Set). Ok (trial_of (meeting x))) (sym same)

  pub untried-of : (h : Halt) → Operable (Err h) → met (tried_list limits s cred pid again id ops) ≡ Err h
  untried-of h is = by_set (operable limits s cred again id ops) is
    where
      by_set : (a : Attempt (KeyedEntry Set)) → (let b : Attempt Set = Err h in b) ≡ seen (λ e. e.object) a
          → met (a >>= (λ e. Ok (e, meeting e.object))) ≡ Err h
      by_set (Err i) is = let same : h ≡ i = cc in ap (λ (j : Halt). Err j) (sym same)
      by_set (Ok e) is = cc

  -- unless it would note too much
  abbrev pub unless_too_many : Attempt (Unit {0}) → Attempt (Unit {0})
  unless_too_many a = a >>= (λ u. refuse ENOSPC (notes_too_many limits s pid id ops) >> Ok u)

  -- so the list may be performed, or what becomes of it
  pub performable-of : (set : Set) → Operable (Ok set)
      → unless_too_many (settled ops (trial_of (meeting set)))
      ≡ seen (λ (found : KeyedEntry Set × List ℕ). tt) (performable limits s cred pid again id ops)
  performable-of set is =
      ap unless_too_many (ap (λ (a : Attempt Trial). a >>= settled ops) (sym (tried-of set is))
      ∙ settles ops (tried_list limits s cred pid again id ops))
      ∙ refused-seen (notes_too_many limits s pid id ops) (proceeding limits s cred pid again id ops)

  -- of a list that is done each operation passes
  pub passes-of : (set : Set) → trial_of (meeting set) ≡ trial.Done → CanPass s pid id ops
  passes-of set is = by_outcome (meeting set) refl is
    where
      by_outcome : (r : Outcome) → meeting set ≡ r → trial_of r ≡ trial.Done → CanPass s pid id ops
      by_outcome (IsDone values after) was is = record { values = values_of set; after = values; held = after; done = was }
      by_outcome (Stops at) was is = cc
      by_outcome (IsRefused errno) was is = cc

  pub unperformable-of : (h : Halt) → Operable (Err h)
      → (let a : Attempt (Unit {0}) = Err h in a) ≡ seen (λ (found : KeyedEntry Set × List ℕ). tt) (performable limits s cred pid again id ops)
  unperformable-of h is =
      ap unless_too_many (ap (λ (a : Attempt Trial). a >>= settled ops) (sym (untried-of h is))
      ∙ settles ops (tried_list limits s cred pid again id ops))
      ∙ refused-seen (notes_too_many limits s pid id ops) (proceeding limits s cred pid again id ops)

  -- the operation that stops it is one of the list
  pub stops-at : (set : Set) (at : ℕ) → trial_of (meeting set) ≡ trial.Blocks at → at < length ops
  stops-at set at is = by_outcome (meeting set) refl is
    where
      by_outcome : (r : Outcome) → meeting set ≡ r → trial_of r ≡ trial.Blocks at → at < length ops
      by_outcome (IsDone values after) was is = cc
      by_outcome (Stops b) was is =
          let same : b ≡ at = cc in stops-inside (values_of set) (held_by s pid id) ops at (was ∙ ap Stops same)
      by_outcome (IsRefused errno) was is = cc

-- the trial, by what is decided
pub settled-by : (ops : List Operation) (r : Outcome) → decided ops r ≡ Err Blocks → settled ops (trial_of r) ≡ Err Blocks
settled-by ops (IsDone values after) is = cc
settled-by ops (Stops at) is = cc
settled-by ops (IsRefused e) is = cc

-- a list of patient operations that one of them stops has to wait
pub patient-waits : (ops : List Operation) (at : ℕ) → All (λ o. is_patient o ≡ true) ops → decided ops (Stops at) ≡ Err Blocks
patient-waits ops at all = ap (λ (h : Halt). Err h) (by_place ops at all)
  where
    by_flag : (a b : Bool) → (a && not b) ≡ true → (if b then Fails EAGAIN else Blocks) ≡ Blocks
    by_flag a false is = refl
    by_flag true true is = cc
    by_flag false true is = cc

    by_place : (os : List Operation) (k : ℕ) → All (λ o. is_patient o ≡ true) os → stopped_by (slice_get os k) ≡ Blocks
    by_place [] k all = refl
    by_place (o ∷ os) zero all = by_flag _ _ (All-head (λ p. is_patient p ≡ true) o os all)
    by_place (o ∷ os) (suc k) all = by_place os k (All-tail (λ p. is_patient p ≡ true) o os all)

-- patient operations give nothing
pub patient-gives : (ops : List Operation) → All (λ o. is_patient o ≡ true) ops → All (λ o. gives_nothing o ≡ true) ops
patient-gives ops all = All-weaker (λ o. is_patient o ≡ true) (λ o. gives_nothing o ≡ true) (λ o is. left (gives_nothing o) _ is) ops all
  where
    left : (a b : Bool) → (a && b) ≡ true → a ≡ true
    left true b is = refl
    left false b is = cc

-- the operation that stops it, by that
abbrev pub stopper : List Operation → Attempt Trial → Option Operation
stopper ops (Ok (trial.Blocks at)) = slice_get ops at
stopper ops a = None

pub stops : (ops : List Operation) (tried : Tested) → stopper ops (met tried) ≡ stopping ops tried
stops ops (Err h) = refl
stops ops (Ok (e, IsDone values after)) = refl
stops ops (Ok (e, Stops at)) = refl
stops ops (Ok (e, IsRefused errno)) = refl

-- it is one of the list
pub stops-within : (limits : Limits) (s : State) (cred : Cred) (pid : ℕ) (again : Bool) (id : ℕ) (ops : List Operation) (at : ℕ)
    → met (tried_list limits s cred pid again id ops) ≡ Ok (trial.Blocks at) → at < length ops
stops-within limits s cred pid again id ops at is = by_set (operable limits s cred again id ops) is
  where
    by_set : (a : Attempt (KeyedEntry Set)) → met (a >>= (λ e. Ok (e, outcome (values_of e.object) (held_by s pid id) ops))) ≡ Ok (trial.Blocks at)
        → at < length ops
    by_set (Err h) is = cc
    by_set (Ok e) is =
        let same : trial_of (meeting limits s cred pid again id ops e.object) ≡ trial.Blocks at = cc in
        stops-at limits s cred pid again id ops e.object at same
