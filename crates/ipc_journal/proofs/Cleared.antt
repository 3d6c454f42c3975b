-- The sectors after a journal's batches get zeros: each image still holds the batches, for zeros are of no epoch.
use Rattle.std.proofs.Common.{◌≡◌, ◌⊎◌, inl, inr, ⊎_elim, ℕ, ◌+◌, ◌<◌, ◌≤◌, List, length, replicate, sym, ◌∙◌, ap, subst, refl, arith}
use Rattle.std.specs.Prelude.{slice_set}
use Rattle.std.proofs.lemmas.Bool.{cases_lt}
use Rattle.ipc_disk.specs.declared.range.Range.{Range}
use Rattle.ipc_disk.specs.Medium.{Image, Medium, IsHonest, SetOrNot, Writes}
use Rattle.ipc_disk.specs.Since.{EachImageSince}
use Rattle.ipc_disk.specs.Standing.{sector_at}
use Rattle.ipc_disk.proofs.CallerLemmas.{EachImageSince-now, EachImageSince-step, sector_at-set_same, sector_at-set_other}
use Rattle.ipc_journal.specs.declared.form.Form.TheVariants.{Tagged}
use Rattle.ipc_journal.specs.Batch.{epoch_in}
use Rattle.ipc_journal.specs.Journal.{sectors_of, Holds}
use Rattle.ipc_journal.specs.Tagged.{IsTagged}
use Rattle.ipc_journal.proofs.CallerLemmas.{Fill-same}

-- each sector from this one on is as it was in the old image, or zeros, and each other one is as it was
abbrev pub IsCleared : ℕ → Image → Image → Type 0
IsCleared at old image = (j : ℕ) → (sector_at image j ≡ sector_at old j)
    ⊎ ((at ≤ j) × (sector_at image j ≡ replicate 512 0))

-- zeros are of epoch 0
pub epoch_in-zeros : epoch_in (replicate 512 0) ≡ 0
unfolding epoch_in
epoch_in-zeros = refl

-- one sector more gets zeros, or not
IsCleared-set : (from at : ℕ) (old image : Image) → from ≤ at → at < length image → IsCleared from old image
    → IsCleared from old (slice_set image at (replicate 512 0))
IsCleared-set from at old image low lt so_far j = elim (cases_lt j at) [
  | inl before ↦ other (λ same. absurd (omega (arith, same, before)))
  | inr le ↦ elim (cases_lt at j) [
    | inl after ↦ other (λ same. absurd (omega (arith, same, after)))
    | inr ge ↦
        let is : j ≡ at = omega (arith, le, ge) in
        inr (omega (arith, low, le), ap (sector_at (slice_set image at (replicate 512 0))) is ∙ sector_at-set_same image at (replicate 512 0) lt)
  ]
]
  where
    other : (j ≡ at → ⊥) → (sector_at (slice_set image at (replicate 512 0)) j ≡ sector_at old j)
        ⊎ ((from ≤ j) × (sector_at (slice_set image at (replicate 512 0)) j ≡ replicate 512 0))
    other differs =
        let stays = sector_at-set_other image at j (replicate 512 0) differs in
        ⊎_elim (λ same. inl (stays ∙ same)) (λ zeros. inr (zeros.0, stays ∙ zeros.1)) (so_far j)

-- each image is one of before with some of the sectors cleared
abbrev pub Cleared : ℕ → Medium → Image → Type 0
Cleared from old image = (before : Image) × old.images_now before × IsCleared from before image

-- one call more
pub cleared-more : (from at : ℕ) (old mid new : Medium) → from ≤ at → ((image : Image) → mid.images_now image → at < length image) → IsHonest mid
    → EachImageSince old mid (Cleared from old) → Writes at (replicate 512 0) mid new → EachImageSince old new (Cleared from old)
cleared-more from at old mid new low long honest so_far call =
    EachImageSince-step old mid new (Cleared from old) so_far call.time (λ image now. then image (call.images image now))
  where
    then : (image : Image) → SetOrNot at (replicate 512 0) mid image → Cleared from old image
    then image (before, now, inl same) = subst (Cleared from old) (sym same) (EachImageSince-now old mid _ so_far honest before now)
    then image (before, now, inr set) =
        let was = EachImageSince-now old mid _ so_far honest before now in
        subst (Cleared from old) (sym set) (was.0, was.1, IsCleared-set from at was.0 before low (long before now) was.2)

-- it holds the same batches
pub Holds-cleared : (range : Range) (epoch : ℕ) (batches : List (List ℕ)) (old image : Image) → 0 < epoch
    → IsCleared (range.first + sectors_of Tagged batches) old image → Holds Tagged range epoch batches old → Holds Tagged range epoch batches image
Holds-cleared range epoch batches old image later cleared holds = record {
  stand = Fill-same Tagged range epoch 0 0 batches old image
      (λ j low high. ⊎_elim (λ same. sym same) (λ zeros. absurd (omega (arith, high, zeros.0))) (cleared j)) holds.stand;
  ends = record {
    within = holds.ends.within;
    none = λ n whole. holds.ends.none n (record {
      some = whole.some;
      within = whole.within;
      each = λ i lt.
          let here = whole.each i lt in
          ⊎_elim
          (λ same. subst (IsTagged epoch (length batches + 1) i n) same here)
          (λ zeros. absurd (omega (arith, here.epoch_is, ap epoch_in zeros.1, epoch_in-zeros)))
          (cleared (range.first + sectors_of Tagged batches + i));
    });
    not_later = λ lt. ⊎_elim
        (λ same. subst (λ (s : List ℕ). epoch_in s ≤ epoch) (sym same) (holds.ends.not_later lt))
        (λ zeros. omega (arith, ap epoch_in zeros.1, epoch_in-zeros))
        (cleared (range.first + sectors_of Tagged batches));
  };
}
