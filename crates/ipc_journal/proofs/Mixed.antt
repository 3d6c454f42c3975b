-- A tagged batch is appended: an image in which each of its sectors is as it was, or written, holds the batches of
-- before, with the new one if all of them are written. The old sectors are of earlier epochs, so that no batch has one.
use Rattle.std.proofs.Common.{◌≡◌, ◌⊎◌, inl, inr, ⊎_elim, ℕ, zero, suc, ◌+◌, ◌-◌, ◌^◌, ◌<◌, ◌≤◌, List, [], ◌∷◌, ◌++◌, length, sym, ◌∙◌, ap, subst, arith}
use Rattle.std.proofs.lemmas.Bool.{cases_lt}
use borrow.Author.Count.{below_more}
use Rattle.ipc_disk.specs.declared.range.Range.{Range}
use Rattle.ipc_disk.specs.Medium.{Image}
use Rattle.ipc_disk.specs.Range.{IsOutside}
use Rattle.ipc_disk.specs.Standing.{sector_at}
use Rattle.ipc_disk.proofs.CallerLemmas.{sector_at-same}
use Rattle.ipc_journal.specs.declared.form.Form.TheVariants.{Tagged}
use Rattle.ipc_journal.specs.Batch.{epoch_in, IsBatch}
use Rattle.ipc_journal.specs.Journal.{sectors_of, Holds, IsAt, IsClear, Stand}
use Rattle.ipc_journal.specs.Matches.{HoldsOneMoreOrNot, KeepsSectors}
use Rattle.ipc_journal.specs.Meanwhile.{IsPartOf}
use Rattle.ipc_journal.specs.Tagged.{pieces_for, tagged_bytes, tagged_piece, IsMixed, IsTagged, IsTaggedAt, StandsTagged}
use Rattle.ipc_journal.proofs.CallerLemmas.{Fill-push, Fill-same, sectors_of-push}
use Rattle.ipc_journal.proofs.Tags.{IsTagged-bytes, StandsTagged-written}

-- each of so many has B, or one of them has A
pub all_or_one : (A B : ℕ → Type 0) (n : ℕ) → ((i : ℕ) → i < n → A i ⊎ B i) → ((i : ℕ) → i < n → B i) ⊎ ((i : ℕ) × (i < n) × A i)
all_or_one A B zero each = inl (λ i lt. absurd (omega (arith, lt)))
all_or_one A B (suc n) each = ⊎_elim
    (λ all. ⊎_elim (λ a. inr (n, omega arith, a)) (λ b. inl (λ i lt. below_more B n all b i (omega (arith, lt)))) (each n (omega arith)))
    (λ one. inr (one.0, omega (arith, one.1), one.2))
    (all_or_one A B n (λ i lt. each i (omega (arith, lt))))

module _ (range : Range) (epoch : ℕ) (batches : List (List ℕ)) (batch : List ℕ) (old image : Image) (is : IsBatch batch)
    (epoch_fits : epoch < 2 ^ 64) (number_fits : length batches + 1 < 2 ^ 32) (counted : range.count < 65536)
    (room : sectors_of Tagged batches + pieces_for (length batch) ≤ range.count)
    (holds : Holds Tagged range epoch batches old) (clear : IsClear Tagged range epoch (sectors_of Tagged batches) old)
    (mixed : IsMixed (range.first + sectors_of Tagged batches) epoch (length batches + 1) batch old image) where
  abbrev used : ℕ
  used = sectors_of Tagged batches

  abbrev at : ℕ
  at = range.first + used

  abbrev count : ℕ
  count = pieces_for (length batch)

  -- a sector of the batch as it is written
  abbrev written : ℕ → List ℕ
  written i = tagged_bytes epoch (length batches + 1) i count (tagged_piece i batch)

  some : 0 < count
  some = omega (arith, is.field)

  outside : (j : ℕ) → IsOutside (record { first = at; count = count }) j → sector_at old j ≡ sector_at image j
  outside j out = sector_at-same (IsOutside (record { first = at; count = count })) old image j mixed.outside out

  stand : Stand Tagged range epoch batches image
  stand = Fill-same Tagged range epoch 0 0 batches old image (λ j low high. outside j (inl (omega (arith, high)))) holds.stand

  -- after the batch nothing is of this epoch
  pub IsClear-after : IsClear Tagged range epoch (used + count) image
  IsClear-after i low high =
      subst (λ (s : List ℕ). epoch_in s < epoch) (outside (range.first + i) (inr (omega (arith, low)))) (clear i (omega (arith, low)) high)

  -- a sector of it that is as it was is of an earlier epoch
  old-older : (i : ℕ) → i < count → sector_at image (at + i) ≡ sector_at old (at + i) → epoch_in (sector_at image (at + i)) < epoch
  old-older i lt same =
      let place : range.first + (used + i) ≡ at + i = omega arith in
      subst (λ (s : List ℕ). epoch_in s < epoch) (ap (sector_at old) place ∙ sym same) (clear (used + i) (omega arith) (omega (arith, lt, room)))

  tag : (i : ℕ) → i < count → sector_at image (at + i) ≡ written i → IsTagged epoch (length batches + 1) i count (sector_at image (at + i))
  tag i lt new = subst (IsTagged epoch (length batches + 1) i count) (sym new)
      (IsTagged-bytes epoch (length batches + 1) i count (tagged_piece i batch) epoch_fits number_fits
      (omega (arith, lt, room, counted)) (omega (arith, room, counted)))

  -- if one of them is as it was, no batch goes on there
  pub without : (i : ℕ) → i < count → sector_at image (at + i) ≡ sector_at old (at + i) → Holds Tagged range epoch batches image
  without i lt same = record {
    stand = stand;
    ends = record {
      within = omega (arith, room);
      none = λ n whole. elim (cases_lt i n) [
        | inl less ↦ omega (arith, (whole.each i less).epoch_is, old-older i lt same)
        | inr le ↦ ⊎_elim
            (λ first. omega (arith, (whole.each 0 whole.some).epoch_is, old-older 0 some first))
            (λ first. omega (arith, (whole.each 0 whole.some).count_is, (tag 0 some first).count_is, le, lt))
            (mixed.inside 0 some)
      ];
      not_later = λ less.
          let first : at + 0 ≡ at = omega arith in
          subst (λ (k : ℕ). epoch_in (sector_at image k) ≤ epoch) first (⊎_elim
          (λ kept. omega (arith, old-older 0 some kept))
          (λ new. omega (arith, (tag 0 some new).epoch_is))
          (mixed.inside 0 some));
    };
  }

  -- if all are written it is there
  pub with_it : IsTaggedAt at epoch (length batches + 1) batch image → Holds Tagged range epoch (batches ++ batch ∷ []) image
  with_it all =
      let end = sectors_of-push Tagged batches batch in
      let from : at ≡ range.first + 0 + used = omega arith in
      let place : used ≡ 0 + used = omega arith in
      let number : length batches ≡ 0 + length batches = omega arith in
      let here : IsAt Tagged range epoch used (length batches) batch image = (
        record { some = some; within = room; each = λ i lt. tag i lt (all i lt) },
        subst (λ (n : ℕ). StandsTagged n batch image) from (StandsTagged-written at epoch (length batches + 1) batch image all),
      ) in
      record {
        stand = Fill-push Tagged range epoch 0 0 batches batch image stand is
            (subst (λ (n : ℕ). IsAt Tagged range epoch n (0 + length batches) batch image) place
            (subst (λ (n : ℕ). IsAt Tagged range epoch used n batch image) number here));
        ends = record {
          within = omega (arith, end, room);
          none = λ n whole.
              let next : range.first + sectors_of Tagged (batches ++ batch ∷ []) + 0 ≡ range.first + (used + count) = omega (arith, end) in
              omega (
                arith,
                ap (λ (k : ℕ). epoch_in (sector_at image k)) next,
                (whole.each 0 whole.some).epoch_is,
                IsClear-after (used + count) (omega arith) (omega (arith, end, whole.some, whole.within)),
              );
          not_later = λ less.
              let next : range.first + sectors_of Tagged (batches ++ batch ∷ []) ≡ range.first + (used + count) = omega (arith, end) in
              omega (arith, ap (λ (k : ℕ). epoch_in (sector_at image k)) next, IsClear-after (used + count) (omega arith) (omega (arith, end, less)));
        };
      }

  -- so it has the batch or not
  pub one_more_or_not : HoldsOneMoreOrNot Tagged range epoch batches batch image
  one_more_or_not = ⊎_elim
      (λ all. inr (with_it all))
      (λ one. inl (without one.0 one.1 one.2))
      (all_or_one (λ i. sector_at image (at + i) ≡ sector_at old (at + i)) (λ i. sector_at image (at + i) ≡ written i) count mixed.inside)

  -- and the sectors of before
  pub keeps : (earlier : Image) → IsClear Tagged range epoch used earlier → KeepsSectors Tagged range epoch earlier old
      → KeepsSectors Tagged range epoch earlier image
  keeps earlier clear_then kept i lt here = elim (cases_lt i used) [
    | inl less ↦ sym (outside (range.first + i) (inl (omega (arith, less)))) ∙ kept i lt here
    | inr le ↦ absurd (omega (arith, clear_then i le lt, here))
  ]

  -- and is a part of one in which all of them are written, and which has the sectors of before
  pub part-of : (whole : Image) → IsTaggedAt at epoch (length batches + 1) batch whole
      → ((i : ℕ) → i < used → sector_at old (range.first + i) ≡ sector_at whole (range.first + i)) → IsPartOf range epoch whole image
  part-of whole all same i lt = elim (cases_lt i used) [
    | inl less ↦ inr (sym (outside (range.first + i) (inl (omega (arith, less)))) ∙ same i less)
    | inr le ↦ elim (cases_lt i (used + count)) [
      | inl less ↦
          let j : ℕ = i - used in
          let place : at + j ≡ range.first + i = omega (arith, le) in
          subst (λ (n : ℕ). (epoch_in (sector_at image n) < epoch) ⊎ (sector_at image n ≡ sector_at whole n)) place (⊎_elim
          (λ kept. inl (old-older j (omega (arith, le, less)) kept))
          (λ new. inr (new ∙ sym (all j (omega (arith, le, less)))))
          (mixed.inside j (omega (arith, le, less))))
      | inr more ↦ inl (IsClear-after i more lt)
    ]
  ]
