-- What is read of tagged sectors while batches are appended: each sector as some image has it that is a part of one in
-- which all of them stand.
use Rattle.std.proofs.Common.{◌≡◌, ◌⊎◌, inl, inr, ⊎_elim, ℕ, ◌+◌, ◌-◌, ◌<◌, ◌≤◌, List, [], ◌∷◌, ◌++◌, length, refl, sym, ◌∙◌, ap, subst, arith}
use Rattle.std.proofs.lemmas.Bool.{cases_lt}
use Rattle.std.proofs.lemmas.List.{append_assoc}
use Rattle.ipc_disk.specs.declared.range.Range.{Range}
use Rattle.ipc_disk.specs.Medium.{Image}
use Rattle.ipc_disk.specs.Standing.{sector_at}
use Rattle.ipc_journal.specs.declared.form.Form.TheVariants.{Tagged}
use Rattle.ipc_journal.specs.Batch.{epoch_in}
use Rattle.ipc_journal.specs.Journal.{sectors_of, Fill, Holds, Stand}
use Rattle.ipc_journal.specs.Meanwhile.{HoldsAlone, IsPartOf}
use Rattle.ipc_journal.specs.Tagged.{pieces_for, IsEnd, IsTagged, IsWhole}
use Rattle.ipc_journal.proofs.CallerLemmas.{IsAt-one, IsAt-same, tagged-epoch}
use Rattle.ipc_journal.proofs.Mixed.{all_or_one}
use Rattle.ipc_journal.proofs.Tags.{IsWhole-one}

module _ (range : Range) (epoch : ℕ) (whole image : Image) (part : IsPartOf range epoch whole image) where
  -- a sector of this epoch is that of the whole image
  of-whole : (j : ℕ) → range.first ≤ j → j < range.first + range.count → epoch_in (sector_at image j) ≡ epoch
      → sector_at image j ≡ sector_at whole j
  of-whole j low high is =
      let i : ℕ = j - range.first in
      let at : range.first + i ≡ j = omega (arith, low) in
      ⊎_elim
      (λ less. absurd (omega (arith, less, ap (λ (n : ℕ). epoch_in (sector_at image n)) at, is)))
      (λ same. subst (λ (n : ℕ). sector_at image n ≡ sector_at whole n) at same)
      (part i (omega (arith, low, high)))

  -- and so all sectors of a batch are those of the whole image
  whole-of : (place before count : ℕ) → IsWhole range epoch place before count image → (i : ℕ) → i < count
      → sector_at image (range.first + place + i) ≡ sector_at whole (range.first + place + i)
  whole-of place before count is i lt =
      of-whole (range.first + place + i) (omega arith) (omega (arith, lt, is.within)) (is.each i lt).epoch_is

  IsWhole-part : (place before count : ℕ) → IsWhole range epoch place before count image → IsWhole range epoch place before count whole
  IsWhole-part place before count is = record {
    some = is.some;
    within = is.within;
    each = λ i lt. subst (IsTagged epoch (before + 1) i count) (whole-of place before count is i lt) (is.each i lt);
  }

  -- no sector is of a later epoch than in the whole image
  not-later : (place : ℕ) → place < range.count → epoch_in (sector_at whole (range.first + place)) ≤ epoch
      → epoch_in (sector_at image (range.first + place)) ≤ epoch
  not-later place lt le = ⊎_elim
      (λ less. omega (arith, less))
      (λ same. omega (arith, ap epoch_in same, le))
      (part place lt)

  -- where the whole one ends the image ends
  end-part : (place before : ℕ) → IsEnd range epoch place before whole → IsEnd range epoch place before image
  end-part place before end = record {
    within = end.within;
    none = λ count is. end.none count (IsWhole-part place before count is);
    not_later = λ lt. not-later place lt (end.not_later lt);
  }

  -- where one sector of a batch of the whole image is older, the image ends
  end-torn : (place before count i : ℕ) → IsWhole range epoch place before count whole → i < count
      → epoch_in (sector_at image (range.first + place + i)) < epoch → IsEnd range epoch place before image
  end-torn place before count i is lt older = record {
    within = omega (arith, is.within);
    none = λ n found.
        let one : n ≡ count = IsWhole-one range epoch place before n count whole (IsWhole-part place before n found) is in
        omega (arith, (found.each i (omega (arith, one, lt))).epoch_is, older);
    not_later = λ less.
        let first : range.first + place + 0 ≡ range.first + place = omega arith in
        not-later place less (omega (arith, ap (λ (n : ℕ). epoch_in (sector_at whole n)) first, (is.each 0 is.some).epoch_is));
  }

  -- the image has batches of the whole one, from the first on, and ends after them
  kept-read : (place before : ℕ) (batches : List (List ℕ)) → Fill Tagged range epoch place before batches whole
      → IsEnd range epoch (place + sectors_of Tagged batches) (before + length batches) whole
      → (kept : List (List ℕ)) × (rest : List (List ℕ)) × (batches ≡ kept ++ rest) × Fill Tagged range epoch place before kept image
      × IsEnd range epoch (place + sectors_of Tagged kept) (before + length kept) image
  kept-read place before [] fill end = ([], [], refl, tt, end-part (place + 0) (before + 0) end)
  kept-read place before (batch ∷ batches) fill end =
      let count : ℕ = pieces_for (length batch) in
      let Older : ℕ → Type 0 = λ i. epoch_in (sector_at image (range.first + place + i)) < epoch in
      let Same : ℕ → Type 0 = λ i. sector_at image (range.first + place + i) ≡ sector_at whole (range.first + place + i) in
      let each : (i : ℕ) → i < count → Older i ⊎ Same i = λ i lt.
      let at : range.first + (place + i) ≡ range.first + place + i = omega arith in
      subst (λ (n : ℕ). (epoch_in (sector_at image n) < epoch) ⊎ (sector_at image n ≡ sector_at whole n)) at
      (part (place + i) (omega (arith, lt, fill.1.0.within))) in
      ⊎_elim
      (λ all.
      let next : ℕ = place + count in
      let after = kept-read next (before + 1) batches fill.2
      (subst (λ (n : ℕ). IsEnd range epoch n (before + 1 + length batches) whole) (omega arith)
      (subst (λ (n : ℕ). IsEnd range epoch (place + (count + sectors_of Tagged batches)) n whole) (omega arith) end)) in
      let here = IsAt-same Tagged range epoch place before batch whole image
      (λ j low high.
      let i : ℕ = j - (range.first + place) in
      let at : range.first + place + i ≡ j = omega (arith, low) in
      sym (subst (λ (n : ℕ). sector_at image n ≡ sector_at whole n) at (all i (omega (arith, low, high)))))
      fill.1 in (
        batch ∷ after.0,
        after.1,
        ap (λ (l : List (List ℕ)). batch ∷ l) {x = batches} {y = after.0 ++ after.1} after.2,
        (fill.0, here, after.3),
        subst (λ (n : ℕ). IsEnd range epoch n (before + length (batch ∷ after.0)) image) (omega arith)
            (subst (λ (n : ℕ). IsEnd range epoch (next + sectors_of Tagged after.0) n image) (omega arith) after.4),
      ))
      (λ one. (
        [],
        batch ∷ batches,
        refl,
        tt,
        subst (λ (n : ℕ). IsEnd range epoch n (before + 0) image) (omega arith)
            (subst (λ (n : ℕ). IsEnd range epoch place n image) (omega arith) (end-torn place before count one.0 fill.1.0 one.1 one.2)),
      ))
      (all_or_one Older Same count each)

-- batches that stand from a place on are the first ones of those that go on to where the journal ends
Fill-first : (range : Range) (epoch place before : ℕ) (xs ys : List (List ℕ)) (image : Image) → Fill Tagged range epoch place before xs image
    → Fill Tagged range epoch place before ys image → IsEnd range epoch (place + sectors_of Tagged ys) (before + length ys) image
    → (more : List (List ℕ)) × (ys ≡ xs ++ more)
Fill-first range epoch place before [] ys image first second end = (ys, refl)
Fill-first range epoch place before (x ∷ xs) [] image first second end =
    let here : IsEnd range epoch place before image = subst (λ (n : ℕ). IsEnd range epoch n before image) (omega arith)
    (subst (λ (n : ℕ). IsEnd range epoch (place + 0) n image) (omega arith) end) in
    absurd (here.none (pieces_for (length x)) first.1.0)
Fill-first range epoch place before (x ∷ xs) (y ∷ ys) image first second end =
    let same : x ≡ y = IsAt-one Tagged range epoch place before x y image first.0 second.0 first.1 second.1 in
    let next : ℕ = place + pieces_for (length x) in
    let fill : Fill Tagged range epoch next (before + 1) ys image =
    subst (λ (l : List ℕ). Fill Tagged range epoch (place + pieces_for (length l)) (before + 1) ys image) (sym same) second.2 in
    let at : place + (pieces_for (length y) + sectors_of Tagged ys) ≡ next + sectors_of Tagged ys =
    omega (arith, ap (λ (l : List ℕ). pieces_for (length l)) same) in
    let after = Fill-first range epoch next (before + 1) xs ys image first.2 fill
    (subst (λ (n : ℕ). IsEnd range epoch n (before + 1 + length ys) image) at
    (subst (λ (n : ℕ). IsEnd range epoch (place + (pieces_for (length y) + sectors_of Tagged ys)) n image) (omega arith) end)) in
    (after.0, ap (λ (l : List ℕ). l ∷ ys) (sym same) ∙ ap (λ (l : List (List ℕ)). x ∷ l) after.1)

-- ---- the law

pub Holds-part : (range : Range) (epoch : ℕ) (earlier batches : List (List ℕ)) (whole image : Image) → Holds Tagged range epoch batches whole
    → IsPartOf range epoch whole image → Stand Tagged range epoch earlier image
    → (kept : List (List ℕ)) × (rest : List (List ℕ)) × (batches ≡ earlier ++ (kept ++ rest)) × Holds Tagged range epoch (earlier ++ kept) image
Holds-part range epoch earlier batches whole image holds part stand =
    let found = kept-read range epoch whole image part 0 0 batches holds.stand
    (subst (λ (n : ℕ). IsEnd range epoch n (0 + length batches) whole) (omega arith)
    (subst (λ (n : ℕ). IsEnd range epoch (sectors_of Tagged batches) n whole) (omega arith) holds.ends)) in
    let more = Fill-first range epoch 0 0 earlier found.0 image stand found.3 found.4 in
    let end : IsEnd range epoch (sectors_of Tagged found.0) (length found.0) image =
    subst (λ (n : ℕ). IsEnd range epoch n (length found.0) image) (omega arith)
    (subst (λ (n : ℕ). IsEnd range epoch (0 + sectors_of Tagged found.0) n image) (omega arith) found.4) in (
      more.0,
      found.1,
      found.2 ∙ ap (λ (l : List (List ℕ)). l ++ found.1) more.1 ∙ append_assoc earlier more.0 found.1,
      subst (λ (l : List (List ℕ)). Holds Tagged range epoch l image) more.1 (record { stand = found.3; ends = end }),
    )

pub IsPartOf-then : (range : Range) (epoch : ℕ) (whole mid image : Image) → IsPartOf range epoch whole mid → IsPartOf range epoch mid image
    → IsPartOf range epoch whole image
IsPartOf-then range epoch whole mid image first next i lt = ⊎_elim
    (λ older. inl older)
    (λ same. ⊎_elim
    (λ older. inl (subst (λ (s : List ℕ). epoch_in s < epoch) (sym same) older))
    (λ is. inr (same ∙ is))
    (first i lt))
    (next i lt)

-- the whole image is a part of one that has its batches
pub IsPartOf-same : (range : Range) (epoch : ℕ) (batches : List (List ℕ)) (whole image : Image) → HoldsAlone range epoch batches whole
    → Holds Tagged range epoch batches image → IsPartOf range epoch whole image → IsPartOf range epoch image whole
IsPartOf-same range epoch batches whole image alone holds part i lt = elim (cases_lt i (sectors_of Tagged batches)) [
  | inl less ↦
      let is = tagged-epoch range epoch 0 0 batches image holds.stand i (omega arith) (omega (arith, less)) in
      inr (⊎_elim (λ older. absurd (omega (arith, older, is))) (λ same. sym same) (part i lt))
  | inr le ↦ inl (alone.clear i le lt)
]
