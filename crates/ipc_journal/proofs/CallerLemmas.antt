-- What the crates above cite of a journal: which batches stand on a disk, that a journal stays what it is over a turn,
-- over reads, and over calls that leave its sectors alone, and what is read of one that grows.
use Rattle.std.specs.Prelude.{◌≡◌, ◌⊎◌, ℕ, ◌+◌, ◌-◌, ◌^◌, ◌<◌, ◌≤◌, List, [], ◌∷◌, ◌++◌, length, take, drop, refl}
use Rattle.std.proofs.Common.{inl, inr, sym, ◌∙◌, ap, subst, arith}
use Rattle.std.proofs.lemmas.List.{append-nil, append_assoc}
use Rattle.std.proofs.lemmas.Bool.{cases_lt}
use Rattle.byteorder.specs.Endian.{big_number}
use Rattle.byteorder.specs.Numbers.{big_from-take}
use Rattle.ipc_disk.specs.declared.range.Range.{Range}
use Rattle.ipc_disk.specs.Medium.{Image, Medium, IsHonest, Stays}
use Rattle.ipc_disk.specs.Range.{IsInside}
use Rattle.ipc_disk.specs.Since.{EachImageSince, LeavesAlone, SameAt}
use Rattle.ipc_disk.specs.Standing.{sector_at, piece, StandsAt}
use Rattle.ipc_disk.proofs.CallerLemmas.{EachImageSince-join, EachImageSince-now, EachImageSince-weaken, LeavesAlone-keeps}
use Rattle.ipc_disk.proofs.CallerLemmas.{sector_at-same, stands-same, StandsAt-front}
use Rattle.ipc_journal.specs.declared.form.Form.{Form}
use Rattle.ipc_journal.specs.declared.form.Form.TheVariants.{Headed, Tagged}
use Rattle.ipc_journal.specs.declared.journal.Journal.{Journal}
use Rattle.ipc_journal.specs.Batch.{epoch_in, length_in, IsBatch}
use Rattle.ipc_journal.specs.Headed.{header_bytes, used_in, Counts}
use Rattle.ipc_journal.specs.Tagged.{pieces_for, tagged_piece, IsTagged, StandsTagged}
use Rattle.ipc_journal.specs.Journal.{head, sector_of, sectors_in, sectors_of, IsAt, Fill, Stand, EndsAt, Holds, IsOlder, IsClear}
use Rattle.ipc_journal.specs.Journal.{HasBadHeader, HasLater, HasMore, IsNext}
use Rattle.ipc_journal.specs.View.{form_of, range_of, epoch_of, used_of, count_of}
use Rattle.ipc_journal.specs.Matches.{HoldsOneMoreOrNot, IsKept, JournalMatches, KeepsSectors}
use Rattle.ipc_journal.specs.Meanwhile.{Comes, ComesInOrder, HoldsAlone, IsPartOf, IsReadFrom, KeepsBatches}
use Rattle.ipc_journal.proofs.Headers.{Counts-header, Counts-one, Counts-same, epoch_in-header, used_in-header}
use Rattle.ipc_journal.proofs.Tags.{IsWhole-same, StandsTagged-same, IsEnd-same, tagged-same, tagged-front}

-- a batch takes a sector or more
pub sectors_in-some : (form : Form) (batch : List ℕ) → IsBatch batch → 0 < sectors_in form (length batch)
sectors_in-some Headed batch is = omega (arith, is.field)
sectors_in-some Tagged batch is = omega (arith, is.field)

-- the sectors of one batch more
pub sectors_of-push : (form : Form) (batches : List (List ℕ)) (batch : List ℕ)
    → sectors_of form (batches ++ batch ∷ []) ≡ sectors_of form batches + sectors_in form (length batch)
sectors_of-push form [] batch = omega arith
sectors_of-push form (first ∷ batches) batch = omega (arith, sectors_of-push form batches batch)

-- ---- one batch

length-front : (batch bytes : List ℕ) → take 4 bytes ≡ take 4 batch → length_in bytes ≡ length_in batch
unfolding length_in
length-front batch bytes same =
    sym (big_from-take 0 4 4 bytes (omega arith)) ∙ ap (λ (l : List ℕ). big_number 4 l) same ∙ big_from-take 0 4 4 batch (omega arith)

-- its first sector says how long it is
pub length-there : (at : ℕ) (batch : List ℕ) (image : Image) → IsBatch batch → StandsAt at batch image
    → length_in (sector_at image at) + 4 ≡ length batch
length-there at batch image is stands =
    omega (arith, length-front batch (sector_at image at) (StandsAt-front at batch image is.field stands), is.right)

-- what stands there and is as long as the first sector says is a batch
pub IsBatch-there : (at : ℕ) (batch : List ℕ) (image : Image) → 4 ≤ length batch → StandsAt at batch image
    → length_in (sector_at image at) + 4 ≡ length batch → IsBatch batch
IsBatch-there at batch image long stands said = record {
  field = long;
  right = omega (arith, length-front batch (sector_at image at) (StandsAt-front at batch image long stands), said);
}

-- so does the first tagged one
pub length-tagged : (at : ℕ) (batch : List ℕ) (image : Image) → IsBatch batch → StandsTagged at batch image
    → length_in (drop 16 (sector_at image at)) + 4 ≡ length batch
length-tagged at batch image is stands =
    omega (arith, length-front batch (drop 16 (sector_at image at)) (tagged-front at batch image is.field stands), is.right)

pub IsBatch-tagged : (at : ℕ) (batch : List ℕ) (image : Image) → 4 ≤ length batch → StandsTagged at batch image
    → length_in (drop 16 (sector_at image at)) + 4 ≡ length batch → IsBatch batch
IsBatch-tagged at batch image long stands said = record {
  field = long;
  right = omega (arith, length-front batch (drop 16 (sector_at image at)) (tagged-front at batch image long stands), said);
}

-- one batch stands at a place
pub IsAt-one : (form : Form) (range : Range) (epoch place before : ℕ) (x y : List ℕ) (image : Image) → IsBatch x → IsBatch y
    → IsAt form range epoch place before x image → IsAt form range epoch place before y image → x ≡ y
IsAt-one Headed range epoch place before x y image is other first second =
    let at = sector_of Headed range place in
    stands-same at x y image (sym (length-there at x image is first) ∙ length-there at y image other second) first second
IsAt-one Tagged range epoch place before x y image is other first second =
    let at = sector_of Tagged range place in
    tagged-same at x y image (sym (length-tagged at x image is first.1) ∙ length-tagged at y image other second.1) first.1 second.1

-- in the same sectors
pub IsAt-same : (form : Form) (range : Range) (epoch place before : ℕ) (batch : List ℕ) (a b : Image)
    → ((j : ℕ) → sector_of form range place ≤ j → j < sector_of form range place + sectors_in form (length batch) → sector_at a j ≡ sector_at b j)
    → IsAt form range epoch place before batch a → IsAt form range epoch place before batch b
IsAt-same Headed range epoch place before batch a b same here = λ i lt.
    ap (λ (s : List ℕ). take (length (piece i batch)) s) (sym (same (sector_of Headed range place + i) (omega arith) (omega (arith, lt)))) ∙ here i lt
IsAt-same Tagged range epoch place before batch a b same here = (
  IsWhole-same range epoch place before (pieces_for (length batch)) a b (λ j low high. same j (omega (arith, low)) (omega (arith, high))) here.0,
  StandsTagged-same (sector_of Tagged range place) batch a b same here.1,
)

-- ---- batches one after another

module _ (form : Form) (range : Range) (epoch : ℕ) where
  -- in the same sectors there are the same batches
  pub Fill-same : (place before : ℕ) (batches : List (List ℕ)) (a b : Image)
      → ((j : ℕ) → sector_of form range place ≤ j → j < sector_of form range place + sectors_of form batches → sector_at a j ≡ sector_at b j)
      → Fill form range epoch place before batches a → Fill form range epoch place before batches b
  Fill-same place before [] a b same fill = tt
  Fill-same place before (batch ∷ batches) a b same fill = (
    fill.0,
    IsAt-same form range epoch place before batch a b (λ j low high. same j low (omega (arith, high))) fill.1,
    Fill-same (place + sectors_in form (length batch)) (before + 1) batches a b
        (λ j low high. same j (omega (arith, low)) (omega (arith, high))) fill.2,
  )

  -- one more batch after them
  pub Fill-push : (place before : ℕ) (batches : List (List ℕ)) (batch : List ℕ) (image : Image) → Fill form range epoch place before batches image
      → IsBatch batch → IsAt form range epoch (place + sectors_of form batches) (before + length batches) batch image
      → Fill form range epoch place before (batches ++ batch ∷ []) image
  Fill-push place before [] batch image fill is here =
      let no_sector : place + 0 ≡ place = omega arith in
      let none : before + 0 ≡ before = omega arith in (
        is,
        subst (λ (n : ℕ). IsAt form range epoch n before batch image) no_sector
            (subst (λ (n : ℕ). IsAt form range epoch (place + 0) n batch image) none here),
        tt,
      )
  Fill-push place before (first ∷ batches) batch image fill is here =
      let at : place + (sectors_in form (length first) + sectors_of form batches) ≡ place + sectors_in form (length first) + sectors_of form batches =
      omega arith in
      let after : before + (length batches + 1) ≡ before + 1 + length batches = omega arith in (
        fill.0,
        fill.1,
        Fill-push (place + sectors_in form (length first)) (before + 1) batches batch image fill.2 is
            (subst (λ (n : ℕ). IsAt form range epoch n (before + 1 + length batches) batch image) at
            (subst (λ (n : ℕ). IsAt form range epoch (place + (sectors_in form (length first) + sectors_of form batches)) n batch image) (omega arith) here)),
      )

  -- the first ones of the batches stand where they stood
  pub Fill-front : (place before : ℕ) (batches more : List (List ℕ)) (image : Image) → Fill form range epoch place before (batches ++ more) image
      → Fill form range epoch place before batches image
  Fill-front place before [] more image fill = tt
  Fill-front place before (batch ∷ batches) more image fill =
      (fill.0, fill.1, Fill-front (place + sectors_in form (length batch)) (before + 1) batches more image fill.2)

-- where the journal ends, no batch is at a later end
ends-short : (form : Form) (range : Range) (epoch place before last after : ℕ) (batch : List ℕ) (image : Image) → EndsAt form range epoch place before image
    → IsBatch batch → IsAt form range epoch place before batch image → place + sectors_in form (length batch) ≤ last
    → EndsAt form range epoch last after image → ⊥
ends-short Headed range epoch place before last after batch image end is here more other =
    omega (arith, Counts-one range epoch place last image end other, is.field, more)
ends-short Tagged range epoch place before last after batch image end is here more other = end.none (pieces_for (length batch)) here.0

-- batches that stand from a place on to where the journal ends are one list
Fill-one : (form : Form) (range : Range) (epoch place before : ℕ) (xs ys : List (List ℕ)) (image : Image)
    → Fill form range epoch place before xs image → EndsAt form range epoch (place + sectors_of form xs) (before + length xs) image
    → Fill form range epoch place before ys image → EndsAt form range epoch (place + sectors_of form ys) (before + length ys) image → xs ≡ ys
Fill-one form range epoch place before [] [] image first end second other = refl
Fill-one form range epoch place before [] (y ∷ ys) image first end second other =
    let here : EndsAt form range epoch place before image = subst (λ (n : ℕ). EndsAt form range epoch n before image) (omega arith)
    (subst (λ (n : ℕ). EndsAt form range epoch (place + 0) n image) (omega arith) end) in
    absurd (ends-short form range epoch place before _ _ y image here second.0 second.1 (omega arith) other)
Fill-one form range epoch place before (x ∷ xs) [] image first end second other =
    let here : EndsAt form range epoch place before image = subst (λ (n : ℕ). EndsAt form range epoch n before image) (omega arith)
    (subst (λ (n : ℕ). EndsAt form range epoch (place + 0) n image) (omega arith) other) in
    absurd (ends-short form range epoch place before _ _ x image here first.0 first.1 (omega arith) end)
Fill-one form range epoch place before (x ∷ xs) (y ∷ ys) image first end second other =
    let same : x ≡ y = IsAt-one form range epoch place before x y image first.0 second.0 first.1 second.1 in
    let next : ℕ = place + sectors_in form (length x) in
    let fill : Fill form range epoch next (before + 1) ys image =
    subst (λ (l : List ℕ). Fill form range epoch (place + sectors_in form (length l)) (before + 1) ys image) (sym same) second.2 in
    let at : place + (sectors_in form (length y) + sectors_of form ys) ≡ next + sectors_of form ys =
    omega (arith, ap (λ (l : List ℕ). sectors_in form (length l)) same) in
    ap (λ (l : List ℕ). l ∷ xs) same
    ∙ ap (λ (l : List (List ℕ)). y ∷ l) (Fill-one form range epoch next (before + 1) xs ys image first.2
    (subst (λ (n : ℕ). EndsAt form range epoch n (before + 1 + length xs) image) (omega arith)
    (subst (λ (n : ℕ). EndsAt form range epoch (place + (sectors_in form (length x) + sectors_of form xs)) n image) (omega arith) end))
    fill
    (subst (λ (n : ℕ). EndsAt form range epoch n (before + 1 + length ys) image) at
    (subst (λ (n : ℕ). EndsAt form range epoch (place + (sectors_in form (length y) + sectors_of form ys)) n image) (omega arith) other)))

-- ---- the journal of an image

-- an image is one journal at an epoch
pub Holds-one : (form : Form) (range : Range) (epoch : ℕ) (xs ys : List (List ℕ)) (image : Image) → Holds form range epoch xs image
    → Holds form range epoch ys image → xs ≡ ys
Holds-one form range epoch xs ys image first second =
    Fill-one form range epoch 0 0 xs ys image first.stand (at_start xs first.ends) second.stand (at_start ys second.ends)
  where
    at_start : (bs : List (List ℕ)) → EndsAt form range epoch (sectors_of form bs) (length bs) image
        → EndsAt form range epoch (0 + sectors_of form bs) (0 + length bs) image
    at_start bs end = subst (λ (n : ℕ). EndsAt form range epoch n (0 + length bs) image) (omega arith)
        (subst (λ (n : ℕ). EndsAt form range epoch (sectors_of form bs) n image) (omega arith) end)

ends-same : (form : Form) (range : Range) (epoch place before : ℕ) (a b : Image)
    → ((j : ℕ) → IsInside range j → sector_at a j ≡ sector_at b j) → 0 < range.count
    → EndsAt form range epoch place before a → EndsAt form range epoch place before b
ends-same Headed range epoch place before a b same some end = Counts-same range epoch place a b (same range.first (omega arith, omega (arith, some))) end
ends-same Tagged range epoch place before a b same some end =
    IsEnd-same range epoch place before a b (λ j low high. same j (omega (arith, low), high)) end

-- where it ends is within its sectors
pub EndsAt-within : (form : Form) (range : Range) (epoch place before : ℕ) (image : Image) → head form ≤ range.count
    → EndsAt form range epoch place before image → head form + place ≤ range.count
EndsAt-within Headed range epoch place before image some (Counts.Older older none) = omega (arith, none, some)
EndsAt-within Headed range epoch place before image some (Counts.Current current said within) = omega (arith, within)
EndsAt-within Tagged range epoch place before image some end = omega (arith, end.within)

head-some : (form : Form) (range : Range) → 0 < range.count → head form ≤ range.count
head-some Headed range some = omega (arith, some)
head-some Tagged range some = omega arith

-- the sectors of a journal decide it
pub Holds-same : (form : Form) (range : Range) (epoch : ℕ) (batches : List (List ℕ)) (a b : Image) → 0 < range.count
    → ((j : ℕ) → IsInside range j → sector_at a j ≡ sector_at b j)
    → Holds form range epoch batches a → Holds form range epoch batches b
Holds-same form range epoch batches a b some same holds =
    let room = EndsAt-within form range epoch (sectors_of form batches) (length batches) a (head-some form range some) holds.ends in
    record {
      stand = Fill-same form range epoch 0 0 batches a b
          (λ j low high. same j (omega (arith, low), omega (arith, high, room))) holds.stand;
      ends = ends-same form range epoch (sectors_of form batches) (length batches) a b same some holds.ends;
    }

-- where all that stands there is older, there is no batch
pub Holds-older : (form : Form) (range : Range) (epoch : ℕ) (image : Image) → IsOlder form range epoch image → Holds form range epoch [] image
Holds-older Headed range epoch image older = record { stand = tt; ends = Counts.Older older refl }
Holds-older Tagged range epoch image older = record {
  stand = tt;
  ends = record {
    within = omega arith;
    none = λ count whole.
        let first : range.first + 0 + 0 ≡ range.first + 0 = omega arith in
        let tag = (whole.each 0 whole.some).epoch_is in
        let lt = older 0 (omega (arith, whole.some, whole.within)) in
        omega (arith, ap (λ (n : ℕ). epoch_in (sector_at image n)) first, tag, lt);
    not_later = λ lt. omega (arith, older 0 lt);
  };
}

-- then nothing there is of this epoch
pub IsClear-older : (form : Form) (range : Range) (epoch used : ℕ) (image : Image) → IsOlder form range epoch image → IsClear form range epoch used image
IsClear-older Headed range epoch used image older = tt
IsClear-older Tagged range epoch used image older = λ i low high. older i high

-- each sector of tagged batches is of their epoch
pub tagged-epoch : (range : Range) (epoch place before : ℕ) (batches : List (List ℕ)) (image : Image) → Fill Tagged range epoch place before batches image
    → (i : ℕ) → place ≤ i → i < place + sectors_of Tagged batches → epoch_in (sector_at image (range.first + i)) ≡ epoch
tagged-epoch range epoch place before [] image fill i low high = absurd (omega (arith, low, high))
tagged-epoch range epoch place before (batch ∷ batches) image fill i low high =
    elim (cases_lt i (place + pieces_for (length batch))) [
      | inl lt ↦
          let at : range.first + i ≡ range.first + place + (i - place) = omega (arith, low) in
          ap (λ (n : ℕ). epoch_in (sector_at image n)) at ∙ (fill.1.0.each (i - place) (omega (arith, lt, low))).epoch_is
      | inr le ↦ tagged-epoch range epoch (place + pieces_for (length batch)) (before + 1) batches image fill.2 i le (omega (arith, high))
    ]

-- under a later epoch all of a journal is older
pub IsOlder-turned : (form : Form) (range : Range) (epoch later : ℕ) (batches : List (List ℕ)) (image : Image) → epoch < later
    → Holds form range epoch batches image → IsClear form range epoch (sectors_of form batches) image → IsOlder form range later image
IsOlder-turned Headed range epoch later batches image lt holds clear =
    elim holds.ends [ Counts.Older older none ↦ omega (arith, older, lt) | Counts.Current current said within ↦ omega (arith, current, lt) ]
IsOlder-turned Tagged range epoch later batches image lt holds clear = λ i high.
    elim (cases_lt i (sectors_of Tagged batches)) [
      | inl less ↦ omega (arith, tagged-epoch range epoch 0 0 batches image holds.stand i (omega arith) (omega (arith, less)), lt)
      | inr le ↦ omega (arith, clear i le high, lt)
    ]

-- and there is no batch
pub Holds-turned : (form : Form) (range : Range) (epoch later : ℕ) (batches : List (List ℕ)) (image : Image) → epoch < later
    → Holds form range epoch batches image → IsClear form range epoch (sectors_of form batches) image → Holds form range later [] image
Holds-turned form range epoch later batches image lt holds clear =
    Holds-older form range later image (IsOlder-turned form range epoch later batches image lt holds clear)

-- an empty journal: the header of its epoch, and no used sector
pub Holds-header : (range : Range) (epoch : ℕ) (image : Image) → 0 < range.count → epoch < 2 ^ 64
    → sector_at image range.first ≡ header_bytes epoch 0 → Holds Headed range epoch [] image
Holds-header range epoch image has fits header = record {
  stand = tt;
  ends = Counts-header range epoch 0 image has (ap epoch_in header ∙ epoch_in-header epoch 0 fits) (ap used_in header ∙ used_in-header epoch 0 (omega arith));
}

-- ---- where a journal ends, and what comes next

-- where it ends there is no next batch, no more, and no later epoch
pub EndsAt-next : (form : Form) (range : Range) (epoch place before : ℕ) (batch : List ℕ) (image : Image) → EndsAt form range epoch place before image
    → IsNext form range epoch place before batch image → ⊥
EndsAt-next Headed range epoch place before batch image (Counts.Older older none) next = omega (arith, older, next.2)
EndsAt-next Headed range epoch place before batch image (Counts.Current current said within) next = omega (arith, said, next.3, next.0.field)
EndsAt-next Tagged range epoch place before batch image end next = end.none (pieces_for (length batch)) next.1.0

pub EndsAt-more : (form : Form) (range : Range) (epoch place before : ℕ) (image : Image) → EndsAt form range epoch place before image
    → HasMore form range epoch place before image → ⊥
EndsAt-more Headed range epoch place before image (Counts.Older older none) more = omega (arith, older, more.0)
EndsAt-more Headed range epoch place before image (Counts.Current current said within) more = omega (arith, said, more.1)
EndsAt-more Tagged range epoch place before image end more = end.none more.0 more.1

pub EndsAt-later : (form : Form) (range : Range) (epoch place before : ℕ) (image : Image) → EndsAt form range epoch place before image
    → HasLater form range epoch place image → ⊥
EndsAt-later Headed range epoch place before image end later = later
EndsAt-later Tagged range epoch place before image end later = omega (arith, end.not_later later.0, later.1)

-- the next batch is a batch, stands there, and is one more
pub IsNext-is : (form : Form) (range : Range) (epoch place before : ℕ) (batch : List ℕ) (image : Image) → IsNext form range epoch place before batch image
    → IsBatch batch
IsNext-is Headed range epoch place before batch image next = next.0
IsNext-is Tagged range epoch place before batch image next = next.0

pub IsNext-at : (form : Form) (range : Range) (epoch place before : ℕ) (batch : List ℕ) (image : Image) → IsNext form range epoch place before batch image
    → IsAt form range epoch place before batch image
IsNext-at Headed range epoch place before batch image next = next.1
IsNext-at Tagged range epoch place before batch image next = next.1

pub IsNext-more : (form : Form) (range : Range) (epoch place before : ℕ) (batch : List ℕ) (image : Image) → IsNext form range epoch place before batch image
    → HasMore form range epoch place before image
IsNext-more Headed range epoch place before batch image next = (next.2, omega (arith, next.3, next.0.field))
IsNext-more Tagged range epoch place before batch image next = (pieces_for (length batch), next.1.0)

-- of the batches that fill the journal the first is the next
pub IsNext-fill : (form : Form) (range : Range) (epoch place before : ℕ) (batch : List ℕ) (more : List (List ℕ)) (after : ℕ) (image : Image)
    → Fill form range epoch place before (batch ∷ more) image
    → EndsAt form range epoch (place + sectors_of form (batch ∷ more)) after image → IsNext form range epoch place before batch image
IsNext-fill Headed range epoch place before batch more after image fill (Counts.Older older none) = absurd (omega (arith, none, fill.0.field))
IsNext-fill Headed range epoch place before batch more after image fill (Counts.Current current said within) =
    (fill.0, fill.1, current, omega (arith, said))
IsNext-fill Tagged range epoch place before batch more after image fill end = (fill.0, fill.1)

-- where a batch stands, there is no later epoch
pub HasLater-at : (form : Form) (range : Range) (epoch place before : ℕ) (batch : List ℕ) (image : Image) → IsAt form range epoch place before batch image
    → HasLater form range epoch place image → ⊥
HasLater-at Headed range epoch place before batch image here later = later
HasLater-at Tagged range epoch place before batch image here later =
    let first : range.first + place + 0 ≡ range.first + place = omega arith in
    omega (arith, ap (λ (n : ℕ). epoch_in (sector_at image n)) first, (here.0.each 0 here.0.some).epoch_is, later.1)

-- under such a header there is no journal
pub Holds-bad : (form : Form) (range : Range) (epoch : ℕ) (batches : List (List ℕ)) (image : Image) → HasBadHeader form range epoch image
    → Holds form range epoch batches image → ⊥
Holds-bad Headed range epoch batches image bad holds = ends bad holds.ends
  where
    ends : HasBadHeader Headed range epoch image → Counts range epoch (sectors_of Headed batches) image → ⊥
    ends (inl later) (Counts.Older older none) = omega (arith, later, older)
    ends (inl later) (Counts.Current current said within) = omega (arith, later, current)
    ends (inr past) (Counts.Older older none) = omega (arith, past.0, older)
    ends (inr past) (Counts.Current current said within) = omega (arith, past.1, said, within)
Holds-bad Tagged range epoch batches image bad holds = bad

-- ---- sectors that stay

KeepsSectors-refl : (form : Form) (range : Range) (epoch : ℕ) (image : Image) → KeepsSectors form range epoch image image
KeepsSectors-refl Headed range epoch image = tt
KeepsSectors-refl Tagged range epoch image = λ i lt same. refl

KeepsSectors-same : (form : Form) (range : Range) (epoch : ℕ) (a b c d : Image)
    → ((j : ℕ) → IsInside range j → sector_at a j ≡ sector_at c j) → ((j : ℕ) → IsInside range j → sector_at b j ≡ sector_at d j)
    → KeepsSectors form range epoch a b → KeepsSectors form range epoch c d
KeepsSectors-same Headed range epoch a b c d first second keeps = tt
KeepsSectors-same Tagged range epoch a b c d first second keeps = λ i lt is.
    let inside : IsInside range (range.first + i) = (omega arith, omega (arith, lt)) in
    sym (second (range.first + i) inside) ∙ keeps i lt (ap epoch_in (first (range.first + i) inside) ∙ is) ∙ first (range.first + i) inside

-- no sector is of a later epoch
KeepsSectors-older : (form : Form) (range : Range) (epoch : ℕ) (a b : Image) → IsOlder form range epoch a → KeepsSectors form range epoch a b
KeepsSectors-older Headed range epoch a b older = tt
KeepsSectors-older Tagged range epoch a b older = λ i lt is. absurd (omega (arith, older i lt, is))

IsOlder-same : (form : Form) (range : Range) (epoch : ℕ) (a b : Image) → 0 < range.count
    → ((j : ℕ) → IsInside range j → sector_at a j ≡ sector_at b j)
    → IsOlder form range epoch a → IsOlder form range epoch b
IsOlder-same Headed range epoch a b some same older =
    subst (λ (s : List ℕ). epoch_in s < epoch) (same range.first (omega arith, omega (arith, some))) older
IsOlder-same Tagged range epoch a b some same older = λ i lt.
    subst (λ (s : List ℕ). epoch_in s < epoch) (same (range.first + i) (omega arith, omega (arith, lt))) (older i lt)

IsClear-same : (form : Form) (range : Range) (epoch used : ℕ) (a b : Image) → ((j : ℕ) → IsInside range j → sector_at a j ≡ sector_at b j)
    → IsClear form range epoch used a → IsClear form range epoch used b
IsClear-same Headed range epoch used a b same clear = tt
IsClear-same Tagged range epoch used a b same clear = λ i low high.
    subst (λ (s : List ℕ). epoch_in s < epoch) (same (range.first + i) (omega arith, omega (arith, high))) (clear i low high)

-- ---- a journal value and a disk

-- a read or a sync of others
pub JournalMatches-stays : (journal : Journal) (batches : List (List ℕ)) (old new : Medium) → Stays old new
    → JournalMatches journal batches old → JournalMatches journal batches new
JournalMatches-stays journal batches old new call at = record {
  used = at.used;
  count = at.count;
  kept = record {
    honest = call.time.honest.0 at.kept.honest;
    images = λ image now. at.kept.images image (call.images image now);
    clear = λ image now. at.kept.clear image (call.images image now);
    alike = λ a b here there. at.kept.alike a b (call.images a here) (call.images b there);
  };
}

-- a journal that stands there, with a header, on a disk on which a crash leaves what is read
pub JournalMatches-headed : (journal : Journal) (batches : List (List ℕ)) (medium : Medium) → form_of journal ≡ Headed
    → used_of journal ≡ sectors_of (form_of journal) batches → count_of journal ≡ length batches → IsHonest medium
    → ((image : Image) → medium.images_now image → Holds (form_of journal) (range_of journal) (epoch_of journal) batches image)
    → JournalMatches journal batches medium
JournalMatches-headed journal batches medium headed used count honest images = record {
  used = used;
  count = count;
  kept = record {
    honest = honest;
    images = images;
    clear = λ image now. subst (λ (f : Form). IsClear f (range_of journal) (epoch_of journal) (sectors_of f batches) image) (sym headed) tt;
    alike = λ a b here there. subst (λ (f : Form). KeepsSectors f (range_of journal) (epoch_of journal) a b) (sym headed) tt;
  };
}

module _ (places : ℕ → Type 0) (journal : Journal) (batches : List (List ℕ)) (old new : Medium) (some : 0 < (range_of journal).count)
    (inside : (i : ℕ) → IsInside (range_of journal) i → places i) (run : LeavesAlone places old new) (at : JournalMatches journal batches old) where
  -- calls that leave the journal's sectors alone, at each moment
  pub EachImageSince-alone : EachImageSince old new (Holds (form_of journal) (range_of journal) (epoch_of journal) batches)
  EachImageSince-alone =
      LeavesAlone-keeps places old new (Holds (form_of journal) (range_of journal) (epoch_of journal) batches) run at.kept.images
      (λ a b same holds. Holds-same (form_of journal) (range_of journal) (epoch_of journal) batches a b some
      (λ j here. sector_at-same places a b j same (inside j here)) holds)

  from : (image : Image) → new.images_now image → (before : Image) × old.images_now before × SameAt places before image
  from = EachImageSince-now old new _ run.images run.honest

  same_as : (a b : Image) → SameAt places a b → (j : ℕ) → IsInside (range_of journal) j → sector_at a j ≡ sector_at b j
  same_as a b same j here = sector_at-same places a b j same (inside j here)

  -- under a later epoch all of it stays older
  pub EachImageSince-older : (later : ℕ) → epoch_of journal < later → EachImageSince old new (IsOlder (form_of journal) (range_of journal) later)
  EachImageSince-older later lt =
      LeavesAlone-keeps places old new (IsOlder (form_of journal) (range_of journal) later) run
      (λ image now. IsOlder-turned (form_of journal) (range_of journal) (epoch_of journal) later batches image lt (at.kept.images image now)
      (at.kept.clear image now))
      (λ a b same older. IsOlder-same (form_of journal) (range_of journal) later a b some (λ j here. sector_at-same places a b j same (inside j here)) older)

  -- and after them
  pub JournalMatches-alone : JournalMatches journal batches new
  JournalMatches-alone = record {
    used = at.used;
    count = at.count;
    kept = record {
      honest = run.honest;
      images = EachImageSince-now old new (Holds (form_of journal) (range_of journal) (epoch_of journal) batches) EachImageSince-alone run.honest;
      clear = λ image now.
          let was = from image now in
          IsClear-same (form_of journal) (range_of journal) (epoch_of journal) _ was.0 image (same_as was.0 image was.2) (at.kept.clear was.0 was.1);
      alike = λ a b here there.
          let first = from a here in
          let second = from b there in
          KeepsSectors-same (form_of journal) (range_of journal) (epoch_of journal) first.0 second.0 a b (same_as first.0 a first.2)
          (same_as second.0 b second.2) (at.kept.alike first.0 second.0 first.1 second.1);
    };
  }

-- a turn
pub JournalMatches-turned : (old new : Journal) (batches : List (List ℕ)) (medium : Medium)
    → form_of new ≡ form_of old → range_of new ≡ range_of old
    → epoch_of old < epoch_of new → used_of new ≡ 0 → count_of new ≡ 0
    → JournalMatches old batches medium → JournalMatches new [] medium
JournalMatches-turned old new batches medium form range lt used count at = record {
  used = used;
  count = count;
  kept = record {
    honest = at.kept.honest;
    images = λ image now. Holds-older (form_of new) (range_of new) (epoch_of new) image (older image now);
    clear = λ image now. IsClear-older (form_of new) (range_of new) (epoch_of new) 0 image (older image now);
    alike = λ a b here there. KeepsSectors-older (form_of new) (range_of new) (epoch_of new) a b (older a here);
  };
}
  where
    older : (image : Image) → medium.images_now image → IsOlder (form_of new) (range_of new) (epoch_of new) image
    older image now =
        subst (λ (f : Form). IsOlder f (range_of new) (epoch_of new) image) (sym form)
        (subst (λ (r : Range). IsOlder (form_of old) r (epoch_of new) image) (sym range)
        (IsOlder-turned (form_of old) (range_of old) (epoch_of old) (epoch_of new) batches image lt (at.kept.images image now) (at.kept.clear image now)))

-- ---- a journal that is read while it grows

-- a sector that was read is that of an image in which these batches stand from a place on
record Source (form : Form) (range : Range) (epoch place before : ℕ) (batches : List (List ℕ)) (read : Image) (i : ℕ) : Type 0 where
  later : Image
  fill : Fill form range epoch place before batches later
  same : sector_at read i ≡ sector_at later i

IsAt-read : (form : Form) (range : Range) (epoch place before : ℕ) (batch : List ℕ) (more : List (List ℕ)) (read : Image) → IsBatch batch
    → ((i : ℕ) → sector_of form range place ≤ i → i < sector_of form range place + sectors_in form (length batch)
    → Source form range epoch place before (batch ∷ more) read i) → IsAt form range epoch place before batch read
IsAt-read Headed range epoch place before batch more read is from = λ i lt.
    let source = from (sector_of Headed range place + i) (omega arith) (omega (arith, lt)) in
    ap (λ (s : List ℕ). take (length (piece i batch)) s) source.same ∙ source.fill.1 i lt
IsAt-read Tagged range epoch place before batch more read is from =
    let first = from (sector_of Tagged range place) (omega arith) (omega (arith, sectors_in-some Tagged batch is)) in (
      record {
        some = first.fill.1.0.some;
        within = first.fill.1.0.within;
        each = λ i lt. let source = from (range.first + place + i) (omega arith) (omega (arith, lt)) in
            subst (IsTagged epoch (before + 1) i (pieces_for (length batch))) (sym source.same) (source.fill.1.0.each i lt);
      },
      λ i lt. let source = from (sector_of Tagged range place + i) (omega arith) (omega (arith, lt)) in
          ap (λ (s : List ℕ). take (length (tagged_piece i batch)) (drop 16 s)) source.same ∙ source.fill.1.1 i lt,
    )

Fill-read : (form : Form) (range : Range) (epoch place before : ℕ) (batches : List (List ℕ)) (first read : Image)
    → Fill form range epoch place before batches first
    → ((i : ℕ) → sector_of form range place ≤ i → i < sector_of form range place + sectors_of form batches
    → Source form range epoch place before batches read i) → Fill form range epoch place before batches read
Fill-read form range epoch place before [] first read fill from = tt
Fill-read form range epoch place before (batch ∷ batches) first read fill from = (
  fill.0,
  IsAt-read form range epoch place before batch batches read fill.0 (λ i low high. from i low (omega (arith, high))),
  Fill-read form range epoch (place + sectors_in form (length batch)) (before + 1) batches first read fill.2
      (λ i low high. let source = from i (omega (arith, low)) (omega (arith, high)) in
      record { later = source.later; fill = source.fill.2; same = source.same }),
)

-- batches that stand in each image of which a sector was read stand in what was read
pub Stand-read : (form : Form) (range : Range) (epoch : ℕ) (batches : List (List ℕ)) (first read : Image) → Stand form range epoch batches first
    → ((i : ℕ) → (later : Image) × Stand form range epoch batches later × (sector_at read i ≡ sector_at later i))
    → Stand form range epoch batches read
Stand-read form range epoch batches first read stand from =
    Fill-read form range epoch 0 0 batches first read stand
    (λ i low high. let source = from i in record { later = source.0; fill = source.1; same = source.2 })

-- what the header counts when it is read is read whole
pub Holds-read : (range : Range) (epoch : ℕ) (batches : List (List ℕ)) (first read : Image) → Holds Headed range epoch batches first
    → IsReadFrom range epoch first read → Holds Headed range epoch batches read
Holds-read range epoch batches first read holds is =
    record {
      stand = Fill-read Headed range epoch 0 0 batches first read holds.stand
          (λ i low high. let from = is.body i (omega (arith, low)) (within holds.ends i low high) in
          record { later = from.0; fill = from.1 batches holds; same = from.2 });
      ends = Counts-same range epoch (sectors_of Headed batches) first read (sym is.header) holds.ends;
    }
  where
    within : Counts range epoch (sectors_of Headed batches) first → (i : ℕ) → range.first + 1 + 0 ≤ i
        → i < range.first + 1 + 0 + sectors_of Headed batches → i < range.first + range.count
    within (Counts.Older older none) i low high = absurd (omega (arith, low, high, none))
    within (Counts.Current current said room) i low high = omega (arith, high, room)

module _ (form : Form) (range : Range) (epoch : ℕ) where
  -- what is kept stands
  pub KeepsBatches-stand : (a b : Image) → KeepsBatches form range epoch a b → (batches : List (List ℕ)) → Holds form range epoch batches a
      → Stand form range epoch batches b
  KeepsBatches-stand a b keeps batches here =
      let more = keeps batches here in
      Fill-front form range epoch 0 0 batches more.0 b more.1.stand

  -- the same batches, and then more
  pub KeepsBatches-same : (batches : List (List ℕ)) (a b : Image) → Holds form range epoch batches a → Holds form range epoch batches b
      → KeepsBatches form range epoch a b
  KeepsBatches-same batches a b before after xs here =
      let same : batches ≡ xs ++ [] = Holds-one form range epoch batches xs a before here ∙ sym (append-nil xs) in
      ([], subst (λ (l : List (List ℕ)). Holds form range epoch l b) same after)

  pub KeepsBatches-refl : (image : Image) → KeepsBatches form range epoch image image
  KeepsBatches-refl image batches here = ([], subst (λ (l : List (List ℕ)). Holds form range epoch l image) (sym (append-nil batches)) here)

  pub KeepsBatches-then : (a b c : Image) → KeepsBatches form range epoch a b → KeepsBatches form range epoch b c → KeepsBatches form range epoch a c
  KeepsBatches-then a b c first next batches here =
      let one = first batches here in
      let two = next (batches ++ one.0) one.1 in
      (one.0 ++ two.0, subst (λ (l : List (List ℕ)). Holds form range epoch l c) (append_assoc batches one.0 two.0) two.1)

  -- an image that has one batch more, or not, keeps those of before
  pub KeepsBatches-more : (batches : List (List ℕ)) (batch : List ℕ) (earlier later : Image) → Holds form range epoch batches earlier
      → HoldsOneMoreOrNot form range epoch batches batch later → KeepsBatches form range epoch earlier later
  KeepsBatches-more batches batch earlier later before (inl same) = KeepsBatches-same batches earlier later before same
  KeepsBatches-more batches batch earlier later before (inr more) = λ xs here.
      let same : batches ≡ xs = Holds-one form range epoch batches xs earlier before here in
      (batch ∷ [], subst (λ (l : List (List ℕ)). Holds form range epoch (l ++ batch ∷ []) later) same more)

-- while a batch is appended each image has it or not
pub Comes-moment : {D : Type 0} (medium : D → Medium) (form : Form) (range : Range) (epoch : ℕ) (batches : List (List ℕ)) (batch : List ℕ) (old new : D)
    → Comes medium form range epoch batches batch old new
    → EachImageSince (medium old) (medium new) (HoldsOneMoreOrNot form range epoch batches batch)
Comes-moment medium Headed range epoch batches batch old new (inl same) =
    EachImageSince-weaken (medium old) (medium new) _ _ same (λ image holds. inl holds)
Comes-moment medium Headed range epoch batches batch old new (inr (between, same, more)) =
    let P : Image → Type 0 = HoldsOneMoreOrNot Headed range epoch batches batch in
    EachImageSince-join (medium old) (medium between) (medium new) P
    (EachImageSince-weaken (medium old) (medium between) _ P same (λ image holds. inl holds))
    (EachImageSince-weaken (medium between) (medium new) _ P more (λ image both. both.1))
Comes-moment medium Tagged range epoch batches batch old new both = both.0

pub ComesInOrder-moment : {D : Type 0} (medium : D → Medium) (journal : Journal) (batches : List (List ℕ)) (batch : List ℕ) (old new : D)
    → ComesInOrder medium journal batches batch old new
    → EachImageSince (medium old) (medium new) (HoldsOneMoreOrNot (form_of journal) (range_of journal) (epoch_of journal) batches batch)
ComesInOrder-moment medium journal batches batch old new =
    Comes-moment medium (form_of journal) (range_of journal) (epoch_of journal) batches batch old new

-- of two images with the same batches, in the same sectors and with nothing after them, each is a part of the other
IsPartOf-alike : (range : Range) (epoch : ℕ) (batches : List (List ℕ)) (whole image : Image) → HoldsAlone range epoch batches image
    → KeepsSectors Tagged range epoch image whole → IsPartOf range epoch whole image
IsPartOf-alike range epoch batches whole image alone keeps i lt = elim (cases_lt i (sectors_of Tagged batches)) [
  | inl less ↦ inr (sym (keeps i lt (tagged-epoch range epoch 0 0 batches image alone.holds.stand i (omega arith) (omega (arith, less)))))
  | inr le ↦ inl (alone.clear i le lt)
]

-- so is one with the same sectors
IsPartOf-as : (range : Range) (epoch : ℕ) (whole a b : Image) → ((j : ℕ) → IsInside range j → sector_at a j ≡ sector_at b j)
    → IsPartOf range epoch whole a → IsPartOf range epoch whole b
IsPartOf-as range epoch whole a b same part i lt =
    subst (λ (s : List ℕ). (epoch_in s < epoch) ⊎ (s ≡ sector_at whole (range.first + i))) (same (range.first + i) (omega arith, omega (arith, lt)))
    (part i lt)

-- no batch comes while calls leave the journal's sectors alone
Comes-alone : {D : Type 0} (medium : D → Medium) (form : Form) (range : Range) (epoch : ℕ) (batches : List (List ℕ)) (batch : List ℕ) (old new : D)
    (places : ℕ → Type 0) → ((i : ℕ) → IsInside range i → places i) → LeavesAlone places (medium old) (medium new)
    → EachImageSince (medium old) (medium new) (Holds form range epoch batches) → IsKept form range epoch batches (medium old)
    → Comes medium form range epoch batches batch old new
Comes-alone medium Headed range epoch batches batch old new places inside run same kept = inl same
Comes-alone medium Tagged range epoch batches batch old new places inside run same kept =
    let whole : Image = (medium old).contents in
    let as_it : (a b : Image) → SameAt places a b → (j : ℕ) → IsInside range j → sector_at a j ≡ sector_at b j =
    λ a b alike j here. sector_at-same places a b j alike (inside j here) in
    let alone : (image : Image) → (medium old).images_now image → HoldsAlone range epoch batches image =
    λ image now. record { holds = kept.images image now; clear = kept.clear image now } in (
      EachImageSince-weaken (medium old) (medium new) _ _ same (λ image holds. inl holds),
      λ earlier now. EachImageSince-weaken (medium old) (medium new) _ (KeepsSectors Tagged range epoch earlier) run.images
          (λ image from i lt is.
          sym (as_it from.0 image from.2 (range.first + i) (omega arith, omega (arith, lt))) ∙ kept.alike earlier from.0 now from.1 i lt is),
      record {
        whole = whole;
        holds = inl (alone whole kept.honest.reads);
        each = EachImageSince-weaken (medium old) (medium new) _ (IsPartOf range epoch whole) run.images
            (λ image from. IsPartOf-as range epoch whole from.0 image (as_it from.0 image from.2)
            (IsPartOf-alike range epoch batches whole from.0 (alone from.0 from.1) (kept.alike from.0 whole from.1 kept.honest.reads)));
      },
    )

pub ComesInOrder-alone : {D : Type 0} (medium : D → Medium) (places : ℕ → Type 0) (journal : Journal) (batches : List (List ℕ)) (batch : List ℕ) (old new : D)
    → 0 < (range_of journal).count → ((i : ℕ) → IsInside (range_of journal) i → places i) → LeavesAlone places (medium old) (medium new)
    → JournalMatches journal batches (medium old) → ComesInOrder medium journal batches batch old new
ComesInOrder-alone medium places journal batches batch old new some inside run at =
    Comes-alone medium (form_of journal) (range_of journal) (epoch_of journal) batches batch old new places inside run
    (EachImageSince-alone places journal batches (medium old) (medium new) some inside run at) at.kept

-- and it keeps the batches of before
pub KeepsBatches-append : (journal : Journal) (batches : List (List ℕ)) (batch : List ℕ) (old : Medium) → JournalMatches journal batches old
    → (earlier later : Image) → old.images_now earlier
    → HoldsOneMoreOrNot (form_of journal) (range_of journal) (epoch_of journal) batches batch later
    → KeepsBatches (form_of journal) (range_of journal) (epoch_of journal) earlier later
KeepsBatches-append journal batches batch old at earlier later now =
    KeepsBatches-more (form_of journal) (range_of journal) (epoch_of journal) batches batch earlier later (at.kept.images earlier now)
