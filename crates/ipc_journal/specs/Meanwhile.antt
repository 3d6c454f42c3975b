-- What is there for one who reads a journal while batches are appended to it. With a header, the sectors of a batch
-- stand before the header counts it; so what it counts when it is read is there for one who goes on to read the body.
-- Tagged sectors of this epoch stay as they are.
use Rattle.std.specs.Prelude.{◌≡◌, ◌⊎◌, ℕ, ◌+◌, ◌<◌, List, [], ◌∷◌, ◌++◌}
use Rattle.ipc_disk.specs.declared.range.Range.{Range}
use Rattle.ipc_disk.specs.Medium.{Image, Medium}
use Rattle.ipc_disk.specs.Since.{EachImageSince}
use Rattle.ipc_disk.specs.Standing.{sector_at}
use Rattle.ipc_journal.specs.declared.form.Form.{Form}
use Rattle.ipc_journal.specs.declared.form.Form.TheVariants.{Headed, Tagged}
use Rattle.ipc_journal.specs.declared.journal.Journal.{Journal}
use Rattle.ipc_journal.specs.Batch.{epoch_in}
use Rattle.ipc_journal.specs.Journal.{sectors_of, Holds, IsClear, Stand}
use Rattle.ipc_journal.specs.Matches.{HoldsOneMoreOrNot, KeepsSectors}
use Rattle.ipc_journal.specs.View.{form_of, epoch_of, range_of}

-- at this epoch the later image has the batches of the earlier one, and may have more after them
abbrev pub KeepsBatches : Form → Range → ℕ → Image → Image → Type 0
KeepsBatches form range epoch earlier later = (batches : List (List ℕ)) → Holds form range epoch batches earlier
    → (more : List (List ℕ)) × Holds form range epoch (batches ++ more) later

-- What was read of a journal with a header, which was read first: it is that of an image, and each sector after it is
-- as it is in an image in which the batches of that one stand.
pub record IsReadFrom (range : Range) (epoch : ℕ) (first read : Image) : Type 0 where
  pub header : sector_at read range.first ≡ sector_at first range.first
  pub body : (i : ℕ) → range.first < i → i < range.first + range.count
      → (later : Image)
      × ((batches : List (List ℕ)) → Holds Headed range epoch batches first → Stand Headed range epoch batches later)
      × (sector_at read i ≡ sector_at later i)

-- Each tagged sector of the image is as it is in the whole one, or is of an earlier epoch: it may lack sectors of what
-- the whole one has.
abbrev pub IsPartOf : Range → ℕ → Image → Image → Type 0
IsPartOf range epoch whole image = (i : ℕ) → i < range.count
    → (epoch_in (sector_at image (range.first + i)) < epoch)
    ⊎ (sector_at image (range.first + i) ≡ sector_at whole (range.first + i))

-- an image holds these tagged batches, and after them nothing of their epoch
pub record HoldsAlone (range : Range) (epoch : ℕ) (batches : List (List ℕ)) (image : Image) : Type 0 where
  pub holds : Holds Tagged range epoch batches image
  pub clear : IsClear Tagged range epoch (sectors_of Tagged batches) image

-- Tagged sectors of one batch come, in any order: some image has the batch whole, or none comes, and each image since
-- is a part of that one.
pub record ComesInParts (range : Range) (epoch : ℕ) (batches : List (List ℕ)) (batch : List ℕ) (old new : Medium)
    : Type 0 where
  pub whole : Image
  pub holds : HoldsAlone range epoch batches whole ⊎ HoldsAlone range epoch (batches ++ batch ∷ []) whole
  pub each : EachImageSince old new (IsPartOf range epoch whole)

-- A batch comes to a journal with a header: up to some moment each image has the batches of before, and from then on
-- the sectors of this one stand too, and it is one more of them or not. Or that moment never came. To a tagged journal
-- it comes at once: each image has it or not, keeps the sectors of before, and is a part of what comes.
abbrev pub Comes : {D : Type 0} → (D → Medium) → Form → Range → ℕ → List (List ℕ) → List ℕ → D → D → Type 0
Comes {D} medium Headed range epoch batches batch old new =
    EachImageSince (medium old) (medium new) (Holds Headed range epoch batches)
    ⊎ ((between : D)
    × EachImageSince (medium old) (medium between) (Holds Headed range epoch batches)
    × EachImageSince (medium between) (medium new)
    (λ image. Stand Headed range epoch (batches ++ batch ∷ []) image
    × HoldsOneMoreOrNot Headed range epoch batches batch image))
Comes {D} medium Tagged range epoch batches batch old new =
    EachImageSince (medium old) (medium new) (HoldsOneMoreOrNot Tagged range epoch batches batch)
    × ((earlier : Image) → (medium old).images_now earlier
    → EachImageSince (medium old) (medium new) (KeepsSectors Tagged range epoch earlier))
    × ComesInParts range epoch batches batch (medium old) (medium new)

-- so it comes to a journal
abbrev pub ComesInOrder : {D : Type 0} → (D → Medium) → Journal → List (List ℕ) → List ℕ → D → D → Type 0
ComesInOrder {D} medium journal batches batch old new =
    Comes medium (form_of journal) (range_of journal) (epoch_of journal) batches batch old new
