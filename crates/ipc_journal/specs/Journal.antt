-- What the sectors of a journal mean, by its form: which batches an image has at an epoch, and what is no journal.
use Rattle.std.specs.Prelude.{◌≡◌, ℕ, ◌+◌, ◌≤◌, ◌<◌, List, [], ◌∷◌, length}
use Rattle.ipc_disk.specs.declared.range.Range.{Range}
use Rattle.ipc_disk.specs.Medium.{Image}
use Rattle.ipc_disk.specs.Standing.{sectors_for, sector_at, StandsAt, IsWrittenAt}
use Rattle.ipc_journal.specs.declared.form.Form.{Form}
use Rattle.ipc_journal.specs.declared.form.Form.TheVariants.{Headed, Tagged}
use Rattle.ipc_journal.specs.Batch.{epoch_in, IsBatch}
use Rattle.ipc_journal.specs.Headed.{header_bytes, header_epoch, header_used, Counts, IsBadHeader}
use Rattle.ipc_journal.specs.Tagged.{pieces_for, IsWhole, StandsTagged, IsTaggedAt, IsEnd}

-- the sectors before the first batch
abbrev pub head : Form → ℕ
head Headed = 1
head Tagged = 0

-- the most sectors that it can have: a tag counts the sectors of a batch in two bytes
abbrev pub most_sectors : Form → ℕ
most_sectors Headed = 4294967295
most_sectors Tagged = 65535

-- a journal of this form can have these sectors
abbrev pub IsRangeFor : Form → Range → Type 0
IsRangeFor form range = (head form ≤ range.count) × (range.count ≤ most_sectors form)

-- the sector at a place, which counts the sectors of batches before it
abbrev pub sector_of : Form → Range → ℕ → ℕ
sector_of form range place = range.first + head form + place

-- the sectors that a batch of so many bytes takes
abbrev pub sectors_in : Form → ℕ → ℕ
sectors_in Headed len = sectors_for len
sectors_in Tagged len = pieces_for len

-- the sectors that these batches take
abbrev pub sectors_of : Form → List (List ℕ) → ℕ
sectors_of form [] = 0
sectors_of form (batch ∷ batches) = sectors_in form (length batch) + sectors_of form batches

-- The sectors of a batch stand from this place on, after so many other batches. Tagged ones say so themselves.
abbrev pub IsAt : Form → Range → ℕ → ℕ → ℕ → List ℕ → Image → Type 0
IsAt Headed range epoch place before batch image = StandsAt (sector_of Headed range place) batch image
IsAt Tagged range epoch place before batch image =
    IsWhole range epoch place before (pieces_for (length batch)) image
    × StandsTagged (sector_of Tagged range place) batch image

-- these batches stand one after another, from this place on, after so many others
abbrev pub Fill : Form → Range → ℕ → ℕ → ℕ → List (List ℕ) → Image → Type 0
Fill form range epoch place before [] image = Unit {0}
Fill form range epoch place before (batch ∷ batches) image =
    IsBatch batch × IsAt form range epoch place before batch image
    × Fill form range epoch (place + sectors_in form (length batch)) (before + 1) batches image

-- these batches stand from the first place on, whether or not the journal has them
abbrev pub Stand : Form → Range → ℕ → List (List ℕ) → Image → Type 0
Stand form range epoch batches image = Fill form range epoch 0 0 batches image

-- the journal ends at this place, after so many batches: a header says so, or no whole batch goes on from there
abbrev pub EndsAt : Form → Range → ℕ → ℕ → ℕ → Image → Type 0
EndsAt Headed range epoch place before image = Counts range epoch place image
EndsAt Tagged range epoch place before image = IsEnd range epoch place before image

-- where they end at the latest: where the header says, or with the range
abbrev pub IsEndRead : Form → Range → ℕ → ℕ → Image → Type 0
IsEndRead Headed range epoch end image = Counts range epoch end image
IsEndRead Tagged range epoch end image = end ≡ range.count

-- at this epoch the journal of the image is these batches
pub record Holds (form : Form) (range : Range) (epoch : ℕ) (batches : List (List ℕ)) (image : Image) : Type 0 where
  pub stand : Stand form range epoch batches image
  pub ends : EndsAt form range epoch (sectors_of form batches) (length batches) image

-- they take all of its sectors
pub record IsFull (form : Form) (range : Range) (epoch : ℕ) (image : Image) : Type 0 where
  pub batches : List (List ℕ)
  pub holds : Holds form range epoch batches image
  pub full : head form + sectors_of form batches ≡ range.count

-- all that stands there is of earlier epochs
abbrev pub IsOlder : Form → Range → ℕ → Image → Type 0
IsOlder Headed range epoch image = header_epoch range image < epoch
IsOlder Tagged range epoch image =
    (i : ℕ) → i < range.count → epoch_in (sector_at image (range.first + i)) < epoch

-- so is what stands there from a place on; a header makes it meaningless whatever it is
abbrev pub IsClear : Form → Range → ℕ → ℕ → Image → Type 0
IsClear Headed range epoch used image = Unit {0}
IsClear Tagged range epoch used image =
    (i : ℕ) → used ≤ i → i < range.count → epoch_in (sector_at image (range.first + i)) < epoch

-- a batch is written to the byte, and a header that counts it
abbrev pub IsWritten : Form → Range → ℕ → ℕ → ℕ → List ℕ → Image → Type 0
IsWritten Headed range epoch place before batch image =
    IsWrittenAt (sector_of Headed range place) batch image
    × (sector_at image range.first ≡ header_bytes epoch (place + sectors_for (length batch)))
IsWritten Tagged range epoch place before batch image =
    IsTaggedAt (sector_of Tagged range place) epoch (before + 1) batch image

-- ---- what is no journal

-- there is no good header
abbrev pub HasBadHeader : Form → Range → ℕ → Image → Type 0
HasBadHeader Headed range epoch image = IsBadHeader range epoch image
HasBadHeader Tagged range epoch image = ⊥

-- one more batch is there: the header counts more sectors, or all sectors of one stand there
abbrev pub HasMore : Form → Range → ℕ → ℕ → ℕ → Image → Type 0
HasMore Headed range epoch place before image =
    (header_epoch range image ≡ epoch) × (place < header_used range image)
HasMore Tagged range epoch place before image = (count : ℕ) × IsWhole range epoch place before count image

-- this is the batch
abbrev pub IsNext : Form → Range → ℕ → ℕ → ℕ → List ℕ → Image → Type 0
IsNext Headed range epoch place before batch image =
    IsBatch batch × IsAt Headed range epoch place before batch image
    × (header_epoch range image ≡ epoch) × (place + sectors_for (length batch) ≤ header_used range image)
IsNext Tagged range epoch place before batch image =
    IsBatch batch × IsAt Tagged range epoch place before batch image

-- no batch of at most so many bytes is
abbrev pub HasNone : Form → Range → ℕ → ℕ → ℕ → ℕ → Image → Type 0
HasNone form range epoch place before most image =
    (batch : List ℕ) → length batch ≤ most → IsNext form range epoch place before batch image → ⊥

-- a sector of a later epoch stands there
abbrev pub HasLater : Form → Range → ℕ → ℕ → Image → Type 0
HasLater Headed range epoch place image = ⊥
HasLater Tagged range epoch place image =
    (place < range.count) × (epoch < epoch_in (sector_at image (range.first + place)))
