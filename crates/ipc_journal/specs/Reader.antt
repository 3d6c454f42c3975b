-- What has been read of a journal so far.
use Rattle.std.specs.Prelude.{◌≡◌, ◌⊎◌, ℕ, List, length}
use Rattle.ipc_disk.specs.declared.range.Range.{Range}
use Rattle.ipc_disk.specs.Medium.{Image}
use Rattle.ipc_journal.specs.declared.form.Form.{Form}
use Rattle.ipc_journal.specs.declared.reader.Reader.{Reader}
use Rattle.ipc_journal.specs.Journal.{sectors_of, EndsAt, HasLater, HasMore, HasNone, IsEndRead, IsNext, Stand}

-- the form, the sectors and the epoch of the journal
abbrev pub form_read : Reader → Form
form_read reader = reader.form

abbrev pub range_read : Reader → Range
range_read reader = reader.range

abbrev pub epoch_read : Reader → ℕ
epoch_read reader = reader.epoch

-- the sectors of the batches that were read
abbrev pub place_of : Reader → ℕ
place_of reader = reader.used

-- how many batches were read
abbrev pub before_of : Reader → ℕ
before_of reader = reader.batches

-- the journal ends after what was read
abbrev pub EndsAfter : Reader → Image → Type 0
EndsAfter reader image =
    EndsAt (form_read reader) (range_read reader) (epoch_read reader) (place_of reader) (before_of reader) image

-- this batch is the next
abbrev pub IsNextOf : Reader → List ℕ → Image → Type 0
IsNextOf reader batch image =
    IsNext (form_read reader) (range_read reader) (epoch_read reader) (place_of reader) (before_of reader) batch image

-- what is next is of a later epoch, or is no batch of at most so many bytes
abbrev pub HasNoneAfter : Reader → ℕ → Image → Type 0
HasNoneAfter reader most image =
    HasLater (form_read reader) (range_read reader) (epoch_read reader) (place_of reader) image
    ⊎ (HasMore (form_read reader) (range_read reader) (epoch_read reader) (place_of reader) (before_of reader) image
    × HasNone (form_read reader) (range_read reader) (epoch_read reader) (place_of reader) (before_of reader) most
    image)

-- it is a reader of the journal with these sectors, at this epoch
pub record IsReaderOf (form : Form) (range : Range) (epoch : ℕ) (reader : Reader) : Type 0 where
  pub form_is : reader.form ≡ form
  pub range_is : reader.range ≡ range
  pub epoch_is : reader.epoch ≡ epoch

-- the batches that were read are these, and they stand in the image
pub record HasRead (reader : Reader) (batches : List (List ℕ)) (image : Image) : Type 0 where
  pub stand : Stand reader.form reader.range reader.epoch batches image
  pub used : reader.used ≡ sectors_of reader.form batches
  pub count : reader.batches ≡ length batches
  pub end : IsEndRead reader.form reader.range reader.epoch reader.end image
