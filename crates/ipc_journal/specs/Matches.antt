-- A journal value matches a disk: they have the same batches.
use Rattle.std.specs.Prelude.{◌≡◌, ◌⊎◌, ℕ, ◌+◌, ◌<◌, List, [], ◌∷◌, ◌++◌, length}
use Rattle.ipc_disk.specs.declared.range.Range.{Range}
use Rattle.ipc_disk.specs.Medium.{Image, Medium, IsHonest}
use Rattle.ipc_disk.specs.Standing.{sector_at}
use Rattle.ipc_journal.specs.declared.form.Form.{Form}
use Rattle.ipc_journal.specs.declared.form.Form.TheVariants.{Headed, Tagged}
use Rattle.ipc_journal.specs.declared.journal.Journal.{Journal}
use Rattle.ipc_journal.specs.Batch.{epoch_in}
use Rattle.ipc_journal.specs.Journal.{sectors_of, Holds, IsClear}
use Rattle.ipc_journal.specs.View.{form_of, range_of, epoch_of, used_of, count_of}

-- each tagged sector of this epoch is in the later image as it is in the earlier one
abbrev pub KeepsSectors : Form → Range → ℕ → Image → Image → Type 0
KeepsSectors Headed range epoch earlier later = Unit {0}
KeepsSectors Tagged range epoch earlier later =
    (i : ℕ) → i < range.count → epoch_in (sector_at earlier (range.first + i)) ≡ epoch
    → sector_at later (range.first + i) ≡ sector_at earlier (range.first + i)

-- The disk is honest, and each image that a crash now may leave holds these batches, in the same sectors, and after
-- them nothing of this epoch; so does what is read.
pub record IsKept (form : Form) (range : Range) (epoch : ℕ) (batches : List (List ℕ)) (medium : Medium) : Type 0 where
  pub honest : IsHonest medium
  pub images : (image : Image) → medium.images_now image → Holds form range epoch batches image
  pub clear : (image : Image) → medium.images_now image → IsClear form range epoch (sectors_of form batches) image
  pub alike : (a b : Image) → medium.images_now a → medium.images_now b → KeepsSectors form range epoch a b

-- and the value says how many they are, and how many sectors they take
pub record JournalMatches (journal : Journal) (batches : List (List ℕ)) (medium : Medium) : Type 0 where
  pub used : used_of journal ≡ sectors_of (form_of journal) batches
  pub count : count_of journal ≡ length batches
  pub kept : IsKept (form_of journal) (range_of journal) (epoch_of journal) batches medium

-- an image holds the batches, with one more or without it
abbrev pub HoldsOneMoreOrNot : Form → Range → ℕ → List (List ℕ) → List ℕ → Image → Type 0
HoldsOneMoreOrNot form range epoch batches batch image =
    Holds form range epoch batches image ⊎ Holds form range epoch (batches ++ batch ∷ []) image
