-- Neighbouring sectors that are written by one call, a run: the k-th of its values is for the sector
-- first + k. A crash within such a write, and a write that fails, may leave any of its sectors written
-- and the others as they were.
use Rattle.std.specs.Prelude.{◌≡◌, ◌⊎◌, ◌↔◌, ℕ, ◌+◌, ◌≤◌, List, [], ◌∷◌, length}
use Rattle.std.specs.Prelude.{Some, slice_get, slice_set}
use Rattle.ipc_disk.specs.Medium.{Image, Medium, IsHonest}

-- the run has this value for this sector
abbrev pub Gives : ℕ → Image → ℕ → List ℕ → Type 0
Gives first values i value = (k : ℕ) × (i ≡ first + k) × (slice_get values k ≡ Some value)

-- an image in which all of the run is written
abbrev pub set_run : ℕ → Image → Image → Image
set_run first [] image = image
set_run first (value ∷ values) image = set_run (first + 1) values (slice_set image first value)

-- an image in which each sector is as before, or as the run has it
pub record SetsSome (first : ℕ) (values before image : Image) : Type 0 where
  pub count : length image ≡ length before
  pub sectors : (i : ℕ) → (slice_get image i ≡ slice_get before i)
      ⊎ ((value : List ℕ) × Gives first values i value × (slice_get image i ≡ Some value))

-- an image of before, with some of the run written, or all of it, or none
abbrev pub SetSomeOf : ℕ → Image → Medium → Image → Type 0
SetSomeOf first values old image =
    (before : Image) × old.images_now before × SetsSome first values before image

-- a write of a run that may have failed: what is read, and each image, within the call and after it,
-- has each sector as it was or as it was to be
pub record WritesRun (first : ℕ) (values : Image) (old new : Medium) : Type 0 where
  pub contents : IsHonest old → SetsSome first values old.contents new.contents
  pub images : (image : Image) → new.images_now image → SetSomeOf first values old image
  pub later : old.moment ≤ new.moment
  pub nothing_else : (t : ℕ) (image : Image) → t ≤ old.moment → new.images_since t image
      → old.images_since t image ⊎ SetSomeOf first values old image
  pub honest : IsHonest old ↔ IsHonest new

-- A disk over which a run waits to be written: it reads as if the run were written. A crash may leave
-- what the disk under it may leave, with some of the run, or all of it, or none. If that disk is not
-- honest, no image is named.
abbrev pub with_waiting : ℕ → Image → Medium → Medium
with_waiting first values under = record {
  contents = set_run first values under.contents;
  images_now = λ image. IsHonest under × SetSomeOf first values under image;
  moment = under.moment;
  images_since = λ t image. IsHonest under
      × (under.images_since t image ⊎ SetSomeOf first values under image);
}
