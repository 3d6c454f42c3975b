-- What lies on a disk: what a read gives, and what a crash may leave.
-- A sector is written whole or not at all. After a crash each sector by itself holds its value at the last sync
-- that was Ok, or one written to it since, where a write that failed counts as possibly done. A sync that failed
-- changes no choice. All of this bounds the images from above: no disk has to keep its past.
use Rattle.std.specs.Prelude.{◌≡◌, ◌⊎◌, ◌↔◌, ℕ, ◌≤◌, ◌<◌, List, length, slice_set, All}

-- one list of 512 bytes for each sector
abbrev pub Image : Type 0
Image = List (List ℕ)

-- 512 bytes
pub record IsSector (sector : List ℕ) : Type 0 where
  pub size : length sector ≡ 512
  pub bytes : All (λ b. b < 256) sector

-- this many sectors
pub record IsShaped (size : ℕ) (image : Image) : Type 0 where
  pub count : length image ≡ size
  pub sectors : All IsSector image

pub record Medium : Type 1 where
  -- what reads give
  pub contents : Image
  -- what a crash now may leave
  pub images_now : Image → Type 0
  -- a number that does not fall
  pub moment : ℕ
  -- what a crash at some call since that moment may have left: before it, within it or after it
  pub images_since : ℕ → Image → Type 0

-- what is read is one of the images now, and these are among the images since each moment
pub record IsHonest (medium : Medium) : Type 0 where
  pub reads : medium.images_now medium.contents
  pub since : (t : ℕ) (image : Image) → t ≤ medium.moment → medium.images_now image
      → medium.images_since t image

-- from one call to the next: an image since is one from before the call or one of now, and honesty is kept both ways
pub record Elapses (old new : Medium) : Type 0 where
  pub later : old.moment ≤ new.moment
  pub nothing_else : (t : ℕ) (image : Image) → t ≤ old.moment → new.images_since t image
      → old.images_since t image ⊎ new.images_now image
  pub honest : IsHonest old ↔ IsHonest new

-- a read, or a sync: what is read stays, and there is no new image
pub record Stays (old new : Medium) : Type 0 where
  pub contents : IsHonest old → new.contents ≡ old.contents
  pub images : (image : Image) → new.images_now image → old.images_now image
  pub time : Elapses old new

-- an image of before, with this sector written or without
abbrev pub SetOrNot : ℕ → List ℕ → Medium → Image → Type 0
SetOrNot at bytes old image = (before : Image) × old.images_now before
    × ((image ≡ before) ⊎ (image ≡ slice_set before at bytes))

-- a write that may have failed: what is read, and each image, has the sector as it was or as it was to be
pub record Writes (at : ℕ) (bytes : List ℕ) (old new : Medium) : Type 0 where
  pub contents : IsHonest old → (new.contents ≡ old.contents) ⊎ (new.contents ≡ slice_set old.contents at bytes)
  pub images : (image : Image) → new.images_now image → SetOrNot at bytes old image
  pub time : Elapses old new

-- a crash now leaves what is read
abbrev pub IsDurable : Medium → Type 0
IsDurable medium = (image : Image) → medium.images_now image → image ≡ medium.contents
