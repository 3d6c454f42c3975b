-- What holds of each image that a crash may leave during a run of calls.
use Rattle.std.specs.Prelude.{◌≡◌, ◌⊎◌, ℕ, ◌≤◌, length, slice_get}
use Rattle.ipc_disk.specs.Medium.{Image, Medium, IsHonest}

-- a crash at any call since old leaves an image with P
pub record EachImageSince (old new : Medium) (P : Image → Type 0) : Type 0 where
  pub later : old.moment ≤ new.moment
  pub each : (image : Image) → new.images_since old.moment image → P image
  -- for a run that began earlier
  pub earlier : (t : ℕ) (image : Image) → t ≤ old.moment → new.images_since t image
      → old.images_since t image ⊎ P image

-- the two have as many sectors, and the same ones at these places
pub record SameAt (places : ℕ → Type 0) (a b : Image) : Type 0 where
  pub count : length a ≡ length b
  pub sectors : (i : ℕ) → places i → slice_get a i ≡ slice_get b i

-- The disk is honest. At these places each image that a crash since `old` may have left has the sectors of an image
-- that a crash could leave at `old`, and what is read has those that were read then.
pub record LeavesAlone (places : ℕ → Type 0) (old new : Medium) : Type 0 where
  pub images : EachImageSince old new
      (λ image. (before : Image) × old.images_now before × SameAt places before image)
  pub contents : SameAt places old.contents new.contents
  pub honest : IsHonest new
