-- A disk that gets more sectors. As long as calls are made of a disk it has the sectors that it had at first; it grows
-- while nobody else calls it. Those that it had stay as they are, and sectors of zeros come after them. A crash
-- meanwhile leaves some of the new ones, or all, or none: another disk, of as many sectors as its images have.
use Rattle.std.specs.Prelude.{◌≡◌, ℕ, ◌≤◌, ◌++◌, replicate}
use Rattle.ipc_disk.specs.Medium.{Image, Medium}

-- an image with so many sectors of zeros after it
abbrev pub with_zeros : ℕ → Image → Image
with_zeros more image = image ++ replicate more (replicate 512 0)

-- an image of before, with so many sectors of zeros after it, or fewer
pub record HasGrown (most : ℕ) (old : Medium) (image : Image) : Type 0 where
  pub before : Image
  pub now : old.images_now before
  pub more : ℕ
  pub within : more ≤ most
  pub is : image ≡ with_zeros more before
