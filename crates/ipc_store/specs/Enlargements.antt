-- What upgrades to version 3, one after another, leave.
use Rattle.std.specs.Prelude.{ℕ}
use Rattle.ipc_limits.specs.declared.limits.Limits.{Limits}
use Rattle.ipc_disk.specs.Growth.{HasGrown}
use Rattle.ipc_disk.specs.Medium.{Image, Medium, IsHonest}
use Rattle.ipc_disk.specs.Since.{EachImageSince}
use Rattle.ipc_state.specs.State.{State}
use Rattle.ipc_store.specs.Larger.{EnlargesTo, StandsOnTheWay}
use Rattle.ipc_store.specs.Lives.{IsLeft}

-- each image that a crash now may leave stands for the state in version 2, as it was or after a restart, or in
-- version 3 after a restart
pub record RestsOnTheWay (own limits : Limits) (s : State) (medium : Medium) : Type 0 where
  pub honest : IsHonest medium
  pub left : (image : Image) → medium.images_now image → StandsOnTheWay own limits s image

-- Any number of such upgrades under these limits, one after another, each of which was refused, or stopped at some
-- moment of it. Between them the disk may have grown, or begun to.
pub data StoppedEnlargements {D : Type 0} (medium : D → Medium) (limits : Limits) (disk : D) : D → Type 0 where
  None : StoppedEnlargements medium limits disk disk
  More : (before after left : D) → StoppedEnlargements medium limits disk before
      → EachImageSince (medium before) (medium after) (EnlargesTo limits (medium before))
      → IsLeft (medium before) (medium after) (medium left) → StoppedEnlargements medium limits disk left
  Larger : (before left : D) (most : ℕ) → StoppedEnlargements medium limits disk before → IsHonest (medium left)
      → ((image : Image) → (medium left).images_now image → HasGrown most (medium before) image)
      → StoppedEnlargements medium limits disk left
