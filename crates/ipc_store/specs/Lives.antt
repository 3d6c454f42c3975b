-- What the life of a store leaves on its disk, and what the next open finds there. A life may end at any moment, and so
-- may an open.
use Rattle.std.specs.Prelude.{◌≡◌, ℕ, List, ◌++◌}
use Rattle.ipc_disk.specs.Medium.{Image, Medium, IsHonest}
use Rattle.ipc_disk.specs.Growth.{HasGrown}
use Rattle.ipc_disk.specs.Since.{EachImageSince}
use Rattle.ipc_state.specs.State.{State, restart}
use Rattle.ipc_engine.specs.Event.{PlainEvent}
use Rattle.ipc_store.specs.Histories.{Past, grown, reopened, state_after, Keeps}
use Rattle.ipc_store.specs.Image.{StandsFor}
use Rattle.ipc_store.specs.View.{StoreView}
use Rattle.ipc_store.specs.Relations.Matches.{OpensTo}

-- The disk is what is left of a call that was stopped at some moment of it: a crash now leaves no image but those that
-- it could leave at some moment from old to new. If the machine was stopped, the disk has one of these. If only the
-- program was, the disk goes on with sectors that are not synced, and may still leave one or another.
pub record IsLeft (old new left : Medium) : Type 0 where
  pub honest : IsHonest left
  pub images : (image : Image) → left.images_now image → new.images_since old.moment image

-- Any number of opens, one after another, each of which was refused, or stopped at some moment of it. `after` is the
-- disk as that open would have left it, or did. Between them the disk may have grown, or begun to.
pub data StoppedOpens {D : Type 0} (medium : D → Medium) (disk : D) : D → Type 0 where
  None : StoppedOpens medium disk disk
  More : (before after left : D) → StoppedOpens medium disk before
      → EachImageSince (medium before) (medium after) (OpensTo (medium before))
      → IsLeft (medium before) (medium after) (medium left) → StoppedOpens medium disk left
  Larger : (before left : D) (most : ℕ) → StoppedOpens medium disk before → IsHonest (medium left)
      → ((image : Image) → (medium left).images_now image → HasGrown most (medium before) image)
      → StoppedOpens medium disk left

-- the disk stands for the state after these events
pub record StandsAfter (past : Past) (medium : Medium) : Type 0 where
  pub honest : IsHonest medium
  pub stands : (image : Image) → medium.images_now image → StandsFor past.limits (state_after past) image

-- The image stands for the state after these events and some of the others, from the first on; or for what a
-- restart makes of that state.
pub record ReopensTo (past : Past) (others : List PlainEvent) (image : Image) : Type 0 where
  pub kept : List PlainEvent
  pub lost : List PlainEvent
  pub prefix : kept ++ lost ≡ others
  pub state : State
  pub stands : StandsFor past.limits state image
  pub same : restart past.limits state ≡ restart past.limits (state_after (grown past kept))

-- So does each image that a crash now may leave. They need not all have kept the same events.
pub record Rests (past : Past) (others : List PlainEvent) (medium : Medium) : Type 0 where
  pub honest : IsHonest medium
  pub left : (image : Image) → medium.images_now image → ReopensTo past others image

-- What an open finds: these events and some of the others, from the first on. They are the history of the
-- store, and a restart; its machine is in the state after them.
pub record Found {D : Type 0} (past : Past) (others : List PlainEvent) (medium : Medium) (store : StoreView D)
    : Type 0 where
  pub kept : List PlainEvent
  pub lost : List PlainEvent
  pub prefix : kept ++ lost ≡ others
  pub under : store.machine.limits ≡ past.limits
  pub state : store.machine.state ≡ restart past.limits (state_after (grown past kept))
  pub keeps : Keeps medium store (reopened (grown past kept))
