-- An upgrade to version 3: a device of version 2 becomes one of version 3, where it lies. The state after a restart is
-- saved in version 2 first, and then written beside that, in the objects of version 3. A crash at any moment leaves the
-- one or the other.
use Rattle.std.specs.Prelude.{◌⊎◌, ◌+◌, ◌≤◌, ℕ, List, Option, Some, None, Bool, not, if◌then◌else◌, length, sum_by}
use Rattle.std.specs.List.{list_all}
use Rattle.std.specs.FinMap as fin
use Rattle.posix_mq.specs.Queue.{Queue as Mq}
use Rattle.sem_undo.specs.Undo.{Undo}
use Rattle.sysv_msg.specs.Queue.{Queue}
use Rattle.ipc_limits.specs.declared.limits.Limits.{Limits}
use Rattle.ipc_limits.specs.Limits.{adjustment_limit, exceeds, message_limit, queue_bytes_limit}
use Rattle.ipc_disk.specs.Medium.{Image, Medium, IsHonest}
use Rattle.ipc_image.specs.Format.{format, format_three}
use Rattle.ipc_image.specs.Greater.{AreAtLeast}
use Rattle.ipc_image.specs.declared.format.Format.{Format}
use Rattle.ipc_state.specs.Keyed.{KeyedEntry}
use Rattle.ipc_state.specs.Named.{NamedEntry}
use Rattle.ipc_state.specs.State.{State, bytes_of_mq, restart}
use Rattle.ipc_store.specs.Image.{epoch_at_in, last_epoch, NamesAll, StandsFor, StandsForIn}

-- the form of a device that was upgraded so: its journal keeps its sectors
abbrev pub larger : Format
larger = format_three 257

-- ---- what the limits of version 3 say of a state

-- no queue has more messages than they allow, no process more adjustments, and the POSIX queues count no more bytes
abbrev pub has_few_messages_in : Limits → List (ℕ × KeyedEntry Queue) → Bool
has_few_messages_in limits queues =
    list_all (λ e. not (exceeds (length e.1.object.messages) (message_limit limits))) queues

abbrev pub has_few_adjustments_in : Limits → List (ℕ × Undo) → Bool
has_few_adjustments_in limits undo = list_all (λ e. not (exceeds (fin.len e.1) (adjustment_limit limits))) undo

abbrev pub room : Mq → ℕ
room q = bytes_of_mq q.maxmsg q.msgsize

abbrev pub has_few_bytes_in : Limits → List (ℕ × NamedEntry Mq) → Bool
has_few_bytes_in limits queues = not (exceeds (sum_by (λ e. room e.1.object) queues) (queue_bytes_limit limits))

-- the first of the three fields that the state exceeds
abbrev pub exceeded_field : Limits → State → Option ℕ
exceeded_field limits s =
    if has_few_messages_in limits s.msg.entries
    then if has_few_adjustments_in limits s.undo
    then if has_few_bytes_in limits s.mq.entries then None else Some 21
    else Some 20
    else Some 19

-- ---- what the upgrade leaves

-- the image stands for the state in version 2, under the limits that its superblock names, or there for what a restart
-- makes of it
abbrev pub StandsInPlace : Limits → State → Image → Type 0
StandsInPlace own s image = StandsForIn format own s image ⊎ StandsForIn format own (restart own s) image

-- it stands for the state after a restart, in version 2, or in version 3 and under the limits of the upgrade
abbrev pub StandsBeside : Limits → Limits → State → Image → Type 0
StandsBeside own limits s image =
    StandsForIn format own (restart own s) image ⊎ StandsFor limits (restart limits s) image

-- the one or the other of all of these
abbrev pub StandsOnTheWay : Limits → Limits → State → Image → Type 0
StandsOnTheWay own limits s image = StandsInPlace own s image ⊎ StandsFor limits (restart limits s) image

-- What a crash within an upgrade may leave: what it could leave before, or what stands for the state that was read.
abbrev pub EnlargesTo : Limits → Medium → Image → Type 0
EnlargesTo limits old image = old.images_now image
    ⊎ ((own : Limits) × (s : State) × StandsForIn format own s old.contents
    × StandsOnTheWay own limits s image)

-- What an upgrade gives: the disk stood for a state in version 2, under limits that were no greater, and from then on
-- each image that a crash may leave stands for it after a restart, in version 3, and names all sectors of the disk.
pub record IsEnlarged (limits : Limits) (old new : Medium) : Type 0 where
  pub own : Limits
  pub greater : AreAtLeast limits own
  pub state : State
  pub stood : StandsForIn format own state old.contents
  pub honest : IsHonest new
  pub stands : (image : Image) → new.images_now image → StandsFor limits (restart limits state) image
  pub whole : (image : Image) → new.images_now image → NamesAll image

-- it stands for a state in version 2, and its objects are of the last epoch or of the one before
pub record HasNoTwoEpochs (image : Image) : Type 0 where
  pub limits : Limits
  pub state : State
  pub stands : StandsForIn format limits state image
  pub epoch : last_epoch ≤ epoch_at_in format image + 1
