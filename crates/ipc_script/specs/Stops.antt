-- What a store and its disk go through in the run of a script with lines `stop`. At each the store is closed, and its
-- device is opened again.
use Rattle.std.specs.Prelude.{◌≡◌, ◌⊎◌, List, ◌++◌, false}
use Rattle.ipc_disk.specs.Medium.{Medium, IsHonest}
use Rattle.ipc_disk.specs.Since.{EachImageSince}
use Rattle.ipc_engine.specs.Event.{PlainEvent}
use Rattle.ipc_store.specs.Histories.{History, accepted, acknowledged, full_past_of, Keeps, OpensOn}
use Rattle.ipc_store.specs.Lives.{StandsAfter}
use Rattle.ipc_store.specs.Relations.Matches.{OpensTo}
use Rattle.ipc_store.specs.View.{StoreView}
use Rattle.ipc_script.specs.Relations.Lasts.{Lasts}

-- A store was closed while it went on and nothing waited, and the next one was opened on its honest disk. What a crash
-- leaves at any moment of it is what a crash within an open leaves.
pub record IsReopened {D : Type 0} (medium : D → Medium) (closed opened : StoreView D) : Type 0 where
  pub running : closed.stopped ≡ false
  pub empty : closed.waiting ≡ 0
  pub honest : IsHonest (medium closed.disk)
  pub crash : EachImageSince (medium closed.disk) (medium opened.disk) (OpensTo (medium closed.disk))
  pub opens : OpensOn (medium closed.disk).contents (medium opened.disk) opened

-- Lives of a device: the store of each takes events, those of its lines, and the next is opened on the disk that it
-- leaves.
pub data LivesOn {D : Type 0} (medium : D → Medium) (old : StoreView D) : StoreView D → Type 0 where
  One : (new : StoreView D) → Lasts medium old new → LivesOn medium old new
  Stop : (closed opened new : StoreView D) → LivesOn medium old closed → IsReopened medium closed opened
      → Lasts medium opened new → LivesOn medium old new

-- The disk is that of the store that was closed; or it was not opened again, and this is what that open left.
abbrev pub IsHanded : {D : Type 0} → (D → Medium) → StoreView D → D → Type 0
IsHanded medium closed disk =
    (disk ≡ closed.disk) ⊎ EachImageSince (medium closed.disk) (medium disk) (OpensTo (medium closed.disk))

-- A history goes on: what was accepted is accepted still, and so are some events after it; what was acknowledged stays
-- so. If the store goes on and nothing waits, its disk stands for the state after all of them.
pub record ContinuesFrom {D : Type 0} (medium : D → Medium) (before : History) (new : StoreView D) : Type 0 where
  pub after : History
  pub keeps : Keeps (medium new.disk) new after
  pub base : after.base ≡ before.base
  pub more : List PlainEvent
  pub accepts : accepted after ≡ accepted before ++ more
  pub confirmed : List PlainEvent
  pub acknowledges : acknowledged after ≡ acknowledged before ++ confirmed
  pub rests : new.stopped ≡ false → new.waiting ≡ 0
      → StandsAfter (full_past_of new.machine.limits after) (medium new.disk)
