-- What a user of a store may count on. The events that were accepted since the device was made, or
-- since it stood for some state, are in three parts: those that the last open found on the device,
-- those that were confirmed since then, the restart first, and those that wait for a commit. A crash
-- leaves all of the first two parts, and of the third some, from the first on. An open adds a restart
-- to what was left.
use Rattle.std.specs.Prelude.{◌≡◌, ◌⊎◌, List, [], ◌∷◌, ◌++◌, length}
use Rattle.ipc_limits.specs.declared.limits.Limits.{Limits}
use Rattle.ipc_checkpoint.specs.Meanwhile.{EachLater}
use Rattle.ipc_disk.specs.Medium.{Image, Medium, IsHonest}
use Rattle.ipc_disk.specs.Since.{EachImageSince}
use Rattle.ipc_state.specs.State.{State, start, restart}
use Rattle.ipc_engine.specs.Event.{PlainEvent, Restart}
use Rattle.ipc_engine.specs.Step.{run}
use Rattle.ipc_store.specs.Image.{StandsFor}
use Rattle.ipc_store.specs.Meanwhile.{GoesOn}
use Rattle.ipc_store.specs.View.{StoreView, IsStopped}
use Rattle.ipc_store.specs.Relations.Matches.{StoreMatches}

-- Events that a machine has accepted under its limits, from a state on: the first state, if its device was made then,
-- or any for which the device stood.
pub record Past : Type 0 where
  pub limits : Limits
  pub base : State
  pub events : List PlainEvent

-- the state after them
abbrev pub state_after : Past → State
state_after past = (run past.limits past.base past.events).state

-- of a device that was just made
abbrev pub new_past : Limits → Past
new_past limits = record { limits = limits; base = start; events = [] }

-- and these after them
abbrev pub grown : Past → List PlainEvent → Past
grown past events = record past { events = past.events ++ events }

pub record History : Type 0 where
  pub base : State
  pub found : List PlainEvent
  pub confirmed : List PlainEvent
  pub waiting : List PlainEvent

-- those that no crash takes
abbrev pub acknowledged : History → List PlainEvent
acknowledged h = h.found ++ h.confirmed

abbrev pub accepted : History → List PlainEvent
accepted h = acknowledged h ++ h.waiting

-- the acknowledged ones, under these limits
abbrev pub past_of : Limits → History → Past
past_of limits h = record { limits = limits; base = h.base; events = acknowledged h }

-- all that were accepted
abbrev pub full_past_of : Limits → History → Past
full_past_of limits h = record { limits = limits; base = h.base; events = accepted h }

-- the history of a device on which an open has found these events
abbrev pub reopened : Past → History
reopened past = record { base = past.base; found = past.events; confirmed = Restart ∷ []; waiting = [] }

-- the image stands for the state after these events and those of the others that were kept, from the
-- first on
pub record StandsForPrefix (past : Past) (others : List PlainEvent) (image : Image) : Type 0 where
  pub kept : List PlainEvent
  pub lost : List PlainEvent
  pub prefix : kept ++ lost ≡ others
  pub stands : StandsFor past.limits (state_after (grown past kept)) image

-- the store goes on: its disk stands for the state after the acknowledged events, and its machine
-- is in the state after the waiting ones too
abbrev pub IsRunning : {D : Type 0} → Medium → StoreView D → History → Type 0
IsRunning medium store h = StoreMatches medium store (state_after (past_of store.machine.limits h)) h.waiting

-- the store has stopped: a crash leaves what was acknowledged, and some of what waited
pub record HasHalted {D : Type 0} (medium : Medium) (store : StoreView D) (h : History) : Type 0 where
  pub stopped : IsStopped store
  pub honest : IsHonest medium
  pub left : (image : Image) → medium.images_now image
      → StandsForPrefix (past_of store.machine.limits h) h.waiting image

-- the store has this history, and counts what it has confirmed
pub record Keeps {D : Type 0} (medium : Medium) (store : StoreView D) (h : History) : Type 0 where
  pub stands : IsRunning medium store h ⊎ HasHalted medium store h
  pub count : store.confirmed ≡ length h.confirmed

-- a history goes on: these events are accepted, and some of all may be confirmed
pub record Follows (before : History) (events : List PlainEvent) (after : History) : Type 0 where
  pub base : after.base ≡ before.base
  pub found : after.found ≡ before.found
  pub accepts : accepted after ≡ accepted before ++ events
  pub more : List PlainEvent
  pub confirms : after.confirmed ≡ before.confirmed ++ more

-- What a call does that accepts these events. A crash at any moment of it leaves what was
-- acknowledged before it, and some of the other events; and the history goes on. Each image since
-- goes on from one of before, for who reads the device meanwhile.
pub record Moves {D : Type 0} (medium : D → Medium) (old new : StoreView D) (before : History)
    (events : List PlainEvent) : Type 0 where
  pub crash : EachImageSince (medium old.disk) (medium new.disk)
      (StandsForPrefix (past_of old.machine.limits before) (before.waiting ++ events))
  pub later : EachLater GoesOn (medium old.disk) (medium new.disk)
  pub limits : new.machine.limits ≡ old.machine.limits
  pub after : History
  pub follows : Follows before events after
  pub keeps : Keeps (medium new.disk) new after

-- A call did so, whatever the history before it was: what the clause of each call on a store says.
abbrev pub Takes : {D : Type 0} → (D → Medium) → StoreView D → List PlainEvent → StoreView D → Type 0
Takes medium old events new =
    (before : History) → Keeps (medium old.disk) old before → Moves medium old new before events

-- What an open gives on a disk that reads so: a store that goes on from the state for which the
-- image stands, after a restart.
pub record OpensOn {D : Type 0} (image : Image) (medium : Medium) (store : StoreView D) : Type 0 where
  pub found : (s : State) × StandsFor store.machine.limits s image
      × StoreMatches medium store (restart store.machine.limits s) []
  pub confirmed : store.confirmed ≡ 1
