-- What a contract sees of the state that is held: its limits, the state itself, and the memory that is reserved, so
-- that a change takes none.
use Rattle.std.specs.Prelude.{ℕ, ℤ, Bool, true, false, List, replicate, Option, Some, None}
use Rattle.ipc_limits.specs.declared.limits.Limits.{Limits}
use Rattle.shm_segment.specs.Segment.{Segment}
use Rattle.ipc_state.specs.State.{State}

-- what the memory is there for: the call that comes next is the only one that has some
pub data Ready : Type 0 where
  Nothing : Ready
  -- a process more, with adjustments and descriptors of its own
  Process : Ready
  -- an object more of this key or name; a set has so many semaphores, and a System V segment these zeros
  MsgQueue : (key : ℤ) → Ready
  Semset : (key : ℤ) (nsems : ℕ) → Ready
  Shm : (key : ℤ) (zeros : Segment) → Ready
  Mq Psem Pshm : (name : List ℕ) → Ready
  -- zeros, which a segment with a name takes that grows
  Zeros : (zeros : Segment) → Ready

-- so many bytes, each 0
abbrev pub zero_bytes : ℕ → Segment
zero_bytes n = record { bytes = replicate n 0 }

pub record Held : Type 0 where
  pub limits : Limits
  pub state : State
  pub ready : Ready
  -- for how many calls that wait there are places
  pub waits : ℕ

-- another state, and nothing is reserved
abbrev pub left : Held → State → Held
left held s = record held { state = s; ready = Nothing }

-- what is reserved, by what stands ready in each part: of one at most
abbrev pub ready_of : Bool → Option ℤ → Option (ℤ × ℕ) → Option (ℤ × Segment) → Option (List ℕ) → Option (List ℕ)
    → Option (List ℕ) → Option Segment → Ready
ready_of true _ _ _ _ _ _ _ = Process
ready_of false (Some key) _ _ _ _ _ _ = MsgQueue key
ready_of false None (Some set) _ _ _ _ _ = Semset set.0 set.1
ready_of false None None (Some segment) _ _ _ _ = Shm segment.0 segment.1
ready_of false None None None (Some name) _ _ _ = Mq name
ready_of false None None None None (Some name) _ _ = Psem name
ready_of false None None None None None (Some name) _ = Pshm name
ready_of false None None None None None None (Some zeros) = Zeros zeros
ready_of false None None None None None None None = Nothing
