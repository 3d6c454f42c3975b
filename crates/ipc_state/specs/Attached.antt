-- Attachments (shmop(2)): an attachment is a descriptor that is open on a System V segment. However it goes, by shmdt,
-- by the exit of its process or by a restart, its segment is detached then: the process and the moment are noted in it.
use Rattle.std.specs.Prelude.{ℕ, Bool, bit_or, List, Option, option_map, unwrap_or, if◌then◌else◌}
use Rattle.std.specs.List.{fold}
use Rattle.shm_segment.specs.SysSegment.{SysSegment, detached}
use Rattle.ipc_state.specs.declared.descriptors.Descriptor.{Descriptor}
use Rattle.ipc_state.specs.declared.parked.Object.{Object}
use Rattle.ipc_state.specs.declared.parked.ObjectKind.TheVariants as kinds
use Rattle.ipc_state.specs.declared.processes.Process.{Process}
use Rattle.ipc_state.specs.Bound.{holding}
use Rattle.ipc_state.specs.Descriptors.{Table}
use Rattle.ipc_state.specs.Keyed.{Keyed}
use Rattle.ipc_state.specs.Numbered.{entry_of, with_entry}
use Rattle.ipc_state.specs.Opening.{same_kind}

-- the mode that shmctl(2) shows: its nine bits, with a tenth one, SHM_DEST, if the segment is marked
abbrev pub shown_mode : ℕ → Bool → ℕ
shown_mode mode is_marked = if is_marked then bit_or mode 0o1000 else mode

-- the segments after a process has detached the one of an identifier, if it is there
abbrev pub detached_at : ℕ → ℕ → Keyed SysSegment → ℕ → Keyed SysSegment
detached_at moment pid o id =
    unwrap_or (option_map (λ e. with_entry o id (holding e (detached e.object (record { 0 = pid }) moment)))
    (entry_of o id)) o

-- after a descriptor of a process on this object went: a segment is detached, any other object is none of them
abbrev pub detached_on : ℕ → ℕ → Keyed SysSegment → Object → Keyed SysSegment
detached_on moment pid o on = if same_kind on.kind kinds.Shm then detached_at moment pid o on.number else o

-- after one of its descriptors went, if it has it
abbrev pub detached_by : ℕ → ℕ → Keyed SysSegment → Option Descriptor → Keyed SysSegment
detached_by moment pid o d = unwrap_or (option_map (λ c. detached_on moment pid o c.on) d) o

-- after all of these went, by rising number
abbrev pub detached_all : ℕ → ℕ → Keyed SysSegment → Table → Keyed SysSegment
detached_all moment pid o table = fold (λ those d. detached_on moment pid those d.1.on) o table

-- after those of all these processes went, by rising pid
abbrev pub detached_each : ℕ → Keyed SysSegment → List (ℕ × Process) → Keyed SysSegment
detached_each moment o processes = fold (λ those p. detached_all moment p.0 those p.1.descriptors) o processes
