-- Those of later kinds as objects: the four kinds, one after another.
use Rattle.std.proofs.Common.{◌≡◌, ℕ, ◌*◌, ◌^◌, ◌≤◌, List, [], ◌++◌, map, ap, arith}
use Rattle.ipc_base.specs.Objects.{PlainObjects}
use Rattle.posix_mq.specs.Queue.{Queue as Mq}
use Rattle.shm_segment.specs.Segment.{Segment}
use Rattle.shm_segment.specs.SysSegment.{SysSegment}
use Rattle.ipc_state.specs.Keyed.{KeyedEntry}
use Rattle.ipc_state.specs.Named.{NamedEntry}
use Rattle.ipc_image.specs.Kind.{IsOther}
use Rattle.ipc_image.specs.Relations.Mqs.{mq_one}
use Rattle.ipc_image.specs.Relations.Named.{psem_one, segment_one}
use Rattle.ipc_image.specs.Relations.Shms.{shm_one}
use Rattle.ipc_image.specs.Saved.{mq_bytes, FitsMq, psem_bytes, psem_object, FitsPsem, segment_bytes, pshm_object, FitsSegment}
use Rattle.ipc_image.specs.Saved.{shm_bytes, shm_object, FitsShm, LaterObjects, later_objects, FitLater}
use Rattle.ipc_image.proofs.ReadKinds.{objects_one, later-both, later-kind}

-- the objects of each kind, without their next numbers
pub record LaterLists : Type 0 where
  pub mqs : List (ℕ × NamedEntry Mq)
  pub sems : List (ℕ × NamedEntry ℕ)
  pub segments : List (ℕ × NamedEntry Segment)
  pub shms : List (ℕ × KeyedEntry SysSegment)

-- with these in the place of those that are there
abbrev pub listed : LaterObjects → LaterLists → LaterObjects
listed o l =
    record {
      mq = record { next = o.mq.next; entries = l.mqs };
      psem = record { next = o.psem.next; entries = l.sems };
      pshm = record { next = o.pshm.next; entries = l.segments };
      shm = record { next = o.shm.next; entries = l.shms };
    }

abbrev pub lists_of : LaterObjects → LaterLists
lists_of o = record { mqs = o.mq.entries; sems = o.psem.entries; segments = o.pshm.entries; shms = o.shm.entries }

-- the kinds after the named semaphores, and after the POSIX queues
abbrev pub from_pshms : LaterObjects → PlainObjects
from_pshms o = map pshm_object o.pshm.entries ++ map shm_object o.shm.entries

abbrev pub from_psems : LaterObjects → PlainObjects
from_psems o = map psem_object o.psem.entries ++ from_pshms o

pub after-segments : (o : LaterObjects) → IsOther (5 * 2 ^ 32) (map shm_object o.shm.entries)
after-segments o = later-kind (5 * 2 ^ 32) (6 * 2 ^ 32) shm_bytes o.shm.entries (omega arith)

-- the last two are of later kinds
later-segments : (first : ℕ) (o : LaterObjects) → first ≤ 4 * 2 ^ 32 → IsOther first (from_pshms o)
later-segments first o le =
    later-both first (5 * 2 ^ 32) segment_bytes o.pshm.entries (map shm_object o.shm.entries) (omega (arith, le))
    (later-kind first (6 * 2 ^ 32) shm_bytes o.shm.entries (omega (arith, le)))

pub after-sems : (o : LaterObjects) → IsOther (4 * 2 ^ 32) (from_pshms o)
after-sems o = later-segments (4 * 2 ^ 32) o (omega arith)

pub after-mqs : (o : LaterObjects) → IsOther (3 * 2 ^ 32) (from_psems o)
after-mqs o =
    later-both (3 * 2 ^ 32) (4 * 2 ^ 32) psem_bytes o.psem.entries (from_pshms o) (omega arith)
    (later-segments (3 * 2 ^ 32) o (omega arith))

-- all of them are of later kinds than the queues and the semaphore sets
pub of-later-kinds : (first : ℕ) (o : LaterObjects) → first ≤ 2 * 2 ^ 32 → IsOther first (later_objects o)
of-later-kinds first o le =
    later-both first (3 * 2 ^ 32) mq_bytes o.mq.entries (from_psems o) (omega (arith, le))
    (later-both first (4 * 2 ^ 32) psem_bytes o.psem.entries (from_pshms o) (omega (arith, le)) (later-segments first o (omega (arith, le))))

-- they are known by their objects
pub later_one : (o p : LaterObjects) → FitLater o → FitLater p → later_objects o ≡ later_objects p → lists_of o ≡ lists_of p
later_one o p fit also same =
    let mqs = objects_one (3 * 2 ^ 32) mq_bytes FitsMq mq_one o.mq.entries p.mq.entries (from_psems o) (from_psems p)
    fit.mqs also.mqs (after-mqs o) (after-mqs p) same in
    let sems = objects_one (4 * 2 ^ 32) psem_bytes FitsPsem psem_one o.psem.entries p.psem.entries
    (from_pshms o) (from_pshms p) fit.psems also.psems (after-sems o) (after-sems p) mqs.1 in
    let segments = objects_one (5 * 2 ^ 32) segment_bytes FitsSegment segment_one o.pshm.entries p.pshm.entries
    (map shm_object o.shm.entries) (map shm_object p.shm.entries) fit.segments also.segments (after-segments o) (after-segments p) sems.1 in
    let shms = objects_one (6 * 2 ^ 32) shm_bytes FitsShm shm_one o.shm.entries p.shm.entries [] [] fit.shms also.shms tt tt
    (ap (λ (os : PlainObjects). os ++ []) segments.1) in
    λ i. record { mqs = mqs.0 i; sems = sems.0 i; segments = segments.0 i; shms = shms.0 i }
