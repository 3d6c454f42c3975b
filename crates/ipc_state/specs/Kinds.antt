-- The kinds of objects (sysvipc(7), mq_overview(7), sem_overview(7), shm_overview(7)): what differs in the kind alone,
-- a row each.
use Rattle.std.specs.Prelude.{ℕ, ℤ, pos, Bool, true, false, not, ◌&&◌, ◌||◌, nat_eq, List, []}
use Rattle.std.specs.Int.RustNames.{bit_and}
use Rattle.std.specs.Ordering.{int_eq}
use Rattle.std.specs.Result.{is_ok}
use Rattle.std.specs.Str.{bytes_eq}
use Rattle.ipc_perm.specs.declared.perm.Perm.{Perm}
use Rattle.ipc_keys.specs.Names.{check_name, is_none}
use Rattle.ipc_keys.specs.declared.check.NameKind.{NameKind}
use Rattle.ipc_keys.specs.declared.check.NameKind.TheVariants as names
use Rattle.posix_mq.specs.Queue.{Queue as Mq}
use Rattle.shm_segment.specs.Segment.{Segment}
use Rattle.shm_segment.specs.SysSegment.{SysSegment, marked}
use Rattle.sysv_msg.specs.Queue.{Queue}
use Rattle.sysv_sem.specs.Set.{Set}
use Rattle.ipc_state.specs.declared.objects.Entry.{Entry}
use Rattle.ipc_state.specs.declared.parked.ObjectKind.{ObjectKind}
use Rattle.ipc_state.specs.declared.parked.ObjectKind.TheVariants as kinds
use Rattle.ipc_state.specs.Bound.{ObjectsOf}
use Rattle.ipc_state.specs.Keyed.{Keyed}
use Rattle.ipc_state.specs.Named.{Named, is_own}

-- what an object is bound to, whether two of these are one, and the one that names none
abbrev pub BoundOf : ObjectKind → Type 0
BoundOf kinds.MsgQueue = ℤ
BoundOf kinds.Semset = ℤ
BoundOf kinds.Shm = ℤ
BoundOf (kinds.Named kind) = List ℕ

abbrev pub same_bound : (kind : ObjectKind) → BoundOf kind → BoundOf kind → Bool
same_bound kinds.MsgQueue = int_eq
same_bound kinds.Semset = int_eq
same_bound kinds.Shm = int_eq
same_bound (kinds.Named kind) = bytes_eq

abbrev pub no_bound : (kind : ObjectKind) → BoundOf kind
no_bound kinds.MsgQueue = pos 0
no_bound kinds.Semset = pos 0
no_bound kinds.Shm = pos 0
no_bound (kinds.Named kind) = []

-- what an object is
abbrev pub Content : ObjectKind → Type 0
Content kinds.MsgQueue = Queue
Content kinds.Semset = Set
Content kinds.Shm = SysSegment
Content (kinds.Named names.Mq) = Mq
Content (kinds.Named names.Psem) = ℕ
Content (kinds.Named names.Pshm) = Segment

abbrev pub EntryOf : ObjectKind → Type 0
EntryOf kind = Entry (BoundOf kind) (Content kind)

abbrev pub Those : ObjectKind → Type 0
Those kind = ObjectsOf (BoundOf kind) (Content kind)

-- whether descriptors may be open on objects of the kind, and with which flags: on a POSIX queue to read, to write, or
-- both; on a segment with a name to read, or both
abbrev pub may_open : ObjectKind → Bool
may_open kinds.MsgQueue = false
may_open kinds.Semset = false
may_open kinds.Shm = true
may_open (kinds.Named kind) = true

abbrev pub has_access : ObjectKind → ℕ → Bool
has_access (kinds.Named names.Mq) flags = not (nat_eq (bit_and flags 3) 3)
has_access (kinds.Named names.Psem) flags = true
has_access (kinds.Named names.Pshm) flags = nat_eq (bit_and flags 1) 0
has_access kinds.Shm flags = true
has_access kind flags = false

-- whether an object goes if it is bound to none and no descriptor is open on it: one that may have a name does, and a
-- System V segment that is marked
abbrev pub leaves : (kind : ObjectKind) → Content kind → Bool
leaves kinds.MsgQueue q = false
leaves kinds.Semset s = false
leaves kinds.Shm x = x.is_marked
leaves (kinds.Named kind) x = true

-- what an object becomes as it is bound to none any more: a System V segment is marked, any other stays what it is
abbrev pub parted : (kind : ObjectKind) → Content kind → Content kind
parted kinds.MsgQueue q = q
parted kinds.Semset s = s
parted kinds.Shm x = marked x
parted (kinds.Named kind) x = x

-- whether an object that is bound to this stays, on which no descriptor is open
abbrev pub keeps_by : {B : Type 0} → (B → B → Bool) → B → B → Bool → Bool
keeps_by same none b leaves = not (same b none) || not leaves

abbrev pub keeps : (kind : ObjectKind) → BoundOf kind → Content kind → Bool
keeps kind b x = keeps_by (same_bound kind) (no_bound kind) b (leaves kind x)

-- whether an object may be bound to this, with these permissions: a name, if there is one, is one that an object of the
-- kind may have, and whoever made the object owns it; a System V segment that is marked has no key
abbrev pub is_bound_so : (kind : ObjectKind) → BoundOf kind → Perm → Content kind → Bool
is_bound_so kinds.MsgQueue key perm q = true
is_bound_so kinds.Semset key perm s = true
is_bound_so kinds.Shm key perm x = not x.is_marked || int_eq key (pos 0)
is_bound_so (kinds.Named kind) name perm x = (is_none name || is_ok (check_name kind name)) && is_own perm

-- ---- the objects of all kinds

-- those with a name
pub record NamedObjects : Type 0 where
  pub mq : Named Mq
  pub psem : Named ℕ
  pub pshm : Named Segment

pub record Objects : Type 0 where
  pub msg : Keyed Queue
  pub semset : Keyed Set
  pub shm : Keyed SysSegment
  pub named : NamedObjects

-- those of a kind
abbrev pub of_name_kind : NamedObjects → (kind : NameKind) → Those (kinds.Named kind)
of_name_kind o names.Mq = o.mq
of_name_kind o names.Psem = o.psem
of_name_kind o names.Pshm = o.pshm

abbrev pub of_kind : Objects → (kind : ObjectKind) → Those kind
of_kind o kinds.MsgQueue = o.msg
of_kind o kinds.Semset = o.semset
of_kind o kinds.Shm = o.shm
of_kind o (kinds.Named kind) = of_name_kind o.named kind

-- with others of a kind
abbrev pub with_name_kind : NamedObjects → (kind : NameKind) → Those (kinds.Named kind) → NamedObjects
with_name_kind o names.Mq others = record o { mq = others }
with_name_kind o names.Psem others = record o { psem = others }
with_name_kind o names.Pshm others = record o { pshm = others }

abbrev pub with_kind : Objects → (kind : ObjectKind) → Those kind → Objects
with_kind o kinds.MsgQueue others = record o { msg = others }
with_kind o kinds.Semset others = record o { semset = others }
with_kind o kinds.Shm others = record o { shm = others }
with_kind o (kinds.Named kind) others = record o { named = with_name_kind o.named kind others }

-- with those of each kind that may be open changed so
abbrev pub each_open : ((kind : ObjectKind) → Those kind → Those kind) → Objects → Objects
each_open f o =
    record o {
      shm = f kinds.Shm o.shm;
      named = record {
        mq = f (kinds.Named names.Mq) o.named.mq;
        psem = f (kinds.Named names.Psem) o.named.psem;
        pshm = f (kinds.Named names.Pshm) o.named.pshm;
      };
    }
