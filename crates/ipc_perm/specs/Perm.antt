-- Who may do what to an object (sysvipc(7)). An object has an owner, who made it, and a mode of nine bits: three for
-- the user, then three for the group, then three for all others; of three bits 4 is to read and 2 is to write. A
-- caller is in one class, and only the bits of this class count for it. Uid 0 may do everything.
use Rattle.std.specs.Prelude.{ℕ, ◌+◌, ◌/◌, ◌^◌, ◌==◌, Bool, ◌||◌, if◌then◌else◌}
use Rattle.std.specs.Int.RustNames.{bit_and}
use Rattle.ipc_base.specs.declared.identity.Cred.{Cred}
use Rattle.ipc_perm.specs.declared.access.Class.{Class}
use Rattle.ipc_perm.specs.declared.access.Class.TheVariants.{User, Group, Other}
use Rattle.ipc_perm.specs.declared.perm.Perm.{Perm}

-- of a new object, by who makes it and the flags
abbrev pub perm_of : Cred → ℕ → Perm
perm_of cred flags =
    record {
      uid = cred.uid;
      gid = cred.gid;
      cuid = cred.uid;
      cgid = cred.gid;
      mode = bit_and flags 0o777;
    }

-- with another owner and another mode, of which the low nine bits count; who made the object stays
abbrev pub owned_by : Perm → ℕ → ℕ → ℕ → Perm
owned_by perm uid gid mode = record perm { uid = uid; gid = gid; mode = bit_and mode 0o777 }

-- what a get asks of an object that is there: to read by a read bit of any class, to write by a write bit of any class
abbrev pub asked_by : ℕ → ℕ
asked_by flags =
    (if bit_and flags 0o444 == 0 then 0 else 4) + (if bit_and flags 0o222 == 0 then 0 else 2)

-- the class that a caller is in: the first that is its own
abbrev pub class_of : Cred → Perm → Class
class_of cred perm =
    if cred.uid == perm.uid || cred.uid == perm.cuid then User
    else if cred.gid == perm.gid || cred.gid == perm.cgid then Group
    else Other

-- the three bits of a mode that are for a class
abbrev pub class_bits : ℕ → Class → ℕ
class_bits mode User = bit_and (mode / 2 ^ 6) 7
class_bits mode Group = bit_and (mode / 2 ^ 3) 7
class_bits mode Other = bit_and mode 7

-- whether the caller may do all that is asked
abbrev pub may : Cred → Perm → ℕ → Bool
may cred perm asked =
    cred.uid == 0 || bit_and (class_bits perm.mode (class_of cred perm)) asked == asked

-- whether the caller may change and remove the object
abbrev pub owns : Cred → Perm → Bool
owns cred perm = cred.uid == perm.uid || cred.uid == perm.cuid || cred.uid == 0
