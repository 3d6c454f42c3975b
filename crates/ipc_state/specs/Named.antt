-- Objects that may have a name (mq_overview(7), sem_overview(7), shm_overview(7)); whoever makes one owns it. No bytes
-- are no name, and any number of objects may have none. An object is there while it has a name or a descriptor is open
-- on it; which descriptors are open is not told here. Unlink takes the name, and an object without one goes with its
-- last descriptor.
use Rattle.std.specs.Prelude.{ℕ, Bool, not, ◌||◌, ◌&&◌, nat_eq, List, [], Option}
use Rattle.std.specs.Result.{is_ok}
use Rattle.std.specs.Str.{bytes_eq}
use Rattle.ipc_keys.specs.Names.{check_name, is_none}
use Rattle.ipc_keys.specs.declared.check.NameKind.{NameKind}
use Rattle.ipc_perm.specs.declared.perm.Perm.{Perm}
use Rattle.ipc_state.specs.declared.objects.Entry.{Entry}
use Rattle.ipc_state.specs.Bound.{AreBound, AreFound, ObjectsOf, number_of}

abbrev pub NamedEntry : Type 0 → Type 0
NamedEntry X = Entry (List ℕ) X

abbrev pub Named : Type 0 → Type 0
Named X = ObjectsOf (List ℕ) X

-- whoever made it owns it
abbrev pub is_own : Perm → Bool
is_own perm = nat_eq perm.cuid perm.uid && nat_eq perm.cgid perm.gid

-- the number that a name names
abbrev pub named : {X : Type 0} → Named X → List ℕ → Option ℕ
named o name = number_of bytes_eq [] o name

abbrev pub has_name : {X : Type 0} → NamedEntry X → Bool
has_name e = not (is_none e.bound)

-- a name, if there is one, is one that an object of the kind may have; whoever made the object owns it
abbrev pub is_named_so : {X : Type 0} → NameKind → ℕ × NamedEntry X → Bool
is_named_so kind e = (is_none e.1.bound || is_ok (check_name kind e.1.bound)) && is_own e.1.perm

abbrev pub HaveNames : {X : Type 0} → Named X → Type 0
HaveNames o = AreFound bytes_eq [] o

abbrev pub AreNamedObjects : {X : Type 0} → ℕ → (X → Type 0) → Named X → Type 0
AreNamedObjects most IsSoundOne o = AreBound bytes_eq [] most IsSoundOne o
