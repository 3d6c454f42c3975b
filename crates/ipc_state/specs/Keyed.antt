-- Objects that may have a key (sysvipc(7)): IPC_PRIVATE, which is 0, names none, and any number of objects may have it.
use Rattle.std.specs.Prelude.{ℕ, ℤ, pos, Option}
use Rattle.std.specs.Ordering.{int_eq}
use Rattle.ipc_state.specs.declared.objects.Entry.{Entry}
use Rattle.ipc_state.specs.Bound.{AreBound, AreFound, ObjectsOf, number_of}

abbrev pub KeyedEntry : Type 0 → Type 0
KeyedEntry X = Entry ℤ X

abbrev pub Keyed : Type 0 → Type 0
Keyed X = ObjectsOf ℤ X

-- the identifier that a key names
abbrev pub keyed : {X : Type 0} → Keyed X → ℤ → Option ℕ
keyed o key = number_of int_eq (pos 0) o key

abbrev pub HaveKeys : {X : Type 0} → Keyed X → Type 0
HaveKeys o = AreFound int_eq (pos 0) o

abbrev pub AreKeyed : {X : Type 0} → ℕ → (X → Type 0) → Keyed X → Type 0
AreKeyed most IsSoundOne o = AreBound int_eq (pos 0) most IsSoundOne o
