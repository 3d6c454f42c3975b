-- Objects of one kind, each bound to a key (sysvipc(7)) or to a name (mq_overview(7)), by which a get finds it: each
-- has a number, what it is bound to, and who may use it. A key or a name names one object at most. One of them names
-- none, and any number of objects may be bound to that.
use Rattle.std.specs.Prelude.{◌≡◌, ◌≢◌, ℕ, ◌<◌, Bool, if◌then◌else◌, List, map, filter, Option, Some, None}
use Rattle.std.specs.Prelude.{option_map, unwrap_or, All}
use Rattle.ipc_base.specs.Table.{value_at, keys_of, IsRising}
use Rattle.ipc_perm.specs.declared.perm.Perm.{Perm}
use Rattle.ipc_state.specs.declared.objects.Entry.{Entry}
use Rattle.ipc_state.specs.Numbered.{Numbered, AreNumbered, entry_of, with_entry}

abbrev pub ObjectsOf : Type 0 → Type 0 → Type 0
ObjectsOf B X = Numbered (Entry B X)

-- what each object is bound to, with the number
abbrev pub bound_row : {B X : Type 0} → ℕ × Entry B X → B × ℕ
bound_row e = (e.1.bound, e.0)

abbrev pub bounds_in : {B X : Type 0} → ObjectsOf B X → List (B × ℕ)
bounds_in o = map bound_row o.entries

-- the number of the object that is bound to this, by a test of two and the one that names none
abbrev pub number_of : {B X : Type 0} → (B → B → Bool) → B → ObjectsOf B X → B → Option ℕ
number_of same none o b = if same b none then None else value_at same (bounds_in o) b

-- each names the object that is bound to it, so no two are bound to the same
abbrev pub NameThem : {B : Type 0} → (B → B → Bool) → B → List (B × ℕ) → Type 0
NameThem same none bounds = All (λ k. k.0 ≢ none → value_at same bounds k.0 ≡ Some k.1) bounds

-- ---- entries

-- an entry with another object
abbrev pub holding : {B X Y : Type 0} → Entry B X → Y → Entry B Y
holding e x = record { bound = e.bound; perm = e.perm; object = x }

-- an entry with other permissions
abbrev pub permitting : {B X : Type 0} → Entry B X → Perm → Entry B X
permitting e perm = record { bound = e.bound; perm = perm; object = e.object }

-- an entry that is bound to another, and what its object becomes by that
abbrev pub rebound : {B X : Type 0} → (X → X) → Entry B X → B → Entry B X
rebound f e b = record { bound = b; perm = e.perm; object = f e.object }

-- ---- tables

-- another object at a number, if it is there, bound as before
abbrev pub putting : {B X : Type 0} → ObjectsOf B X → ℕ → X → ObjectsOf B X
putting o n x = unwrap_or (option_map (λ e. with_entry o n (holding e x)) (entry_of o n)) o

-- without what an entry of the number is bound to, if it is there
abbrev pub without_bound : {B X : Type 0} → (X → X) → B → ObjectsOf B X → ℕ → Option (Entry B X) → ObjectsOf B X
without_bound f none o n None = o
without_bound f none o n (Some e) = with_entry o n (rebound f e none)

-- with an object that is bound to none any more
abbrev pub unbound : {B X : Type 0} → (X → X) → B → ObjectsOf B X → ℕ → ObjectsOf B X
unbound f none o n = without_bound f none o n (entry_of o n)

-- those for which a test stands are left
abbrev pub kept_if : {B X : Type 0} → (ℕ × Entry B X → Bool) → ObjectsOf B X → ObjectsOf B X
kept_if test o = record { next = o.next; entries = filter test o.entries }

-- ---- soundness

-- numbers rise, and keys or names name the objects that are bound to them
pub record AreFound {B X : Type 0} (same : B → B → Bool) (none : B) (o : ObjectsOf B X) : Type 0 where
  pub numbers : IsRising 1 (keys_of o.entries) o.next
  pub bounds : NameThem same none (bounds_in o)

-- What holds of them, when something holds of each: their numbers are in order; each key or name names the object that
-- is bound to it; a mode has nine bits.
pub record AreBound {B X : Type 0} (same : B → B → Bool) (none : B) (most : ℕ) (IsSoundOne : X → Type 0)
    (o : ObjectsOf B X) : Type 0 where
  pub numbered : AreNumbered most o
  pub bounds : NameThem same none (bounds_in o)
  pub modes : All (λ e. e.1.perm.mode < 512) o.entries
  pub each : All (λ e. IsSoundOne e.1.object) o.entries
