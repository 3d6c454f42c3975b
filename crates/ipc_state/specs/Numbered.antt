-- What has numbers of its own, counted from 1 and never given twice: processes by pid, objects of a kind by identifier.
use Rattle.std.specs.Prelude.{ℕ, ◌+◌, ◌≤◌, Bool, ◌||◌, List, [], ◌∷◌, ◌++◌, length}
use Rattle.std.specs.Prelude.{nat_eq, nat_le, nat_lt, Option}
use Rattle.ipc_base.specs.Table.{value_at, with_value, without, keys_of, IsRising}

-- pids and identifiers end here
abbrev pub last_number : ℕ
last_number = 2147483647

pub record Numbered (X : Type 0) : Type 0 where
  -- the number of the next one
  pub next : ℕ
  -- those that are there, by number
  pub entries : List (ℕ × X)

-- none was there yet
abbrev pub none_yet : {X : Type 0} → Numbered X
none_yet = record { next = 1; entries = [] }

-- what has this number
abbrev pub entry_of : {X : Type 0} → Numbered X → ℕ → Option X
entry_of o n = value_at nat_eq o.entries n

-- none can be added: there are as many as the limit says, or no number is left
abbrev pub is_full : {X : Type 0} → ℕ → Numbered X → Bool
is_full most o = nat_le most (length o.entries) || nat_lt last_number o.next

-- with another in the place of the one that has the number
abbrev pub with_entry : {X : Type 0} → Numbered X → ℕ → X → Numbered X
with_entry o n x = record { next = o.next; entries = with_value nat_eq o.entries n x }

-- with one more, under the next number
abbrev pub with_new : {X : Type 0} → Numbered X → X → Numbered X
with_new o x = record { next = o.next + 1; entries = o.entries ++ (o.next, x) ∷ [] }

-- with one at the end that had its number before; the next number stays
abbrev pub with_last : {X : Type 0} → Numbered X → ℕ → X → Numbered X
with_last o n x = record { next = o.next; entries = o.entries ++ (n, x) ∷ [] }

-- without the one that has the number
abbrev pub without_entry : {X : Type 0} → Numbered X → ℕ → Numbered X
without_entry o n = record { next = o.next; entries = without nat_eq o.entries n }

-- What holds of them: numbers rise from 1 to below the next, which is at most one past the last; there are no more than
-- the limit says.
pub record AreNumbered {X : Type 0} (most : ℕ) (o : Numbered X) : Type 0 where
  pub numbers : IsRising 1 (keys_of o.entries) o.next
  pub next : o.next ≤ last_number + 1
  pub count : length o.entries ≤ most
