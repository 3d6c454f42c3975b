-- What is undone when a process exits (semop(2)): at each semaphore, by its set and its number there, an adjustment,
-- which is added to the value at the exit. Only adjustments that are not 0 are kept; if there is none, it is 0. So two
-- processes with the same adjustments have equal ones, whatever memory they have.
use Rattle.std.specs.Prelude.{◌≡◌, ◌≢◌, ℕ, ℤ, pos, ◌-ℤ◌, ◌==◌, Bool, true, not}
use Rattle.std.specs.Prelude.{Option, Some, None, All, if◌then◌else◌}
use Rattle.std.specs.Coded.{Coded, coded×, coded_ℕ, coded_ℤ}
use Rattle.std.specs.Option.{unwrap_or}
use Rattle.std.specs.Ordering.{nat_cmp, int_eq, ordering_then}
use Rattle.std.specs.declared.cmp.Ordering.{Ordering}
use Rattle.std.specs.FinMap as fin
pub use Rattle.ipc_base.specs.Adjustment.{is_adjustment}
use Rattle.sem_undo.specs.declared.undo.UndoRow.{UndoRow}

-- the set and the number of the semaphore
abbrev pub Key : Type 0
Key = ℕ × ℕ

-- what a row is of, and the row as an entry
abbrev pub key_of : UndoRow → Key
key_of r = (r.set.0, r.num)

abbrev pub entry_of : UndoRow → Key × ℤ
entry_of r = (key_of r, r.adjustment)

-- by rising set, then by rising number
abbrev pub key_cmp : Key → Key → Ordering
key_cmp x y = ordering_then (nat_cmp x.0 y.0) (nat_cmp x.1 y.1)

-- the adjustments that are not 0
abbrev pub Undo : Type 0
Undo = fin.FinMap key_cmp ℤ

-- the adjustment there, 0 if there is none
abbrev pub adjustment : Undo → Key → ℤ
adjustment undo k = unwrap_or (fin.get undo k) (pos 0)

-- with another adjustment there: 0 is the same as none
abbrev pub with_adjustment : Undo → Key → ℤ → Undo
with_adjustment undo k a = if int_eq a (pos 0) then fin.remove undo k else fin.insert undo k a

-- after an operation with SEM_UNDO: what it added to the value is subtracted
abbrev pub subtracted : Undo → Key → ℤ → Undo
subtracted undo k sem_op = with_adjustment undo k (adjustment undo k -ℤ sem_op)

-- without the one at a semaphore
abbrev pub without_semaphore : ℕ → ℕ → Undo → Undo
without_semaphore set num undo = fin.remove undo (set, num)

-- without those at the semaphores of a set
abbrev pub without_set : ℕ → Undo → Undo
without_set set undo = fin.retain_keys undo (λ k. not (k.0 == set))

-- without the one at the semaphore of this number of a set, or those at all of the set
abbrev pub cleared : ℕ → Option ℕ → Undo → Undo
cleared set None undo = without_set set undo
cleared set (Some num) undo = without_semaphore set num undo

-- what is kept: an adjustment, and not 0
abbrev pub IsKept : ℤ → Type 0
IsKept a = (a ≢ pos 0) × (is_adjustment a ≡ true)

-- each that is there is one
abbrev pub IsSoundUndo : Undo → Type 0
IsSoundUndo undo = All (λ e. IsKept e.1) (fin.entries undo)

-- for so many there is room: under any limits there are no more semaphores
abbrev pub most_rows : ℕ
most_rows = 512

-- as what they are stored
abbrev pub undo_code : Coded Undo
undo_code = fin.code {R = key_cmp} (coded× coded_ℕ coded_ℕ) coded_ℤ
