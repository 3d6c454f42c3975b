-- A crash of a disk in memory that is chosen by a number: which of its unsynced sectors keep their last value.
use Rattle.std.specs.Prelude.{ℕ, ◌+◌, ◌^◌, ◌%◌, ◌==◌, nat_eq, bit_and, List, [], ◌∷◌}
use Rattle.std.specs.Prelude.{Bool, not, ◌&&◌, if◌then◌else◌}
use Rattle.std.specs.Cmp.Lexicographic.{pointwise}
use Rattle.ipc_disk.specs.declared.memory.Slot.{Slot}
use Rattle.ipc_disk.specs.Medium.{Image}

-- its last value is not its synced one
abbrev pub is_unsynced : Slot → Bool
is_unsynced slot = not (pointwise nat_eq slot.synced slot.last)

-- bit i mod 64 of the number is set
abbrev pub survives : ℕ → ℕ → Bool
survives keep i = not (bit_and keep (2 ^ (i % 64)) == 0)

-- what is left of a sector before which there are i unsynced ones
abbrev pub survivor : ℕ → ℕ → Slot → List ℕ
survivor keep i slot = if is_unsynced slot && not (survives keep i) then slot.synced else slot.last

-- how many unsynced sectors there are up to this one, i of them before it
abbrev pub passed : ℕ → Slot → ℕ
passed i slot = if is_unsynced slot then i + 1 else i

-- what is left of sectors before which there are i unsynced ones
abbrev pub survivors : ℕ → ℕ → List Slot → Image
survivors keep i [] = []
survivors keep i (slot ∷ slots) = survivor keep i slot ∷ survivors keep (passed i slot) slots
