-- A run of sectors that belongs to one user of a disk.
use Rattle.std.specs.Prelude.{◌⊎◌, ℕ, ◌+◌, ◌≤◌, ◌<◌}
use Rattle.ipc_disk.specs.declared.range.Range.{Range}

-- a disk of this many sectors has all of it
abbrev pub IsWithin : Range → ℕ → Type 0
IsWithin range size = range.first + range.count ≤ size

-- the sector is one of it
abbrev pub IsInside : Range → ℕ → Type 0
IsInside range at = (range.first ≤ at) × (at < range.first + range.count)

-- the sector is none of it
abbrev pub IsOutside : Range → ℕ → Type 0
IsOutside range at = (at < range.first) ⊎ (range.first + range.count ≤ at)
