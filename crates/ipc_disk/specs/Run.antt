-- Neighbouring sectors that were written and wait to be put into a disk.
use Rattle.std.specs.Prelude.{◌≡◌, ◌+◌, ◌≤◌, ◌<◌, ℕ, All, take}
use Rattle.std.proofs.lemmas.List.Elements.{All-take}
use Rattle.ipc_disk.specs.declared.range.Range.{Range}
use Rattle.ipc_disk.specs.declared.run.Run.{Run}
use Rattle.ipc_disk.specs.declared.run.TheConstants.{LONGEST}
use Rattle.ipc_disk.specs.Medium.{Image, IsSector}

-- its sectors
abbrev pub run_values : Run → Image
run_values run = take run.range.count run.sectors

-- each is a sector
pub whole_values : (run : Run) → All IsSector (run_values run)
whole_values run = All-take IsSector run.range.count run.sectors run.whole

-- the sector comes next, after a run that is not full
abbrev pub IsNext : Range → ℕ → Type 0
IsNext range at = (at ≡ range.first + range.count) × (range.count < LONGEST)

-- the run has the sector, or it comes next
abbrev pub Joins : Range → ℕ → Type 0
Joins range at =
    (range.first ≤ at) × (at ≤ range.first + range.count) × (at < range.first + LONGEST)
