-- What a disk that remembers shows.
use Rattle.std.specs.Prelude.{ℕ, length, map}
use Rattle.ipc_disk.specs.Counts.{Counts}
use Rattle.ipc_disk.specs.Medium.{Medium}
use Rattle.premises.specs.Remembered.{slots_of, past_of, remembered_medium}
use Rattle.premises.specs.declared.remembering.RememberingDisk.{RememberingDisk}

-- its number of sectors
abbrev pub remembering_size : RememberingDisk → ℕ
remembering_size disk = length disk.slots.items

-- what it reads, and what a crash may leave
abbrev pub remembering_medium : RememberingDisk → Medium
remembering_medium disk = remembered_medium (past_of (map (λ v. v.items) disk.past.items)) (slots_of disk.slots.items)

-- its failures, and its writes and syncs that were Ok
abbrev pub remembering_counts : RememberingDisk → Counts
remembering_counts disk = record { failures = disk.failures; writes = disk.writes; syncs = disk.syncs }
