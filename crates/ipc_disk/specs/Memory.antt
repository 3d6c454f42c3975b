-- What a disk in memory shows.
use Rattle.std.specs.Prelude.{ℕ, length, count_by}
use Rattle.ipc_disk.specs.declared.memory.MemoryDisk.{MemoryDisk}
use Rattle.ipc_disk.specs.Counts.{Counts}
use Rattle.ipc_disk.specs.Crash.{is_unsynced, survivors}
use Rattle.ipc_disk.specs.Medium.{Image, Medium}
use Rattle.ipc_disk.specs.Slots.{slots_medium, synced_values}

-- its number of sectors
abbrev pub memory_size : MemoryDisk → ℕ
memory_size disk = length disk.slots.items

-- what it reads, and what a crash may leave
abbrev pub memory_medium : MemoryDisk → Medium
memory_medium disk = slots_medium disk.slots.items

-- each sector's value at the last sync
abbrev pub synced_image : MemoryDisk → Image
synced_image disk = synced_values disk.slots.items

-- how many of its sectors have a last value that is not the synced one
abbrev pub unsynced_count : MemoryDisk → ℕ
unsynced_count disk = count_by is_unsynced disk.slots.items

-- the image that a number chooses
abbrev pub chosen_image : ℕ → MemoryDisk → Image
chosen_image keep disk = survivors keep 0 disk.slots.items

-- it never fails
abbrev pub memory_counts : MemoryDisk → Counts
memory_counts disk = record { failures = 0; writes = disk.writes; syncs = disk.syncs }
