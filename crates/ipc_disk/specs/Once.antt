-- What a disk shows of which one call fails.
use Rattle.std.specs.Prelude.{ℕ, Bool, Option}
use Rattle.ipc_disk.specs.declared.once.OnceDisk.{OnceDisk}
use Rattle.ipc_disk.specs.declared.memory.MemoryDisk.{MemoryDisk}
use Rattle.ipc_disk.specs.Counts.{Counts}
use Rattle.ipc_disk.specs.Medium.{Medium}
use Rattle.ipc_disk.specs.Memory.{memory_size, memory_medium, memory_counts}

-- the disk that it passes calls on to
abbrev pub under : OnceDisk → MemoryDisk
under once = once.disk

-- how many calls come before the one that fails; none, once it has failed
abbrev pub before_fault : OnceDisk → Option ℕ
before_fault once = once.before

-- whether the write that fails is done
abbrev pub is_done : OnceDisk → Bool
is_done once = once.done

-- its number of sectors
abbrev pub once_size : OnceDisk → ℕ
once_size once = memory_size once.disk

-- what it reads, and what a crash may leave
abbrev pub once_medium : OnceDisk → Medium
once_medium once = memory_medium once.disk

-- the failures and the writes that were Ok are its own
abbrev pub once_counts : OnceDisk → Counts
once_counts once = record (memory_counts once.disk) { failures = once.failures; writes = once.writes }
