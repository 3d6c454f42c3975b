-- What a disk that fails after so many calls shows.
use Rattle.std.specs.Prelude.{ℕ}
use Rattle.ipc_disk.specs.declared.fuse.FuseDisk.{FuseDisk}
use Rattle.ipc_disk.specs.declared.memory.MemoryDisk.{MemoryDisk}
use Rattle.ipc_disk.specs.Counts.{Counts}
use Rattle.ipc_disk.specs.Medium.{Medium}
use Rattle.ipc_disk.specs.Memory.{memory_size, memory_medium, memory_counts}

-- the disk that it passes calls on to
abbrev pub disk_of : FuseDisk → MemoryDisk
disk_of fuse = fuse.disk

-- how many calls it still passes
abbrev pub calls_left : FuseDisk → ℕ
calls_left fuse = fuse.calls

-- the number that chooses what a crash leaves
abbrev pub keep_of : FuseDisk → ℕ
keep_of fuse = fuse.keep

-- its number of sectors
abbrev pub fuse_size : FuseDisk → ℕ
fuse_size fuse = memory_size fuse.disk

-- what it reads, and what a crash may leave
abbrev pub fuse_medium : FuseDisk → Medium
fuse_medium fuse = memory_medium fuse.disk

-- the failures are its own
abbrev pub fuse_counts : FuseDisk → Counts
fuse_counts fuse = record (memory_counts fuse.disk) { failures = fuse.failures }
