-- What a disk that joins neighbouring writes shows, over a disk of type D that takes runs.
use Rattle.std.specs.Prelude.{◌≡◌, ℕ, Bool, IsTrue, []}
use Rattle.ipc_disk.specs.declared.joined.JoinedDisk.{JoinedDisk}
use Rattle.ipc_disk.specs.declared.range.Range.{Range}
use Rattle.ipc_disk.specs.Counts.{Counts}
use Rattle.ipc_disk.specs.Medium.{Image, Medium}
use Rattle.ipc_disk.specs.Run.{run_values}
use Rattle.ipc_disk.specs.Runs.{with_waiting}

-- the disk under it
abbrev pub disk_under : {D : Type 0} → {R : _} → JoinedDisk D R → D
disk_under disk = disk.disk

-- the sectors that were written and are not put into that disk yet
abbrev pub waiting_range : {D : Type 0} → {R : _} → JoinedDisk D R → Range
waiting_range disk = disk.run.value.range

-- their values
abbrev pub waiting_values : {D : Type 0} → {R : _} → JoinedDisk D R → Image
waiting_values disk = run_values disk.run.value

-- a sync of it has failed
abbrev pub has_failed_sync : {D : Type 0} → {R : _} → JoinedDisk D R → Bool
has_failed_sync disk = disk.failed_sync

-- its number of sectors, which is that of the disk under it
abbrev pub joined_size : {D : Type 0} → {R : _} → JoinedDisk D R → ℕ
joined_size {D} {R} disk = R.size disk.disk

-- what it reads, and what a crash may leave
abbrev pub joined_medium : {D : Type 0} → {R : _} → JoinedDisk D R → Medium
joined_medium {D} {R} disk = with_waiting (waiting_range disk).first (waiting_values disk) (R.medium disk.disk)

-- its failures, and its writes of a sector that were Ok; its syncs that were are those of the disk under it
abbrev pub joined_counts : {D : Type 0} → {R : _} → JoinedDisk D R → Counts
joined_counts {D} {R} disk = record { failures = disk.failures; writes = disk.writes; syncs = R.syncs disk.disk }

-- it was just made over a disk with so many syncs: no call of it is counted, nothing waits, and no sync has failed
pub record IsUnused {D : Type 0} {R : _} (syncs : ℕ) (disk : JoinedDisk D R) : Type 0 where
  pub counts : joined_counts disk ≡ record { failures = 0; writes = 0; syncs = syncs }
  pub nothing_waits : waiting_values disk ≡ []
  pub sure : ¬ IsTrue (has_failed_sync disk)
