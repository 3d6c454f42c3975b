-- What a file of the system shows, under a disk in a file.
use Rattle.std.specs.Prelude.{ℕ, []}
use Rattle.ipc_disk.specs.declared.system.FileRuns.{FileRuns}
use Rattle.ipc_disk.specs.Medium.{Medium}

-- its number of sectors
abbrev pub file_size : FileRuns → ℕ
file_size file = file.sectors

-- its syncs that were Ok
abbrev pub file_syncs : FileRuns → ℕ
file_syncs file = file.syncs

-- Nothing is claimed. No clause can say what a file of the system keeps. So no image is named here, and
-- no file is called honest: what is proved of honest disks says nothing of a disk in a file by itself.
-- That a file keeps what a disk of runs has to keep is a premise outside of every proof, and is tested.
abbrev pub file_medium : FileRuns → Medium
file_medium file = record {
  contents = [];
  images_now = λ image. ⊥;
  moment = 0;
  images_since = λ t image. ⊥;
}
