-- What a look leaves of a disk.
use Rattle.std.specs.Prelude.{◌≡◌, ℕ}
use Rattle.ipc_disk.specs.Calls.{IsSameDisk}
use Rattle.ipc_disk.specs.Counts.{Counts}
use Rattle.ipc_disk.specs.Medium.{Medium, IsHonest, Stays}

-- reads alone, of which any may fail: what is read stays, there is no new image, and no write and no sync is counted
pub record LeavesAlone {D : Type 0} (size : D → ℕ) (medium : D → Medium) (counts : D → Counts) (old new : D)
    : Type 0 where
  pub same : IsSameDisk size medium old new
  pub stays : IsHonest (medium old) → Stays (medium old) (medium new)
  pub writes : (counts new).writes ≡ (counts old).writes
  pub syncs : (counts new).syncs ≡ (counts old).syncs
