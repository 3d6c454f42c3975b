-- A device on a disk that has grown stands for what it stood for.
use Rattle.std.proofs.Common.{◌≡◌, ℕ, ◌≤◌, List, length, replicate, sym, ap, subst, arith}
use Rattle.std.specs.Prelude.{map}
use Rattle.std.proofs.lemmas.List.{length-append}
use Rattle.ipc_limits.specs.declared.limits.Limits.{Limits}
use Rattle.ipc_disk.specs.Growth.{with_zeros}
use Rattle.ipc_disk.specs.Medium.{Image}
use Rattle.ipc_disk.specs.Standing.{sector_at}
use Rattle.ipc_disk.proofs.CallerLemmas.{sector_at-grown}
use Rattle.ipc_heap.specs.Heap.{Holds as HeapHolds}
use Rattle.ipc_heap.proofs.CallerLemmas.{Holds-grown}
use Rattle.ipc_journal.proofs.CallerLemmas.{Holds-same}
use Rattle.ipc_state.specs.State.{State}
use Rattle.ipc_image.specs.declared.format.Format.{Format}
use Rattle.ipc_image.specs.Format.{IsFormat}
use Rattle.ipc_image.specs.Superblock.{sectors_in, IsSuperblockIn}
use Rattle.ipc_store.specs.Batch.{batch_bytes}
use Rattle.ipc_store.specs.Image.{journal_form, journal_range, objects_range, named_sectors, IsDeviceIn, StandsForIn}
use Rattle.ipc_image.proofs.CallerLemmas.{form-placed}

module _ (more : ℕ) (image : Image) where
  abbrev after : Image
  after = with_zeros more image

  longer : length image ≤ length after
  longer = omega (arith, length-append image (replicate more (replicate 512 0)))

  module _ (form : Format) (known : IsFormat form) (limits : Limits) (device : IsDeviceIn form limits image) where
    first : sector_at after 0 ≡ sector_at image 0
    first = sector_at-grown more image 0 (omega (arith, device.superblock.room, device.whole))

    device-grown : IsDeviceIn form limits after
    device-grown = record {
      superblock = subst (λ (s : List ℕ). IsSuperblockIn form (sectors_in s) limits s) (sym first) device.superblock;
      whole = omega (arith, device.whole, longer, ap sectors_in first);
    }

    pub StandsForIn-grown : (s : State) → StandsForIn form limits s image → StandsForIn form limits s after
    StandsForIn-grown s is =
        let n : ℕ = named_sectors image in
        let same : named_sectors after ≡ n = ap sectors_in first in
        record {
          epoch = is.epoch;
          base = is.base;
          kept = record {
            device = device-grown;
            objects = is.kept.objects;
            there = subst (λ (k : ℕ). HeapHolds (objects_range form k) form.root is.epoch is.kept.objects after) (sym same)
                (Holds-grown (objects_range form n) form.root is.epoch more is.kept.objects image
                (omega (arith, device.superblock.room, device.whole))
                (omega (arith, device.superblock.room, device.whole, (form-placed form known).root.1)) is.kept.there);
            stand = is.kept.stand;
          };
          batches = is.batches;
          journal = Holds-same (journal_form form) (journal_range form) is.epoch (map batch_bytes is.batches) image after (form-placed form known).some
              (λ j inside. sym (sector_at-grown more image j (omega (arith, inside.1, device.superblock.room, device.whole)))) is.journal;
          leads = is.leads;
        }

-- it has its own first sector, so it is a device before it has grown
pub StandsForIn-with_zeros : (more : ℕ) (form : Format) → IsFormat form → (limits : Limits) (s : State) (image : Image) → StandsForIn form limits s image
    → StandsForIn form limits s (with_zeros more image)
StandsForIn-with_zeros more form known limits s image is = StandsForIn-grown more image form known limits is.kept.device s is
