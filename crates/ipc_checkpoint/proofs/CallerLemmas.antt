-- What the crates above cite of a checkpoint: it stays what it is over reads and syncs, and over calls that leave its
-- sectors alone; and an image is one checkpoint.
use Rattle.std.proofs.Common.{◌≡◌, ℕ, map, ap, subst, ◌∙◌}
use Rattle.ipc_base.specs.Objects.{PlainObjects}
use Rattle.ipc_disk.specs.Medium.{Image, Medium, Stays}
use Rattle.ipc_disk.specs.Since.{EachImageSince, SameAt, LeavesAlone}
use Rattle.ipc_heap.specs.Heap.{object_on}
use Rattle.ipc_heap.proofs.CallerLemmas as heap
use Rattle.ipc_checkpoint.specs.declared.layout.Layout.{Layout}
use Rattle.ipc_checkpoint.specs.Checkpoint.{IsOwn, Holds}
use Rattle.ipc_checkpoint.specs.Matches.{CheckpointMatches, IsSavedUnder}
use Rattle.ipc_checkpoint.specs.View.{CheckpointView, with_next_root, layout_of, layout_under, epoch_of, saved_root}

module _ (layout : Layout) where
  -- the checkpoint's sectors decide what is there
  pub Holds-alone : (places : ℕ → Type 0) (epoch : ℕ) (objects : PlainObjects) (a b : Image) → ((i : ℕ) → IsOwn layout i → places i)
      → SameAt places a b → Holds layout epoch objects a → Holds layout epoch objects b
  Holds-alone places epoch objects a b own same holds = heap.Holds-alone layout.range layout.root places own epoch objects a b same holds

  -- what each image of then had, each image since has
  pub Holds-since : (places : ℕ → Type 0) (epoch : ℕ) (objects : PlainObjects) (old new : Medium) → ((i : ℕ) → IsOwn layout i → places i)
      → LeavesAlone places old new → ((image : Image) → old.images_now image → Holds layout epoch objects image)
      → EachImageSince old new (Holds layout epoch objects)
  Holds-since places epoch objects old new own run here = heap.Holds-since layout.range layout.root places own epoch objects old new run here

-- an image is one checkpoint
pub Holds-one : (layout : Layout) (epoch other : ℕ) (objects others : PlainObjects) (image : Image) → Holds layout epoch objects image
    → Holds layout other others image → (epoch ≡ other) × (objects ≡ others)
Holds-one layout = heap.Holds-one layout.range layout.root

module _ (root : ℕ) (checkpoint : CheckpointView) (objects : PlainObjects) where
  -- each image now has the checkpoint
  pub IsSavedUnder-holds : (medium : Medium) → IsSavedUnder root checkpoint objects medium → (image : Image) → medium.images_now image
      → Holds (layout_under root checkpoint) (epoch_of checkpoint) objects image
  IsSavedUnder-holds medium at image now =
      subst (λ (r : ℕ). Holds (layout_under r checkpoint) (epoch_of checkpoint) objects image) at.under
      (heap.HeapMatches-holds checkpoint.heap objects medium at.matches image now)

  -- a read or a sync of others
  pub IsSavedUnder-stays : (old new : Medium) → Stays old new → IsSavedUnder root checkpoint objects old
      → IsSavedUnder root checkpoint objects new
  IsSavedUnder-stays old new call at = record {
    matches = heap.HeapMatches-stays checkpoint.heap objects old new call at.matches;
    under = at.under;
    map = ap (λ (i : Image). map (object_on i) checkpoint.heap.placed) (call.contents at.matches.honest) ∙ at.map;
    inside = at.inside;
    free = at.free;
  }

  -- calls that leave the checkpoint's sectors alone
  pub IsSavedUnder-alone : (places : ℕ → Type 0) (old new : Medium) → ((i : ℕ) → IsOwn (layout_under root checkpoint) i → places i)
      → LeavesAlone places old new → IsSavedUnder root checkpoint objects old → IsSavedUnder root checkpoint objects new
  IsSavedUnder-alone places old new own run at =
      let its-own : (i : ℕ) → IsOwn (layout_under (saved_root checkpoint) checkpoint) i → places i =
      λ i here. own i (subst (λ (r : ℕ). IsOwn (layout_under r checkpoint) i) at.under here) in
      record {
        matches = heap.HeapMatches-alone checkpoint.heap objects places old new its-own run at.inside at.matches;
        under = at.under;
        map = heap.map-alone checkpoint.heap places old new its-own run at.inside ∙ at.map;
        inside = at.inside;
        free = at.free;
      }

  -- another root is named
  pub IsSavedUnder-with_next_root : (next_root : ℕ) (medium : Medium) → IsSavedUnder root checkpoint objects medium
      → IsSavedUnder root (with_next_root next_root checkpoint) objects medium
  IsSavedUnder-with_next_root next_root medium at = record {
    matches = heap.HeapMatches-with_next_root checkpoint.heap objects medium next_root at.matches;
    under = at.under;
    map = at.map;
    inside = at.inside;
    free = at.free;
  }

module _ (checkpoint : CheckpointView) (objects : PlainObjects) where
  abbrev its_root : ℕ
  its_root = (layout_of checkpoint).root

  pub CheckpointMatches-holds : (medium : Medium) → CheckpointMatches checkpoint objects medium → (image : Image) → medium.images_now image
      → Holds (layout_of checkpoint) (epoch_of checkpoint) objects image
  CheckpointMatches-holds = IsSavedUnder-holds its_root checkpoint objects

  pub CheckpointMatches-stays : (old new : Medium) → Stays old new → CheckpointMatches checkpoint objects old
      → CheckpointMatches checkpoint objects new
  CheckpointMatches-stays = IsSavedUnder-stays its_root checkpoint objects

  pub CheckpointMatches-alone : (places : ℕ → Type 0) (old new : Medium) → ((i : ℕ) → IsOwn (layout_of checkpoint) i → places i)
      → LeavesAlone places old new → CheckpointMatches checkpoint objects old → CheckpointMatches checkpoint objects new
  CheckpointMatches-alone = IsSavedUnder-alone its_root checkpoint objects

-- a checkpoint matches a disk with one list of objects
pub CheckpointMatches-one : (checkpoint : CheckpointView) (objects others : PlainObjects) (medium : Medium)
    → CheckpointMatches checkpoint objects medium → CheckpointMatches checkpoint others medium → objects ≡ others
CheckpointMatches-one checkpoint objects others medium first second =
    let here = CheckpointMatches-holds checkpoint objects medium first medium.contents first.matches.honest.reads in
    let there = CheckpointMatches-holds checkpoint others medium second medium.contents first.matches.honest.reads in
    (Holds-one (layout_of checkpoint) (epoch_of checkpoint) (epoch_of checkpoint) objects others medium.contents here there).1
