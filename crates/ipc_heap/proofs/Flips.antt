-- A heap is turned over: the images while the next table and the root are written.
use Rattle.std.proofs.Common.{◌≡◌, ◌≢◌, inl, inr, ⊎_elim, ℕ, ◌*◌, ◌<◌, List, ◌++◌, length, get_or, take, drop, map, refl, sym, ap, subst}
use Rattle.std.proofs.Common.{◌∙◌, arith}
use Rattle.std.specs.Prelude.{All, Contains, slice_set, flat_map}
use Rattle.std.proofs.lemmas.List.{length-set}
use Rattle.std.proofs.lemmas.List.Elements.{All-contains, Contains-get_or, All-weaker}
use Rattle.ipc_disk.specs.Medium.{Image, Medium, IsDurable, IsHonest}
use Rattle.ipc_disk.specs.Range.{IsInside, IsOutside}
use Rattle.ipc_disk.specs.Since.{EachImageSince, LeavesAlone, SameAt}
use Rattle.ipc_disk.specs.Standing.{sector_at}
use Rattle.ipc_disk.proofs.CallerLemmas.{EachImageSince-weaken, LeavesAlone-fewer, LeavesAlone-start}
use Rattle.ipc_disk.proofs.CallerLemmas.{EachImageSince-start}
use Rattle.ipc_disk.proofs.CallerLemmas.{sector_at-same, sector_at-set_same, sector_at-set_other, slice_get-set_other}
use Rattle.ipc_base.specs.Objects.{PlainObjects, AreObjects}
use Rattle.ipc_disk.specs.declared.range.Range.{Range}
use Rattle.ipc_heap.specs.declared.uses.Use.{Use}
use Rattle.ipc_heap.specs.Heap.{HoldsEither, HoldsIn, IsLaidOut, epoch_in, next_in, object_on, object_sectors, table_words, used, Allocation, Holds}
use Rattle.ipc_heap.specs.Heap.{words_in, words_at, IsAllocation}
use Rattle.ipc_heap.specs.Matches.{HeapMatches, StaysSaved, IsKept, AreNext}
use Rattle.ipc_heap.specs.Meanwhile.{EachLater, KeepsUsedOrTurns}
use Rattle.ipc_heap.specs.View.{HeapView, map_of}
use Rattle.ipc_heap.specs.Relations.Flip.{IsEither, IsTurned, IsUnturned}
use Rattle.ipc_heap.specs.Relations.Root.{IsRead}
use Rattle.ipc_heap.specs.Relations.Table.{IsTableOn}
use Rattle.ipc_heap.specs.Relations.Uses.{IsNotFree, WasFree, saved_bits}
use Rattle.ipc_heap.proofs.Changes.{all-left, all-right, noted-to}
use Rattle.ipc_heap.proofs.Images.{HoldsIn-same, flat_map-same, objects-same, saved-kept}
use Rattle.ipc_heap.proofs.Meanwhile.{keeps-used, EachLater-start, KeepsUsed-refl}
use Rattle.ipc_heap.proofs.Saved.{stays-saved}
use Rattle.ipc_heap.proofs.Sectors.{AreNoted, distinct-apart}
use Rattle.ipc_heap.proofs.Writes.{free-open}

-- a table stands on each image that has its sectors
pub table-same : (words ss : List ℕ) (a b : Image) → ((s : ℕ) → Contains ss s → sector_at a s ≡ sector_at b s) → IsTableOn words ss a → IsTableOn words ss b
table-same words ss a b same on = record {
  chained = λ k less. ap next_in (sym (same (get_or ss k 0) (Contains-get_or ss k 0 less))) ∙ on.chained k less;
  words_there = ap (take (length words)) (sym (flat_map-same (words_at a) (words_at b) ss (λ s there. ap (λ (l : List ℕ). words_in (drop 4 l)) (same s there))))
      ∙ on.words_there;
}

module _ (words table : List ℕ) (root epoch : ℕ) (apart : Contains table root → ⊥) where
  -- the root is written over a table that stands there
  pub turned-there : (old mid : Image) (sector : List ℕ) → SameAt (λ i. Contains table i → ⊥) old mid → IsTableOn words table mid → root < length mid
      → IsRead sector (record { epoch = epoch; first = get_or table 0 0; len = 4 * length words })
      → IsTurned words table root epoch old (slice_set mid root sector)
  turned-there old mid sector same on within read = record {
    table_there = table-same words table mid (slice_set mid root sector)
        (λ s there. sym (sector_at-set_other mid root s sector (λ is. apart (subst (Contains table) is there)))) on;
    root_there = subst (λ (l : List ℕ). IsRead l (record { epoch = epoch; first = get_or table 0 0; len = 4 * length words }))
        (sym (sector_at-set_same mid root sector within)) read;
    others = record {
      count = same.count ∙ sym (length-set mid root sector);
      sectors = λ i here. same.sectors i here.0 ∙ sym (slice_get-set_other mid root i sector here.1);
    };
  }

  module _ (old new : Medium) (run : LeavesAlone (λ i. Contains table i → ⊥) old new) where
    -- while the table is written
    pub moment-table : EachImageSince old new (IsEither words table root epoch old)
    moment-table =
        EachImageSince-weaken old new (λ image. (before : Image) × old.images_now before × SameAt (λ i. Contains table i → ⊥) before image)
        (IsEither words table root epoch old) run.images (λ image from. inl (record { before = from.0; now = from.1; others = from.2 }))

    -- no other sector is touched
    pub others-table : LeavesAlone (λ i. (Contains table i → ⊥) × (i ≢ root)) old new
    others-table = LeavesAlone-fewer (λ i. (Contains table i → ⊥) × (i ≢ root)) (λ i. Contains table i → ⊥) old new (λ i both. both.0) run

-- ---- a heap, before and after

abbrev pub next_of : HeapView → List ℕ → Allocation
next_of heap table = record { placed = heap.placed; table = table }

-- the next table of a heap, before it is written
pub record HasNext (heap : HeapView) (size : ℕ) (words table : List ℕ) (epoch : ℕ) : Type 0 where
  pub laid : IsLaidOut heap.range heap.next_root size
  pub later : heap.epoch < epoch
  pub are : words ≡ table_words heap.placed
  pub allocated : IsAllocation heap.range (next_of heap table)
  pub all : length heap.uses ≡ heap.range.count
  pub free : All (WasFree heap.range.first heap.uses) table

-- calls that turn the heap over, at any moment
pub record TurnsOver (heap : HeapView) (epoch : ℕ) (old new : Medium) : Type 0 where
  pub moment : (saved : PlainObjects) → HeapMatches heap saved old
      → EachImageSince old new (HoldsEither heap.range heap.root heap.epoch saved heap.next_root epoch (map_of heap old))
  pub kept : heap.next_root ≢ heap.root → (saved : PlainObjects) → HeapMatches heap saved old
      → StaysSaved heap.range heap.root heap.epoch saved old new
  pub meanwhile : heap.next_root ≡ heap.root → (saved : PlainObjects) → HeapMatches heap saved old
      → EachLater (KeepsUsedOrTurns heap.range heap.root) old new
  pub others : IsHonest old → LeavesAlone (λ i. IsKept heap i × (i ≢ heap.next_root)) old new

-- none has been made yet
pub turns-none : (heap : HeapView) (epoch : ℕ) (old : Medium) → ((image : Image) → old.images_since old.moment image → old.images_now image)
    → TurnsOver heap epoch old old
turns-none heap epoch old law = record {
  moment = λ saved matches. EachImageSince-start old (HoldsEither heap.range heap.root heap.epoch saved heap.next_root epoch (map_of heap old)) law
      (λ image now. inl (record { allocation = matches.there; there = matches.images image now }));
  kept = λ other saved matches part within now. EachImageSince-start old (Holds part heap.root heap.epoch saved) law now;
  meanwhile = λ same saved matches. EachLater-start (KeepsUsedOrTurns heap.range heap.root) old law
      (λ image. inl (KeepsUsed-refl heap.range heap.root image));
  others = λ honest. LeavesAlone-start (λ i. IsKept heap i × (i ≢ heap.next_root)) old honest law;
}

-- a sector of a range is no root outside of it
not-at : (range : Range) (root s : ℕ) → IsOutside range root → IsInside range s → s ≢ root
not-at range root s out here same = ⊎_elim (λ low. omega (arith, low, here, same)) (λ high. omega (arith, high, here, same)) out

module _ {heap : HeapView} {size : ℕ} {words table : List ℕ} {epoch : ℕ} (n : HasNext heap size words table epoch) where
  pub table-within : All (λ s. s < size) table
  table-within =
      All-weaker (IsInside heap.range) (λ s. s < size) (λ s here. omega (arith, here, n.laid.within)) table
      (all-right (IsInside heap.range) (object_sectors heap.placed) table n.allocated.inside)

  pub root-apart : (root : ℕ) → IsOutside heap.range root → Contains table root → ⊥
  root-apart root out there =
      not-at heap.range root root out
      (All-contains (IsInside heap.range) table root (all-right (IsInside heap.range) (object_sectors heap.placed) table n.allocated.inside) there) refl

  table-kept : (s : ℕ) → IsNotFree heap.range heap.uses s → Contains table s → ⊥
  table-kept s kept there = free-open heap.range heap.uses s n.all (All-contains (WasFree heap.range.first heap.uses) table s n.free there) kept

  -- the objects of the map stand where they stood
  pub objects-turned : (old image : Image) → IsTurned words table heap.next_root epoch old image
      → map (object_on old) heap.placed ≡ map (object_on image) heap.placed
  objects-turned old image is =
      objects-same old image heap.placed
      (λ s there. sector_at-same (λ i. (Contains table i → ⊥) × (i ≢ heap.next_root)) old image s is.others (
        distinct-apart (object_sectors heap.placed) table n.allocated.once s there,
        not-at heap.range heap.next_root s n.laid.apart (All-contains (IsInside heap.range) (object_sectors heap.placed) s
            (all-left (IsInside heap.range) (object_sectors heap.placed) table n.allocated.inside) there),
      ))

  turned-holds : (old : Medium) → AreObjects (map_of heap old) → (image : Image) → IsTurned words table heap.next_root epoch old.contents image
      → HoldsIn heap.range heap.next_root epoch (next_of heap table) (map_of heap old) image
  turned-holds old objects image is = record {
    are = objects;
    positive = omega (arith, n.later);
    allocated = n.allocated;
    current = is.root_there.epoch;
    first = is.root_there.first;
    long = is.root_there.len ∙ ap (λ (l : List ℕ). 4 * length l) n.are;
    chained = is.table_there.chained;
    table = subst (λ (l : List ℕ). take (length l) (flat_map (words_at image) table) ≡ l) n.are is.table_there.words_there;
    stand = objects-turned old.contents image is;
  }

  module _ {saved : PlainObjects} {old : Medium} (matches : HeapMatches heap saved old) where
    unturned-holds : (image : Image) → IsUnturned table old image → HoldsIn heap.range heap.root heap.epoch matches.there saved image
    unturned-holds image is =
        HoldsIn-same is.before image heap.range heap.root heap.epoch matches.there saved (λ i. Contains table i → ⊥) is.others
        (root-apart heap.root matches.apart) (λ s there. table-kept s (saved-kept heap saved old matches s there)) (matches.images is.before is.now)

    -- what was saved stays under its root, if another is written
    kept-holds : heap.next_root ≢ heap.root → (image : Image) → IsTurned words table heap.next_root epoch old.contents image
        → HoldsIn heap.range heap.root heap.epoch matches.there saved image
    kept-holds other image is =
        let holds = matches.images old.contents matches.honest.reads in
        HoldsIn-same old.contents image heap.range heap.root heap.epoch matches.there saved (λ i. (Contains table i → ⊥) × (i ≢ heap.next_root)) is.others
        (root-apart heap.root matches.apart, λ same. other (sym same))
        (λ s there. (
          table-kept s (saved-kept heap saved old matches s there),
          not-at heap.range heap.next_root s n.laid.apart (All-contains (IsInside heap.range) (used matches.there) s holds.allocated.inside there),
        )) holds

  module _ (old new : Medium) where
    -- the table is written, and then the root
    pub turns-over : (IsHonest old → EachImageSince old new (IsEither words table heap.next_root epoch old))
        → (IsHonest old → LeavesAlone (λ i. (Contains table i → ⊥) × (i ≢ heap.next_root)) old new) → TurnsOver heap epoch old new
    turns-over since run =
        let Either : Image → Type 0 = IsEither words table heap.next_root epoch old in
        record {
          moment = λ saved matches. EachImageSince-weaken old new Either
              (HoldsEither heap.range heap.root heap.epoch saved heap.next_root epoch (map_of heap old)) (since matches.honest)
              (λ image either. ⊎_elim (λ is. inl (record { allocation = matches.there; there = unturned-holds matches image is }))
              (λ is. inr (record { allocation = next_of heap table; there = turned-holds old matches.are image is })) either);
          kept = λ other saved matches. stays-saved heap saved old new matches
              (EachImageSince-weaken old new Either (HoldsIn heap.range heap.root heap.epoch matches.there saved) (since matches.honest)
              (λ image either. ⊎_elim (unturned-holds matches image) (kept-holds matches other image) either));
          meanwhile = λ same saved matches. EachImageSince-weaken old new Either
              (λ image. (earlier : Image) × old.images_now earlier × KeepsUsedOrTurns heap.range heap.root earlier image) (since matches.honest)
              (λ image either. ⊎_elim
              (λ is. (is.before, is.now, inl (keeps-used heap saved old matches (λ i. Contains table i → ⊥) table-kept is.before image is.now is.others)))
              (λ is. (
                old.contents,
                matches.honest.reads,
                inr (omega (
                  arith,
                  n.later,
                  (matches.images old.contents matches.honest.reads).current,
                  ap (λ (r : ℕ). epoch_in (sector_at image r)) (sym same) ∙ is.root_there.epoch,
                )),
              )) either);
          others = λ honest. LeavesAlone-fewer (λ i. IsKept heap i × (i ≢ heap.next_root)) (λ i. (Contains table i → ⊥) × (i ≢ heap.next_root)) old new
              (λ i both. (table-kept i both.0, both.1)) (run honest);
        }

    -- the map is what is saved
    pub flip-matches : AreObjects (map_of heap old) → IsHonest new → IsDurable new → IsTurned words table heap.next_root epoch old.contents new.contents
        → (uses : List Use) → length uses ≡ heap.range.count → AreNoted heap.range.first (saved_bits uses) (object_sectors heap.placed ++ table)
        → AreNext (record heap { uses = uses })
        → HeapMatches (record heap { root = heap.next_root; epoch = epoch; table = table; uses = uses }) (map_of heap old) new
    flip-matches objects honest durable is uses all noted next_uses = record {
      honest = honest;
      apart = n.laid.apart;
      there = next_of heap table;
      images = λ image now.
          subst (HoldsIn heap.range heap.next_root epoch (next_of heap table) (map_of heap old)) (sym (durable image now))
          (turned-holds old objects new.contents is);
      table = refl;
      are = subst AreObjects (objects-turned old.contents new.contents is) objects;
      all = all;
      saved_uses = noted-to (λ u. u.saved) heap.range.first uses (object_sectors heap.placed ++ table) noted;
      next_uses = next_uses;
    }
