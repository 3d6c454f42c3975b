-- What the crates above cite of a heap: it stays what it is over reads and syncs, and over calls that leave its sectors
-- alone; an image is one heap; and what is left of a map.
use Rattle.std.proofs.Common.{◌≡◌, ◌↔◌, inl, inr, ℕ, ◌+◌, ◌^◌, ◌<◌, ◌≤◌, Bool, List, [], ◌∷◌, length, map, Some}
use Rattle.std.proofs.Common.{refl, sym, ap, subst, ◌∙◌, arith}
use Rattle.std.specs.Prelude.{All, Contains, IsTrue, slice_get}
use Rattle.std.specs.List.{filter}
use Rattle.std.proofs.lemmas.List.{length-map}
use Rattle.std.proofs.lemmas.List.Elements.{All-contains, All-filter}
use Rattle.ipc_base.specs.Objects.{PlainObjects, AreObjects}
use Rattle.ipc_base.specs.Table.{IsRising, keys_of}
use Rattle.ipc_base.proofs.CallerLemmas.{rising-lower, test_cases}
use Rattle.ipc_disk.specs.declared.range.Range.{Range}
use Rattle.ipc_disk.specs.Growth.{with_zeros}
use Rattle.ipc_disk.specs.Medium.{Image, Medium, IsHonest, Stays}
use Rattle.ipc_disk.specs.Range.{IsInside, IsOutside, IsWithin}
use Rattle.ipc_disk.specs.Since.{EachImageSince, SameAt, LeavesAlone}
use Rattle.ipc_disk.proofs.CallerLemmas.{EachImageSince-now, LeavesAlone-keeps, sector_at-grown, sector_at-same}
use Rattle.ipc_heap.specs.declared.uses.Use.{Use}
use Rattle.ipc_heap.specs.Heap.{Allocation, Holds, HoldsIn, IsOwn, Placed, object_on, object_sectors, used}
use Rattle.ipc_heap.specs.Matches.{HeapMatches, Keeps}
use Rattle.ipc_heap.specs.View.{HeapView, map_of, sizes_of}
use Rattle.ipc_heap.proofs.Changes.{noted-from, noted-to}
use Rattle.ipc_heap.proofs.Images.{HoldsIn-same, objects-same}
use Rattle.ipc_heap.proofs.Sectors.{AreNoted}
pub use Rattle.ipc_heap.proofs.Damages.{Holds-one, HoldsIn-one}
pub use Rattle.ipc_heap.proofs.Saved.{Holds-wider}
pub use Rattle.ipc_heap.proofs.Changes.{words_for-is}
pub use Rattle.ipc_heap.proofs.Images.{HoldsIn-sectors}
pub use Rattle.ipc_heap.proofs.Meanwhile.{EachLater-join, EachLater-start, EachLater-weaken}
pub use Rattle.ipc_heap.proofs.Meanwhile.{KeepsUsed-holds, KeepsUsed-refl, KeepsUsed-then, KeepsUsed-turns, later-used}

module _ (range : Range) (root : ℕ) (places : ℕ → Type 0) (own : (i : ℕ) → IsOwn range root i → places i) where
  -- the heap's sectors decide what is there
  pub HoldsIn-alone : (epoch : ℕ) (has : Allocation) (objects : PlainObjects) (a b : Image) → SameAt places a b
      → HoldsIn range root epoch has objects a → HoldsIn range root epoch has objects b
  HoldsIn-alone epoch has objects a b same holds =
      HoldsIn-same a b range root epoch has objects places same (own root (inl refl))
      (λ s there. own s (inr (All-contains (IsInside range) (used has) s holds.allocated.inside there))) holds

  pub Holds-alone : (epoch : ℕ) (objects : PlainObjects) (a b : Image) → SameAt places a b
      → Holds range root epoch objects a → Holds range root epoch objects b
  Holds-alone epoch objects a b same holds =
      record { allocation = holds.allocation; there = HoldsIn-alone epoch holds.allocation objects a b same holds.there }

  -- what each image of then had, each image since has
  pub Holds-since : (epoch : ℕ) (objects : PlainObjects) (old new : Medium) → LeavesAlone places old new
      → ((image : Image) → old.images_now image → Holds range root epoch objects image) → EachImageSince old new (Holds range root epoch objects)
  Holds-since epoch objects old new run here = LeavesAlone-keeps places old new (Holds range root epoch objects) run here (Holds-alone epoch objects)

-- it stands there once the disk has grown
pub Holds-grown : (range : Range) (root epoch more : ℕ) (objects : PlainObjects) (image : Image) → IsWithin range (length image) → root < length image
    → Holds range root epoch objects image → Holds range root epoch objects (with_zeros more image)
Holds-grown range root epoch more objects image within there holds = record {
  allocation = holds.allocation;
  there = HoldsIn-sectors image (with_zeros more image) range root epoch holds.allocation objects (sym (sector_at-grown more image root there))
      (λ s used-there. let here = All-contains (IsInside range) (used holds.allocation) s holds.there.allocated.inside used-there in
      sym (sector_at-grown more image s (omega (arith, here, within)))) holds.there;
}

-- the map stays as it is where its sectors do
pub map-alone : (heap : HeapView) (places : ℕ → Type 0) (old new : Medium) → ((i : ℕ) → IsOwn heap.range heap.root i → places i)
    → LeavesAlone places old new → All (IsInside heap.range) (object_sectors heap.placed) → map_of heap new ≡ map_of heap old
map-alone heap places old new own run inside =
    sym (objects-same old.contents new.contents heap.placed
    (λ s there. sector_at-same places old.contents new.contents s run.contents
    (own s (inr (All-contains (IsInside heap.range) (object_sectors heap.placed) s inside there)))))

module _ (heap : HeapView) (saved : PlainObjects) where
  -- each image now has the heap
  pub HeapMatches-holds : (medium : Medium) → HeapMatches heap saved medium → (image : Image) → medium.images_now image
      → Holds heap.range heap.root heap.epoch saved image
  HeapMatches-holds medium at image now = record { allocation = at.there; there = at.images image now }

  -- another root is named
  pub HeapMatches-with_next_root : (medium : Medium) (next_root : ℕ) → HeapMatches heap saved medium
      → HeapMatches (record heap { next_root = next_root }) saved medium
  HeapMatches-with_next_root medium next_root at = record {
    honest = at.honest;
    apart = at.apart;
    there = at.there;
    images = at.images;
    table = at.table;
    are = at.are;
    all = at.all;
    saved_uses = at.saved_uses;
    next_uses = at.next_uses;
  }

  -- it matches a disk on which there are no other images, and the map is the same
  moved : (old new : Medium) (at : HeapMatches heap saved old) → IsHonest new → map_of heap new ≡ map_of heap old
      → ((image : Image) → new.images_now image → HoldsIn heap.range heap.root heap.epoch at.there saved image) → HeapMatches heap saved new
  moved old new at honest same images = record {
    honest = honest;
    apart = at.apart;
    there = at.there;
    images = images;
    table = at.table;
    are = subst AreObjects (sym same) at.are;
    all = at.all;
    saved_uses = at.saved_uses;
    next_uses = at.next_uses;
  }

  -- a read or a sync of others
  pub HeapMatches-stays : (old new : Medium) → Stays old new → HeapMatches heap saved old → HeapMatches heap saved new
  HeapMatches-stays old new call at =
      moved old new at (call.time.honest.0 at.honest) (ap (λ (i : Image). map (object_on i) heap.placed) (call.contents at.honest))
      (λ image now. at.images image (call.images image now))

  -- calls that leave the heap's sectors alone
  pub HeapMatches-alone : (places : ℕ → Type 0) (old new : Medium) → ((i : ℕ) → IsOwn heap.range heap.root i → places i) → LeavesAlone places old new
      → All (IsInside heap.range) (object_sectors heap.placed) → HeapMatches heap saved old → HeapMatches heap saved new
  HeapMatches-alone places old new own run inside at =
      let P : Image → Type 0 = HoldsIn heap.range heap.root heap.epoch at.there saved in
      moved old new at run.honest (map-alone heap places old new own run inside)
      (EachImageSince-now old new P
      (LeavesAlone-keeps places old new P run at.images (HoldsIn-alone heap.range heap.root places own heap.epoch at.there saved)) run.honest)

-- ---- what is left of a map

module _ {X : Type 0} (numbers : ℕ → Bool) where
  keeps-keys : (low : ℕ) (es : List (ℕ × X)) (high : ℕ) → IsRising low (keys_of es) high
      → IsRising low (keys_of (filter (λ e. numbers e.0) es)) high
  keeps-keys low [] high rising = rising
  keeps-keys low (e ∷ es) high rising = elim (test_cases (numbers e.0)) [
    | inl on ↦ rw on (rising.0, keeps-keys (e.0 + 1) es high rising.1)
    | inr off ↦ rw off (rising-lower low (e.0 + 1) _ high (omega (arith, rising.0)) (keeps-keys (e.0 + 1) es high rising.1))
  ]

  fewer : (es : List (ℕ × X)) → length (filter (λ e. numbers e.0) es) ≤ length es
  fewer [] = omega arith
  fewer (e ∷ es) =
      let rest = fewer es in
      elim (test_cases (numbers e.0)) [ inl on ↦ rw on (omega (arith, rest)) | inr off ↦ rw off (omega (arith, rest)) ]

  -- as it is seen
  pub keeps-seen : (see : Placed → X) (ps : List Placed)
      → map {B = ℕ × X} (λ p. (p.number, see p)) (filter (λ p. numbers p.number) ps)
      ≡ filter (λ e. numbers e.0) (map {B = ℕ × X} (λ p. (p.number, see p)) ps)
  keeps-seen see [] = refl
  keeps-seen see (p ∷ ps) = elim (test_cases (numbers p.number)) [
    | inl on ↦ rw on (ap (λ (l : List (ℕ × X)). (p.number, see p) ∷ l) (keeps-seen see ps))
    | inr off ↦ rw off (keeps-seen see ps)
  ]

pub keeps-are : (numbers : ℕ → Bool) (objects : PlainObjects) → AreObjects objects → AreObjects (filter (λ o. numbers o.0) objects)
keeps-are numbers objects are = record {
  numbers = keeps-keys numbers 0 objects (2 ^ 64) are.numbers;
  some = All-filter (λ o. numbers o.0) (λ o. 0 < length o.1) objects are.some;
  lengths = All-filter (λ o. numbers o.0) (λ o. length o.1 < 2 ^ 64) objects are.lengths;
  count = omega (arith, fewer numbers objects, are.count);
}

module _ (numbers : ℕ → Bool) (old new : HeapView) (keeps : Keeps numbers old new) where
  pub Keeps-map : (medium : Medium) → map_of new medium ≡ filter (λ o. numbers o.0) (map_of old medium)
  Keeps-map medium =
      ap (λ (l : List Placed). map (object_on medium.contents) l) keeps.placed ∙ keeps-seen numbers (λ p. (object_on medium.contents p).1) old.placed

  pub Keeps-sizes : sizes_of new ≡ filter (λ s. numbers s.0) (sizes_of old)
  Keeps-sizes = ap (λ (l : List Placed). map (λ p. (p.number, p.len)) l) keeps.placed ∙ keeps-seen numbers (λ p. p.len) old.placed

  -- the heap matches the disk that it matched
  pub Keeps-matches : (saved : PlainObjects) (medium : Medium) → HeapMatches old saved medium → HeapMatches new saved medium
  Keeps-matches saved medium at =
      let long : length new.uses ≡ length old.uses =
      sym (length-map new.uses (λ (u : Use). u.saved)) ∙ ap length keeps.saved ∙ length-map old.uses (λ (u : Use). u.saved) in
      let Has : Range → ℕ → ℕ → Type 0 = λ range root epoch.
      (image : Image) → medium.images_now image → HoldsIn range root epoch at.there saved image in
      let stays = keeps.stays in
      record {
        honest = at.honest;
        apart = subst (λ (r : Range). IsOutside r new.root) (sym stays.range) (subst (λ (n : ℕ). IsOutside old.range n) (sym stays.root) at.apart);
        there = at.there;
        images = subst (λ (r : Range). Has r new.root new.epoch) (sym stays.range)
            (subst (λ (n : ℕ). Has old.range n new.epoch) (sym stays.root) (subst (λ (n : ℕ). Has old.range old.root n) (sym stays.epoch) at.images));
        table = at.table ∙ sym stays.table;
        are = subst AreObjects (sym (Keeps-map medium)) (keeps-are numbers (map_of old medium) at.are);
        all = long ∙ at.all ∙ ap (λ (r : Range). r.count) (sym stays.range);
        saved_uses = subst (λ (r : Range). (i : ℕ) (u : Use) → slice_get new.uses i ≡ Some u → IsTrue u.saved ↔ Contains (used at.there) (r.first + i))
            (sym stays.range)
            (noted-to (λ u. u.saved) old.range.first new.uses (used at.there)
            (subst (λ (l : List Bool). AreNoted old.range.first l (used at.there)) (sym keeps.saved)
            (noted-from (λ u. u.saved) old.range.first old.uses (used at.there) at.saved_uses)));
        next_uses = keeps.next at.next_uses;
      }
