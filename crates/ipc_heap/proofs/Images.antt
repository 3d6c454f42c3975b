-- What images hold, and the map, while sectors that are free are written.
use Rattle.std.proofs.Common.{◌≡◌, ◌⊎◌, ◌↔◌, inl, inr, ℕ, ◌+◌, ◌-◌, ◌^◌, ◌<◌, ◌≤◌, Bool, true, false, not, ◌||◌, List, [], ◌∷◌, ◌++◌, length, get_or, take}
use Rattle.std.proofs.Common.{drop, map, Some, refl, sym, ap, subst, ◌∙◌, arith}
use Rattle.std.specs.Prelude.{All, Contains, IsTrue, nat_eq, nat_lt, slice_get, flat_map}
use Rattle.std.proofs.lemmas.Bool.Decides.{nat_tests}
use Rattle.std.proofs.lemmas.Option.{slice_get-get_or}
use Rattle.std.proofs.lemmas.List.{map-append, length-map}
use Rattle.std.proofs.lemmas.List.Elements.{All-cons, All-head, All-tail, All-append, All-map, All-contains, Contains-get_or, Contains-append_left}
use Rattle.std.proofs.lemmas.List.Elements.{Contains-append_right}
use Rattle.ipc_base.specs.Objects.{PlainObjects, AreObjects}
use Rattle.ipc_base.specs.Table.{IsRising, keys_of, with_entry, without}
use Rattle.ipc_disk.specs.declared.range.Range.{Range}
use Rattle.ipc_disk.specs.Medium.{Image, Medium}
use Rattle.ipc_disk.specs.Range.{IsInside}
use Rattle.ipc_disk.specs.Since.{EachImageSince, LeavesAlone, SameAt}
use Rattle.ipc_disk.specs.Standing.{sector_at}
use Rattle.ipc_disk.proofs.CallerLemmas.{EachImageSince-now, LeavesAlone-keeps, sector_at-same}
use Rattle.ipc_heap.specs.declared.uses.Use.{Use}
use Rattle.ipc_heap.specs.declared.words.Place.{Place}
use Rattle.ipc_heap.specs.Relations.Words.{IsPlace}
use Rattle.ipc_heap.specs.Heap.{Allocation, HoldsIn, Placed, epoch_in, first_in, len_in, next_in, words_in, object_on, object_sectors}
use Rattle.ipc_heap.specs.Heap.{table_words, used, words_at}
use Rattle.ipc_heap.specs.Matches.{HeapMatches}
use Rattle.ipc_heap.specs.View.{HeapView, with_object}
use Rattle.ipc_heap.specs.Relations.Uses.{IsNotFree}
use Rattle.ipc_heap.proofs.Changes.{all-left, all-right, noted-from, noted-to}
use Rattle.ipc_heap.proofs.Sectors.{AreNoted}

-- ---- what sectors decide

pub flat_map-same : (f g : ℕ → List ℕ) (ss : List ℕ) → ((s : ℕ) → Contains ss s → f s ≡ g s) → flat_map f ss ≡ flat_map g ss
flat_map-same f g [] same = refl
flat_map-same f g (s ∷ ss) same =
    ap (λ (l : List ℕ). l ++ flat_map f ss) (same s (0, omega arith, refl))
    ∙ ap (λ (l : List ℕ). g s ++ l) (flat_map-same f g ss (λ t there. same t (Contains-append_right (s ∷ []) ss t there)))

module _ (a b : Image) where
  pub objects-same : (placed : List Placed) → ((s : ℕ) → Contains (object_sectors placed) s → sector_at a s ≡ sector_at b s)
      → map (object_on a) placed ≡ map (object_on b) placed
  objects-same [] same = refl
  objects-same (p ∷ placed) same =
      let mine = flat_map-same (sector_at a) (sector_at b) p.sectors (λ s there. same s (Contains-append_left p.sectors (object_sectors placed) s there)) in
      ap (λ (l : List ℕ). (p.number, take p.len l) ∷ map (object_on a) placed) mine
      ∙ ap (λ (l : PlainObjects). object_on b p ∷ l) (objects-same placed (λ s there. same s (Contains-append_right p.sectors (object_sectors placed) s there)))

  -- an image that has the same in the root and in all sectors that are used holds the same
  pub HoldsIn-sectors : (range : Range) (root epoch : ℕ) (a-has : Allocation) (objects : PlainObjects) → sector_at a root ≡ sector_at b root
      → ((s : ℕ) → Contains (used a-has) s → sector_at a s ≡ sector_at b s)
      → HoldsIn range root epoch a-has objects a → HoldsIn range root epoch a-has objects b
  HoldsIn-sectors range root epoch a-has objects head at holds =
      let in_table : (s : ℕ) → Contains a-has.table s → sector_at a s ≡ sector_at b s =
      λ s there. at s (Contains-append_right (object_sectors a-has.placed) a-has.table s there) in
      record {
        are = holds.are;
        positive = holds.positive;
        allocated = holds.allocated;
        current = ap epoch_in (sym head) ∙ holds.current;
        first = ap first_in (sym head) ∙ holds.first;
        long = ap len_in (sym head) ∙ holds.long;
        chained = λ k less. ap next_in (sym (in_table (get_or a-has.table k 0) (Contains-get_or a-has.table k 0 less))) ∙ holds.chained k less;
        table =
            ap (take (length (table_words a-has.placed)))
            (sym (flat_map-same (words_at a) (words_at b) a-has.table (λ s there. ap (λ (l : List ℕ). words_in (drop 4 l)) (in_table s there))))
            ∙ holds.table;
        stand = holds.stand ∙ objects-same a-has.placed (λ s there. at s (Contains-append_left (object_sectors a-has.placed) a-has.table s there));
      }

  pub HoldsIn-same : (range : Range) (root epoch : ℕ) (a-has : Allocation) (objects : PlainObjects) (places : ℕ → Type 0) → SameAt places a b
      → places root → ((s : ℕ) → Contains (used a-has) s → places s) → HoldsIn range root epoch a-has objects a → HoldsIn range root epoch a-has objects b
  HoldsIn-same range root epoch a-has objects places same at_root at_used =
      HoldsIn-sectors range root epoch a-has objects (sector_at-same places a b root same at_root)
      (λ s there. sector_at-same places a b s same (at_used s there))

-- ---- what is not free

used-kept : (a b : Bool) → (a ≡ true) ⊎ (b ≡ true) → not (a || b) ≡ false
used-kept true b on = refl
used-kept false true on = refl
used-kept false false (inl on) = cc
used-kept false false (inr on) = cc

-- a sector of the range that is noted for either is not free
pub noted-kept : (range : Range) (uses : List Use) (s : ℕ) → length uses ≡ range.count → IsInside range s
    → ((u : Use) → slice_get uses (s - range.first) ≡ Some u → (u.saved ≡ true) ⊎ (u.next ≡ true)) → IsNotFree range uses s
noted-kept range uses s all inside noted =
    let less : s - range.first < length uses = omega (arith, all, inside) in
    let unused : Use = record { saved = false; next = false } in
    let u : Use = get_or uses (s - range.first) unused in
    let at = slice_get-get_or uses (s - range.first) unused less in
    inr (u, at, used-kept u.saved u.next (noted u at))

-- ---- a heap that matches a disk

module _ (heap : HeapView) (saved : PlainObjects) (medium : Medium) (matches : HeapMatches heap saved medium) where
  -- what is saved stands in sectors that are not free
  pub saved-kept : (s : ℕ) → Contains (used matches.there) s → IsNotFree heap.range heap.uses s
  saved-kept s there =
      let holds = matches.images medium.contents matches.honest.reads in
      let inside = All-contains (IsInside heap.range) (used matches.there) s holds.allocated.inside there in
      let place : heap.range.first + (s - heap.range.first) ≡ s = omega (arith, inside) in
      noted-kept heap.range heap.uses s matches.all inside
      (λ u at. inl ((matches.saved_uses (s - heap.range.first) u at).1 (subst (Contains (used matches.there)) (sym place) there)))

  -- and so do the objects of the map
  pub next-kept : (s : ℕ) → IsInside heap.range s → Contains (object_sectors heap.placed) s → IsNotFree heap.range heap.uses s
  next-kept s inside there =
      let place : heap.range.first + (s - heap.range.first) ≡ s = omega (arith, inside) in
      noted-kept heap.range heap.uses s matches.all inside
      (λ u at. inr ((matches.next_uses (s - heap.range.first) u at).1 (subst (Contains (object_sectors heap.placed)) (sym place) there)))

  -- what is saved is there on each image that has the same in the sectors that are not free
  pub saved-same : (a b : Image) → SameAt (IsNotFree heap.range heap.uses) a b → HoldsIn heap.range heap.root heap.epoch matches.there saved a
      → HoldsIn heap.range heap.root heap.epoch matches.there saved b
  saved-same a b same =
      HoldsIn-same a b heap.range heap.root heap.epoch matches.there saved (IsNotFree heap.range heap.uses) same (inl matches.apart) saved-kept

  module _ (new : Medium) (run : LeavesAlone (IsNotFree heap.range heap.uses) medium new) where
    -- a crash at any moment leaves what is saved
    pub kept-images : EachImageSince medium new (HoldsIn heap.range heap.root heap.epoch matches.there saved)
    kept-images =
        LeavesAlone-keeps (IsNotFree heap.range heap.uses) medium new
        (HoldsIn heap.range heap.root heap.epoch matches.there saved) run matches.images saved-same

    pub kept-now : (image : Image) → new.images_now image → HoldsIn heap.range heap.root heap.epoch matches.there saved image
    kept-now = EachImageSince-now medium new (HoldsIn heap.range heap.root heap.epoch matches.there saved) kept-images run.honest

    -- the objects of the map stand as they stood
    pub kept-objects : All (IsInside heap.range) (object_sectors heap.placed)
        → map (object_on medium.contents) heap.placed ≡ map (object_on new.contents) heap.placed
    kept-objects inside =
        objects-same medium.contents new.contents heap.placed
        (λ s there. sector_at-same (IsNotFree heap.range heap.uses) medium.contents new.contents s run.contents
        (next-kept s (All-contains (IsInside heap.range) (object_sectors heap.placed) s inside there) there))

-- ---- a map with an object in its place

module _ {X : Type 0} (n : ℕ) (x : X) where
  without-before : (es rest : List (ℕ × X)) → All (λ e. e.0 < n) es → without nat_eq (es ++ rest) n ≡ es ++ without nat_eq rest n
  without-before [] rest lower = refl
  without-before (e ∷ es) rest lower =
      let other : nat_eq e.0 n ≡ false = let less = All-head (λ d. d.0 < n) e es lower in grind (arith, nat_tests, less) in
      rw other (ap (λ (l : List (ℕ × X)). e ∷ l) (without-before es rest (All-tail (λ d. d.0 < n) e es lower)))

  without-after : (es : List (ℕ × X)) → All (λ e. n < e.0) es → without nat_eq es n ≡ es
  without-after [] higher = refl
  without-after (e ∷ es) higher =
      let other : nat_eq e.0 n ≡ false = let more = All-head (λ d. n < d.0) e es higher in grind (arith, nat_tests, more) in
      rw other (ap (λ (l : List (ℕ × X)). e ∷ l) (without-after es (All-tail (λ d. n < d.0) e es higher)))

  without-here : (here after : List (ℕ × X)) → length here ≤ 1 → All (λ e. e.0 ≡ n) here → All (λ e. n < e.0) after → without nat_eq (here ++ after) n ≡ after
  without-here [] after one same higher = without-after after higher
  without-here (e ∷ []) after one same higher =
      let is : nat_eq e.0 n ≡ true = let key = All-head (λ d. d.0 ≡ n) e [] same in grind (arith, nat_tests, key) in rw is refl
  without-here (e ∷ d ∷ here) after one same higher = absurd (omega (arith, one))

  entry-after : (after : List (ℕ × X)) → All (λ e. n < e.0) after → with_entry after n x ≡ (n, x) ∷ after
  entry-after [] higher = refl
  entry-after (e ∷ after) higher =
      let before : nat_lt n e.0 ≡ true = let more = All-head (λ d. n < d.0) e after higher in grind (arith, nat_tests, more) in rw before refl

  entry-before : (es after : List (ℕ × X)) → All (λ e. e.0 < n) es → All (λ e. n < e.0) after → with_entry (es ++ after) n x ≡ es ++ (n, x) ∷ after
  entry-before [] after lower higher = entry-after after higher
  entry-before (e ∷ es) after lower higher =
      let beyond : nat_lt n e.0 ≡ false = let less = All-head (λ d. d.0 < n) e es lower in grind (arith, nat_tests, less) in
      rw beyond (ap (λ (l : List (ℕ × X)). e ∷ l) (entry-before es after (All-tail (λ d. d.0 < n) e es lower) higher))

  pub with_object-place : (es here after : List (ℕ × X)) → length here ≤ 1 → All (λ e. e.0 < n) es → All (λ e. e.0 ≡ n) here → All (λ e. n < e.0) after
      → with_object (es ++ (here ++ after)) n x ≡ es ++ (n, x) ∷ after
  with_object-place es here after one lower same higher =
      ap (λ (l : List (ℕ × X)). with_entry l n x) (without-before es (here ++ after) lower
      ∙ ap (λ (l : List (ℕ × X)). es ++ l) (without-here here after one same higher)) ∙ entry-before es after lower higher

-- ---- the map after a put

keys-on : (image : Image) (ps : List Placed) → keys_of (map (object_on image) ps) ≡ map (λ p. p.number) ps
keys-on image [] = refl
keys-on image (p ∷ ps) = ap (λ (l : List ℕ). p.number ∷ l) (keys-on image ps)

module _ {placed : List Placed} {place : Place} (p : Placed) (found : IsPlace placed p.number place) where
  map-parts : {Y : Type 0} (f : Placed → Y) → map f placed ≡ map f found.before ++ (map f found.here ++ map f found.after)
  map-parts {Y} f =
      ap (map f) found.are ∙ map-append f found.before (found.here ++ found.after)
      ∙ ap (λ (l : List Y). map f found.before ++ l) (map-append f found.here found.after)

  -- whatever is seen of its objects
  pub put-seen : {X : Type 0} (see : Placed → X) → map {B = ℕ × X} (λ q. (q.number, see q)) (found.before ++ p ∷ found.after)
      ≡ with_object (map (λ q. (q.number, see q)) placed) p.number (see p)
  put-seen {X} see =
      let f : Placed → ℕ × X = λ q. (q.number, see q) in
      map-append f found.before (p ∷ found.after)
      ∙ sym (ap (λ (l : List (ℕ × X)). with_object l p.number (see p)) (map-parts f)
      ∙ with_object-place p.number (see p) (map f found.before) (map f found.here) (map f found.after) (omega (arith, length-map found.here f, found.one))
      (All-map (λ e. e.0 < p.number) f found.before found.lower) (All-map (λ e. e.0 ≡ p.number) f found.here found.same)
      (All-map (λ e. p.number < e.0) f found.after found.higher))

  module _ (image : Image) (bytes : List ℕ) (stands : take p.len (flat_map (sector_at image) p.sectors) ≡ bytes) where
    pub put-map : map (object_on image) (found.before ++ p ∷ found.after) ≡ with_object (map (object_on image) placed) p.number bytes
    put-map =
        put-seen (λ q. take q.len (flat_map (sector_at image) q.sectors)) ∙ ap (with_object (map (object_on image) placed) p.number) stands

    -- they are objects
    pub put-are : AreObjects (map (object_on image) placed) → IsRising 0 (map (λ q. q.number) (found.before ++ p ∷ found.after)) (2 ^ 64)
        → 0 < length bytes → length bytes < 2 ^ 64 → length (found.before ++ p ∷ found.after) < 2 ^ 32
        → AreObjects (map (object_on image) (found.before ++ p ∷ found.after))
    put-are are rising some short few = record {
      numbers = subst (λ (l : List ℕ). IsRising 0 l (2 ^ 64)) (sym (keys-on image (found.before ++ p ∷ found.after))) rising;
      some = all-put (λ o. 0 < length o.1) are.some some;
      lengths = all-put (λ o. length o.1 < 2 ^ 64) are.lengths short;
      count = (let f : Placed → ℕ × List ℕ = object_on image in omega (arith, few, length-map (found.before ++ p ∷ found.after) f));
    }
      where
        all-put : (P : ℕ × List ℕ → Type 0) → All P (map (object_on image) placed) → P (p.number, bytes)
            → All P (map (object_on image) (found.before ++ p ∷ found.after))
        all-put P all mine =
            let f : Placed → ℕ × List ℕ = object_on image in
            let new : map f (found.before ++ p ∷ found.after) ≡ map f found.before ++ (p.number, bytes) ∷ map f found.after =
            map-append f found.before (p ∷ found.after) ∙ ap (λ (b : List ℕ). map f found.before ++ (p.number, b) ∷ map f found.after) stands in
            let parts : All P (map f found.before ++ (map f found.here ++ map f found.after)) = subst (All P) (map-parts f) all in
            subst (All P) (sym new)
            (All-append P (map f found.before) ((p.number, bytes) ∷ map f found.after)
            (all-left P (map f found.before) (map f found.here ++ map f found.after) parts)
            (All-cons P (p.number, bytes) (map f found.after) mine
            (all-right P (map f found.here) (map f found.after) (all-right P (map f found.before) (map f found.here ++ map f found.after) parts))))

-- ---- a heap that matches a disk still matches it

pub kept-matches : (heap : HeapView) (saved : PlainObjects) (medium new : Medium) (matches : HeapMatches heap saved medium)
    → LeavesAlone (IsNotFree heap.range heap.uses) medium new → (placed : List Placed) (uses : List Use)
    → length uses ≡ heap.range.count → map (λ u. u.saved) uses ≡ map (λ u. u.saved) heap.uses
    → ((i : ℕ) (u : Use) → slice_get uses i ≡ Some u → IsTrue u.next ↔ Contains (object_sectors placed) (heap.range.first + i))
    → AreObjects (map (object_on new.contents) placed) → HeapMatches (record heap { placed = placed; uses = uses }) saved new
kept-matches heap saved medium new matches run placed uses all bits next are = record {
  honest = run.honest;
  apart = matches.apart;
  there = matches.there;
  images = kept-now heap saved medium matches new run;
  table = matches.table;
  are = are;
  all = all;
  saved_uses = noted-to (λ u. u.saved) heap.range.first uses (used matches.there)
      (subst (λ (l : List Bool). AreNoted heap.range.first l (used matches.there)) (sym bits)
      (noted-from (λ u. u.saved) heap.range.first heap.uses (used matches.there) matches.saved_uses));
  next_uses = next;
}
