-- A heap that was read and noted as a whole stands there.
use Rattle.std.proofs.Common.{◌≡◌, ◌↔◌, inl, inr, ⊎_elim, ℕ, ◌+◌, ◌-◌, ◌*◌, ◌/◌, ◌%◌, ◌^◌, ◌<◌, ◌≤◌, true, false, Bool, List, [], ◌∷◌, ◌++◌}
use Rattle.std.proofs.Common.{length, get_or, take, drop, map, replicate, cond, Some, refl, sym, ap, subst, ◌∙◌, arith}
use Rattle.std.specs.Prelude.{◌≢◌, ◌⊎◌, IsTrue, MatchBool, All, Any, Contains, nat_eq, count_by, slice_get, flat_map, vec_capacity}
use Rattle.std.specs.List.{IsDistinct}
use Rattle.std.proofs.lemmas.Bool.{cases_lt}
use Rattle.std.proofs.lemmas.List.{append-nil, get_or-replicate, get_or_past, length-append, length-map, length-replicate}
use Rattle.std.proofs.lemmas.List.Elements.{All-contains, All-map, Contains-append_right, Contains-get_or}
use Rattle.std.proofs.lemmas.List.Folds.{sum_by-replicate}
use Rattle.std.proofs.lemmas.Option.{slice_get_within, get_or_from_slice_get}
use Rattle.ipc_base.specs.Objects.{PlainObjects}
use Rattle.ipc_base.specs.Table.{IsRising}
use Rattle.ipc_disk.specs.declared.range.Range.{Range}
use Rattle.ipc_disk.specs.Medium.{Image, Medium, IsShaped, IsHonest, IsDurable}
use Rattle.ipc_disk.specs.Range.{IsInside, IsWithin, IsOutside}
use Rattle.ipc_disk.specs.Standing.{sector_at, sectors_for}
use Rattle.ipc_heap.specs.declared.root.Root.{Root}
use Rattle.ipc_heap.specs.declared.uses.Use.{Use}
use Rattle.ipc_heap.specs.Damage.{AreFirstObjects, IsTable, IsFirstDamage, chain_for, words_of_table}
use Rattle.ipc_heap.specs.Damage.IsFirstDamage.{Rest}
use Rattle.ipc_heap.specs.Heap.{Placed, Allocation, Holds, HoldsIn, IsChained, len_in, next_in}
use Rattle.ipc_heap.specs.Heap.{object_on, object_sectors, object_words, table_sectors_for, table_words, words_at}
use Rattle.ipc_heap.specs.View.{HeapView, is_free, map_of}
use Rattle.ipc_heap.specs.Matches.{HeapMatches}
use Rattle.ipc_heap.specs.Relations.Opening.{AreAllNoted, AreNoted, IsSound}
use Rattle.ipc_heap.specs.Relations.Parts.{AreThere}
use Rattle.ipc_heap.specs.declared.opening.Parts.{Parts}
use Rattle.ipc_heap.specs.Relations.Root.{IsRead}
use Rattle.ipc_heap.specs.Relations.Words.{placed_in, IsHeap}
use Rattle.ipc_heap.proofs.Changes.{seen}
use Rattle.ipc_heap.proofs.Distinct.{in-none, distinct-left}
use Rattle.ipc_heap.proofs.Placed.{IsSized, placed_in-table}
use Rattle.ipc_heap.proofs.Stands.{bytes-on, keys-seen}

-- ---- before anything is noted

abbrev none : Use
none = record { saved = false; next = false }

nothing-twice : IsDistinct nat_eq []
unfolding IsDistinct
nothing-twice = tt

pub unused-noted : (range : Range) (uses : List Use) → uses ≡ replicate range.count none → AreNoted range [] [] uses
unused-noted range uses is =
    let unused : (i : ℕ) (u : Use) → slice_get uses i ≡ Some u → u ≡ none = λ i u there.
    let lt : i < range.count = omega (arith, slice_get_within uses i u there, ap length is, length-replicate range.count none) in
    sym (get_or_from_slice_get uses i u none there) ∙ ap (λ (l : List Use). get_or l i none) is ∙ get_or-replicate range.count i none none lt in
    record {
      all = ap length is ∙ length-replicate range.count none;
      saved = λ i u there. (
        λ on. (let never : false ≡ true = sym (ap (λ (v : Use). v.saved) (unused i u there)) ∙ on in cc),
        λ has. absurd (in-none (range.first + i) has),
      );
      next = λ i u there. (
        λ on. (let never : false ≡ true = sym (ap (λ (v : Use). v.next) (unused i u there)) ∙ on in cc),
        λ has. absurd (in-none (range.first + i) has),
      );
      inside = λ k d lt. absurd (omega (arith, lt));
      once = nothing-twice;
      free = omega (arith, ap (count_by is_free) is, sum_by-replicate (λ (u : Use). cond (is_free u) 1 0) range.count none);
    }

-- ---- after all of it is

module _ {range : Range} {table words : List ℕ} {uses : List Use} (noted : AreAllNoted range table words uses true) (some : 0 < length words) where
  abbrev placed : List Placed
  placed = noted.placed

  words-from : (l : List ℕ) → 0 < length l → drop 1 l ≡ flat_map object_words placed ++ [] → length placed ≡ get_or l 0 0 → l ≡ table_words placed
  words-from [] none left count = absurd (omega (arith, none))
  words-from (w ∷ l) some left count =
      ap (λ (n : ℕ). n ∷ l) (sym count) ∙ ap (λ (rest : List ℕ). length placed ∷ rest) (left ∙ append-nil (flat_map object_words placed))

  pub words-are : words ≡ table_words placed
  words-are =
      words-from words some (noted.are.words_are ∙ ap (λ (l : List ℕ). flat_map object_words placed ++ l) noted.is_map.0) noted.all

  sized : All IsSized placed
  sized k d lt = (noted.are.sizes k d lt).1

  pub placed-are : placed_in words ≡ placed
  placed-are = ap placed_in words-are ∙ placed_in-table placed sized

  all-sizes : All (λ p. (0 < p.len) × (p.len < 2 ^ 64) × (length p.sectors ≡ sectors_for p.len)) placed
  all-sizes k d lt = (noted.is_map.1 k d lt, (noted.are.sizes k d lt).0, sized k d lt)

-- what was gone through is no map, or it ends within a word
pub damaged-rest : (range : Range) (at : ℕ) (image : Image) (root : Root) (table words : List ℕ) (uses : List Use) (whole : Bool)
    → IsRead (sector_at image at) root → IsTable range at image table → words ≡ words_of_table at image table → AreAllNoted range table words uses whole
    → (whole ≡ false) ⊎ (root.len % 4 ≢ 0) → IsFirstDamage range at image at
damaged-rest range at image root table words uses whole read is words-are noted wrong =
    let there : AreFirstObjects range table (words_of_table at image table) noted.placed noted.rest =
    subst (λ (l : List ℕ). AreFirstObjects range table l noted.placed noted.rest) words-are noted.are in
    let all : length noted.placed ≡ get_or (words_of_table at image table) 0 0 = noted.all ∙ ap (λ (l : List ℕ). get_or l 0 0) words-are in
    Rest table noted.rest noted.placed is there all (⊎_elim
    (λ no. inr (subst (λ (b : Bool). MatchBool b ((noted.rest ≡ []) × All (λ p. 0 < p.len) noted.placed)
    ((0 < length noted.rest) ⊎ Any (λ p. p.len ≡ 0) noted.placed)) no noted.is_map))
    (λ within. inl (λ same. within (omega (arith, same, read.len))))
    wrong)

-- ---- what stands there

length-objects : (placed : List Placed) → length placed ≤ length (flat_map object_words placed)
length-objects [] = omega arith
length-objects (p ∷ placed) = omega (arith, length-append (object_words p) (flat_map object_words placed), length-objects placed)

-- the parts of a heap were read and noted as a whole
pub record AreWhole (range : Range) (root : Root) (parts : Parts) : Type 0 where
  pub noted : AreAllNoted range parts.table.items parts.words.items parts.uses true
  pub all : 4 * length parts.words.items ≡ root.len
  pub sound : IsSound range root

module _ {range : Range} {root : Root} {parts : Parts} (whole : AreWhole range root parts) where
  abbrev objects : List Placed
  objects = whole.noted.placed

  some : 0 < length parts.words.items
  some = omega (arith, whole.all, whole.sound.some)

  its-words : parts.words.items ≡ table_words objects
  its-words = words-are whole.noted some

  pub its-objects : placed_in parts.words.items ≡ objects
  its-objects = placed-are whole.noted some

  its-sizes : All (λ p. (0 < p.len) × (p.len < 2 ^ 64) × (length p.sectors ≡ sectors_for p.len)) objects
  its-sizes = all-sizes whole.noted some

  -- the parts can be kept
  pub parts-heap : 5 * range.count + 5 ≤ vec_capacity parts.words → table_sectors_for (5 * range.count + 5) ≤ vec_capacity parts.table
      → IsHeap range parts.words parts.table parts.uses
  parts-heap room table-room =
      let kept = sym its-objects in
      let uses : AreNoted range (object_sectors objects) parts.table.items parts.uses = whole.noted.noted in
      record {
        is_table = its-words ∙ ap table_words kept;
        numbers = subst (λ (l : List Placed). IsRising 0 (map (λ p. p.number) l) (2 ^ 64)) kept whole.noted.are.numbers;
        sizes = subst (λ (l : List Placed). All (λ p. (0 < p.len) × (p.len < 2 ^ 64) × (length p.sectors ≡ sectors_for p.len)) l) kept its-sizes;
        inside = subst (λ (l : List Placed). All (IsInside range) (object_sectors l)) kept whole.noted.are.inside;
        once = subst (λ (l : List Placed). IsDistinct nat_eq (object_sectors l)) kept
            (distinct-left (object_sectors objects) parts.table.items whole.noted.are.once);
        table_within = λ k d lt.
            let x : ℕ = get_or parts.table.items k d in
            All-contains (IsInside range) (object_sectors objects ++ parts.table.items) x uses.inside
            (Contains-append_right (object_sectors objects) parts.table.items x (Contains-get_or parts.table.items k d lt));
        all_uses = uses.all;
        next_uses = subst (λ (l : List Placed). (i : ℕ) (u : Use) → slice_get parts.uses i ≡ Some u
            → IsTrue u.next ↔ Contains (object_sectors l) (range.first + i)) kept uses.next;
        room = room;
        table_room = table-room;
      }

  abbrev kept : ℕ → HeapView
  kept at = seen range at at root.epoch parts.words parts.table parts.uses

  pub kept-free : count_by is_free parts.uses + length (object_sectors (placed_in parts.words.items) ++ parts.table.items) ≡ range.count
  kept-free =
      subst (λ (l : List Placed). count_by is_free parts.uses + length (object_sectors l ++ parts.table.items) ≡ range.count) (sym its-objects)
      whole.noted.noted.free

  pub kept-table : length parts.table.items ≡ chain_for root.len
      → length parts.table.items ≡ table_sectors_for (length (table_words (placed_in parts.words.items)))
  kept-table long =
      let words : length parts.words.items ≡ length (table_words (placed_in parts.words.items)) =
      ap length its-words ∙ ap (λ (l : List Placed). length (table_words l)) (sym its-objects) in
      omega (arith, long, whole.all, words)

  module _ {at : ℕ} {image : Image} {size : ℕ} (read : IsRead (sector_at image at) root) (there : AreThere range at image parts)
      (shaped : IsShaped size image) (within : IsWithin range size) (fits : root.len < 2 ^ 32) where
    abbrev allocated : Allocation
    allocated = record { placed = objects; table = parts.table.items }

    -- as many bytes stand there as an object has
    bytes-long : All (λ p. length (object_on image p).1 ≡ p.len) objects
    bytes-long = bytes-on range image size shaped within objects whole.noted.are.inside its-sizes

    chained : IsChained image parts.table.items
    chained k lt =
        let table : List ℕ = parts.table.items in
        ⊎_elim
        (λ (more : k + 1 < length table). there.is_table.first.linked k more)
        (λ (last : length table ≤ k + 1).
        let end : k ≡ length table - 1 = omega (arith, lt, last) in
        ap (λ (n : ℕ). next_in (sector_at image (get_or table n 0))) end ∙ there.is_table.last ∙ sym (get_or_past table (k + 1) 0 last))
        (cases_lt (k + 1) (length table))

    -- the image has them
    pub parts-hold : HoldsIn range at root.epoch allocated (map (object_on image) objects) image
    parts-hold =
        let bytes : Placed → List ℕ = λ p. take p.len (flat_map (sector_at image) p.sectors) in
        let size-is : length parts.words.items ≡ length (table_words objects) = ap length its-words in
        let few : length objects ≤ length (flat_map object_words objects) = length-objects objects in
        let long : len_in (sector_at image at) ≡ 4 * length (table_words objects) = omega (arith, read.len, whole.all, size-is) in
        let count : len_in (sector_at image at) / 4 ≡ length (table_words objects) = omega (arith, long) in
        record {
          are = record {
            numbers = subst (λ (ks : List ℕ). IsRising 0 ks (2 ^ 64)) (sym (keys-seen bytes objects)) whole.noted.are.numbers;
            some = All-map (λ o. 0 < length o.1) (object_on image) objects (λ k d lt. omega (arith, bytes-long k d lt, (its-sizes k d lt).0));
            lengths = All-map (λ o. length o.1 < 2 ^ 64) (object_on image) objects (λ k d lt. omega (arith, bytes-long k d lt, (its-sizes k d lt).1));
            count = omega (arith, length-map objects (object_on image), few, size-is, whole.all, fits);
          };
          positive = whole.sound.positive;
          allocated = record {
            numbers = whole.noted.are.numbers;
            sizes = its-sizes;
            table = omega (arith, there.is_table.all, long);
            inside = whole.noted.noted.inside;
            once = whole.noted.noted.once;
          };
          current = read.epoch;
          first = sym there.is_table.first.begin;
          long = long;
          chained = chained;
          table = ap (λ (n : ℕ). take n (flat_map (words_at image) parts.table.items)) (sym count) ∙ sym there.words ∙ its-words;
          stand = refl;
        }

    -- what is kept, seen on a disk from which this image is read
    module _ (medium : Medium) (same : medium.contents ≡ image) where
      map-is : map_of (kept at) medium ≡ map (object_on image) objects
      map-is = ap (λ (l : List Placed). map (object_on medium.contents) l) its-objects ∙ ap (λ (i : Image). map (object_on i) objects) same

      kept-there : HoldsIn range at root.epoch allocated (map_of (kept at) medium) image
      kept-there = subst (λ (o : PlainObjects). HoldsIn range at root.epoch allocated o image) (sym map-is) parts-hold

      pub kept-holds : Holds range at root.epoch (map_of (kept at) medium) image
      kept-holds = record { allocation = allocated; there = kept-there }

      pub kept-matches : IsOutside range at → IsHonest medium → IsDurable medium → HeapMatches (kept at) (map_of (kept at) medium) medium
      kept-matches apart honest durable = record {
        honest = honest;
        apart = apart;
        there = allocated;
        images = λ i now. subst (HoldsIn range at root.epoch allocated (map_of (kept at) medium)) (sym (durable i now ∙ same)) kept-there;
        table = refl;
        are = kept-there.are;
        all = whole.noted.noted.all;
        saved_uses = whole.noted.noted.saved;
        next_uses = subst (λ (l : List Placed). (i : ℕ) (u : Use) → slice_get parts.uses i ≡ Some u
            → IsTrue u.next ↔ Contains (object_sectors l) (range.first + i)) (sym its-objects) whole.noted.noted.next;
      }
