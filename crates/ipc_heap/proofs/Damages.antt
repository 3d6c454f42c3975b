-- Where a heap stands, nothing is damaged: neither its root nor its chain nor its objects; and it is the only one.
use Rattle.std.proofs.Common.{◌≡◌, ◌≢◌, ◌⊎◌, inl, inr, ⊎_elim, ℕ, zero, suc, ◌+◌, ◌-◌, ◌*◌, ◌/◌, ◌^◌, ◌<◌, ◌≤◌, false, List, [], ◌∷◌, ◌++◌}
use Rattle.std.proofs.Common.{length, get_or, take, drop, map, sym, ap, subst, ◌∙◌, append_assoc, take-append-drop, arith}
use Rattle.std.specs.Prelude.{All, Any, Contains, nat_eq, flat_map}
use Rattle.std.specs.List.{IsDistinct}
use Rattle.std.proofs.lemmas.Bool.Decides.{nat_tests}
use Rattle.std.proofs.lemmas.Grind.{same_number_lists}
use Rattle.std.proofs.lemmas.List.{append-nil, append_cancel_left, length-append, get_or_default, get_or_past, take-append-le}
use Rattle.std.proofs.lemmas.List.Concat.{flat_map-append}
use Rattle.std.proofs.lemmas.List.Elements.{All-cons, All-nil, All-contains, Contains-append_left}
use Rattle.std.proofs.lemmas.List.Elements.{Contains-append_right, Contains-append_cases, Contains-get_or}
use Rattle.std.proofs.lemmas.Nat.{shr_split}
use Rattle.std.proofs.lemmas.Map.Keys.{apart_from_distinct}
use Rattle.ipc_base.specs.Objects.{PlainObjects}
use Rattle.ipc_base.specs.Table.{IsRising}
use Rattle.ipc_base.proofs.CallerLemmas.{spelled-next, spelled-same}
use Rattle.ipc_disk.specs.declared.range.Range.{Range}
use Rattle.ipc_disk.specs.Medium.{Image}
use Rattle.ipc_disk.specs.Range.{IsInside}
use Rattle.ipc_disk.specs.Standing.{sector_at, sectors_for}
use Rattle.ipc_heap.specs.Damage.{IsRoot, AreFirst, last_of, chain_for, IsTable, words_of_table}
use Rattle.ipc_heap.specs.Damage.{AreFirstObjects, IsBroken, number_in, size_in, HasSectors, IsFirstDamage}
use Rattle.ipc_heap.specs.Damage.IsFirstDamage.{Root, Next, Last, Object, Twice, Outside, Rest}
use Rattle.ipc_heap.specs.Heap.{Placed, Allocation, HoldsIn, Holds, IsChained, first_in, len_in}
use Rattle.ipc_heap.specs.Heap.{next_in, object_on, object_sectors, object_words, table_words, used, words_at}
use Rattle.ipc_heap.proofs.Distinct.{in-first, distinct-left, distinct-right, distinct-apart, length-inside}
use Rattle.ipc_heap.proofs.Placed.{IsSized, placed_from-words, placed_in-table, all-at}
use Rattle.ipc_heap.specs.Relations.Words.{placed_from, placed_in}

-- ---- the chain

-- the k-th sector of a chain
abbrev pub hop : Image → ℕ → ℕ → ℕ
hop image first zero = first
hop image first (suc k) = next_in (sector_at image (hop image first k))

pub linked-hop : (range : Range) (image : Image) (first : ℕ) (table : List ℕ) → AreFirst range image first table → (k : ℕ) → k < length table
    → get_or table k 0 ≡ hop image first k
linked-hop range image first table are zero lt = are.begin
linked-hop range image first table are (suc k) lt =
    let next : suc k ≡ k + 1 = omega arith in
    ap (λ (n : ℕ). get_or table n 0) next ∙ sym (are.linked k (omega (arith, lt)))
    ∙ ap (λ (n : ℕ). next_in (sector_at image n)) (linked-hop range image first table are k (omega (arith, lt)))

chained-hop : (image : Image) (first : ℕ) (table : List ℕ) → first ≡ get_or table 0 0 → IsChained image table → (k : ℕ) → k ≤ length table
    → get_or table k 0 ≡ hop image first k
chained-hop image first table begin chained zero le = sym begin
chained-hop image first table begin chained (suc k) le =
    let next : suc k ≡ k + 1 = omega arith in
    ap (λ (n : ℕ). get_or table n 0) next ∙ sym (chained k (omega (arith, le)))
    ∙ ap (λ (n : ℕ). next_in (sector_at image n)) (chained-hop image first table begin chained k (omega (arith, le)))

-- ---- the objects

-- the words of an object that stand first tell which it is
pub one-object : (x y : Placed) (more others : List ℕ) → IsSized x → IsSized y → object_words x ++ more ≡ object_words y ++ others → (x ≡ y) × (more ≡ others)
one-object x y more others sized also same =
    let both : flat_map object_words (x ∷ []) ++ more ≡ flat_map object_words (y ∷ []) ++ others =
    ap (λ (l : List ℕ). l ++ more) (append-nil (object_words x)) ∙ same ∙ ap (λ (l : List ℕ). l ++ others) (sym (append-nil (object_words y))) in
    let first : x ∷ [] ≡ y ∷ [] =
    sym (placed_from-words (x ∷ []) more (All-cons IsSized x [] sized (All-nil IsSized))) ∙ ap (placed_from 1) both
    ∙ placed_from-words (y ∷ []) others (All-cons IsSized y [] also (All-nil IsSized)) in
    let is : x ≡ y = cc in
    (is, append_cancel_left (object_words y) more others (ap (λ (z : Placed). object_words z ++ more) (sym is) ∙ same))

-- rising numbers are at least the lowest, and those before one are lower
rising-least : (low : ℕ) (before : List Placed) (p : Placed) (after : List Placed) (high : ℕ)
    → IsRising low (map (λ q. q.number) (before ++ p ∷ after)) high → low ≤ p.number
rising-least low [] p after high rising = rising.0
rising-least low (q ∷ before) p after high rising = omega (arith, rising.0, rising-least (q.number + 1) before p after high rising.1)

pub rising-before : (low : ℕ) (before : List Placed) (p : Placed) (after : List Placed) (high : ℕ)
    → IsRising low (map (λ q. q.number) (before ++ p ∷ after)) high → All (λ q. q.number < p.number) before
rising-before low [] p after high rising = All-nil (λ q. q.number < p.number)
rising-before low (q ∷ before) p after high rising =
    All-cons (λ q. q.number < p.number) q before (omega (arith, rising-least (q.number + 1) before p after high rising.1))
    (rising-before (q.number + 1) before p after high rising.1)

-- ---- what stands there

module _ {range : Range} {root epoch : ℕ} {a : Allocation} {objects : PlainObjects} {image : Image} (h : HoldsIn range root epoch a objects image) where
  abbrev start : ℕ
  start = first_in (sector_at image root)

  at-hop : (k : ℕ) → k ≤ length a.table → get_or a.table k 0 ≡ hop image start k
  at-hop = chained-hop image start a.table h.first h.chained

  table-inside : All (IsInside range) a.table
  table-inside k d lt =
      All-contains (IsInside range) (used a) (get_or a.table k d) h.allocated.inside
      (Contains-append_right (object_sectors a.placed) a.table (get_or a.table k d) (Contains-get_or a.table k d lt))

  table-once : IsDistinct nat_eq a.table
  table-once = distinct-right (object_sectors a.placed) a.table h.allocated.once

  pub is-root : IsRoot range (sector_at image root)
  is-root =
      let some : 0 < length a.table = omega (arith, h.allocated.table) in
      record {
        positive = omega (arith, h.current, h.positive);
        some = omega (arith, h.long);
        most = omega (arith, h.long, h.allocated.table, length-inside range a.table table-inside table-once);
        first = subst (IsInside range) (sym h.first) (table-inside 0 0 some);
      }

  -- the chain has its length, and its first sectors are those of the table
  chain-long : chain_for (len_in (sector_at image root)) ≡ length a.table
  chain-long = omega (arith, h.long, h.allocated.table)

  same-at : (table : List ℕ) → AreFirst range image start table → (k : ℕ) → k < length table → k ≤ length a.table → get_or table k 0 ≡ get_or a.table k 0
  same-at table are k lt le = linked-hop range image start table are k lt ∙ sym (at-hop k le)

  next-is : (table : List ℕ) → AreFirst range image start table → length table ≤ length a.table
      → next_in (sector_at image (last_of table)) ≡ get_or a.table (length table) 0
  next-is table are le =
      let last : ℕ = length table - 1 in
      let size : suc last ≡ length table = omega (arith, are.some) in
      ap (λ (n : ℕ). next_in (sector_at image n)) (linked-hop range image start table are last (omega (arith, are.some)))
      ∙ ap (λ (n : ℕ). hop image start n) size ∙ sym (at-hop (length table) le)

  not-next : (table : List ℕ) → AreFirst range image start table → length table < chain_for (len_in (sector_at image root))
      → (IsInside range (next_in (sector_at image (last_of table))) → ⊥) ⊎ Contains table (next_in (sector_at image (last_of table))) → ⊥
  not-next table are less bad =
      let n : ℕ = length table in
      let lt : n < length a.table = omega (arith, less, chain-long) in
      let next = next-is table are (omega (arith, lt)) in
      ⊎_elim
      (λ outside. outside (subst (IsInside range) (sym next) (table-inside n 0 lt)))
      (λ twice.
      let k : ℕ = twice.0 in
      let before : k < n = twice.1 in
      let there : get_or table k 0 ≡ get_or a.table n 0 =
      get_or_default table k 0 (next_in (sector_at image (last_of table))) before ∙ twice.2 ∙ next in
      let apart : nat_eq (get_or a.table k 0) (get_or a.table n 0) ≡ false = apart_from_distinct nat_eq a.table k n 0 table-once before lt in
      let same : get_or a.table k 0 ≡ get_or a.table n 0 = sym (same-at table are k before (omega (arith, before, lt))) ∙ there in
      grind (arith, nat_tests, apart, same))
      bad

  not-last : (table : List ℕ) → AreFirst range image start table → length table ≡ chain_for (len_in (sector_at image root))
      → next_in (sector_at image (last_of table)) ≢ 0 → ⊥
  not-last table are all more =
      let size : length table ≡ length a.table = omega (arith, all, chain-long) in
      more (next-is table are (omega (arith, size)) ∙ get_or_past a.table (length table) 0 (omega (arith, size)))

  -- it is the table, and its words are those of the objects
  table-same : (table : List ℕ) → IsTable range root image table → table ≡ a.table
  table-same table is =
      let size : length table ≡ length a.table = omega (arith, is.all, chain-long) in
      same_number_lists table a.table size (λ k lt. same-at table is.first k lt (omega (arith, lt, size)))

  words-same : (table : List ℕ) → IsTable range root image table → words_of_table root image table ≡ table_words a.placed
  words-same table is =
      let count : len_in (sector_at image root) / 4 ≡ length (table_words a.placed) = omega (arith, h.long) in
      ap (λ (n : ℕ). take n (flat_map (words_at image) table)) count
      ∙ ap (λ (l : List ℕ). take (length (table_words a.placed)) (flat_map (words_at image) l)) (table-same table is) ∙ h.table

  pub holds-table : IsTable range root image a.table
  holds-table =
      let some : 0 < length a.table = omega (arith, h.allocated.table) in
      let last : length a.table - 1 + 1 ≡ length a.table = omega (arith, some) in
      record {
        is_root = is-root;
        first = record {
          some = some;
          begin = sym h.first;
          linked = λ k lt. h.chained k (omega (arith, lt));
          inside = table-inside;
          once = table-once;
        };
        all = sym chain-long;
        last = h.chained (length a.table - 1) (omega (arith, some)) ∙ get_or_past a.table (length a.table - 1 + 1) 0 (omega (arith, last));
      }

  -- ---- its objects

  abbrev words : List ℕ → List ℕ
  words table = words_of_table root image table

  all-sized : All IsSized a.placed
  all-sized k d lt = (h.allocated.sizes k d lt).2

  module _ {table rest : List ℕ} {placed : List Placed} (is : IsTable range root image table)
      (are : AreFirstObjects range table (words table) placed rest) where
    count : get_or (words table) 0 0 ≡ length a.placed
    count = ap (λ (l : List ℕ). get_or l 0 0) (words-same table is)

    first-sized : All IsSized placed
    first-sized k d lt = (are.sizes k d lt).1

    whole : flat_map object_words placed ++ rest ≡ flat_map object_words a.placed ++ []
    whole = sym are.words_are ∙ ap (drop 1) (words-same table is) ∙ sym (append-nil (flat_map object_words a.placed))

    -- the objects that come next
    module _ (y : Placed) (more : List Placed) (split : a.placed ≡ placed ++ y ∷ more)
        (left : rest ≡ object_words y ++ (flat_map object_words more ++ [])) where
      abbrev after : List ℕ
      after = flat_map object_words more ++ []

      its-size : length y.sectors ≡ sectors_for y.len
      its-size = all-at IsSized placed y more (subst (All IsSized) split all-sized)

      size : size_in rest ≡ y.len
      size = ap size_in left ∙ shr_split y.len 32

      long : length rest ≡ 4 + (length y.sectors + length after)
      long = omega (arith, ap length left, length-append y.sectors after)

      not-broken : IsBroken placed rest → ⊥
      not-broken (inl short) = omega (arith, long, short)
      not-broken (inr (inl few)) = omega (arith, long, few, its-size, ap sectors_for size)
      not-broken (inr (inr (k, p, lt, at, low))) =
          let number : number_in rest ≡ y.number = ap number_in left ∙ shr_split y.number 32 in
          let rising = subst (λ (l : List Placed). IsRising 0 (map (λ q. q.number) l) (2 ^ 64)) split h.allocated.numbers in
          omega (arith, number, low, rising-before 0 placed y more (2 ^ 64) rising k p lt, ap (λ (q : Placed). q.number) at)

      module _ {before : List ℕ} {next : ℕ} (has : HasSectors range table placed rest before next) where
        abbrev n : ℕ
        n = length before + 1

        abbrev following : List ℕ
        following = drop n y.sectors ++ object_sectors more

        -- the sector is one of this object's
        its-sectors : y.sectors ≡ (before ++ next ∷ []) ++ drop n y.sectors
        its-sectors =
            let fits : n ≤ length y.sectors = omega (arith, has.few, its-size, ap sectors_for size) in
            sym (take-append-drop n y.sectors)
            ∙ ap (λ (l : List ℕ). l ++ drop n y.sectors)
            (sym (take-append-le n y.sectors after fits) ∙ ap (λ (l : List ℕ). take n (drop 4 l)) (sym left) ∙ has.are)

        all-are : used a ≡ ((object_sectors placed ++ before) ++ next ∷ following) ++ a.table
        all-are =
            let here : y.sectors ++ object_sectors more ≡ before ++ next ∷ following =
            ap (λ (l : List ℕ). l ++ object_sectors more) its-sectors ∙ append_assoc (before ++ next ∷ []) (drop n y.sectors) (object_sectors more)
            ∙ append_assoc before (next ∷ []) following in
            ap (λ (l : List ℕ). l ++ a.table)
            (ap object_sectors split ∙ flat_map-append (λ (p : Placed). p.sectors) placed (y ∷ more)
            ∙ ap (λ (l : List ℕ). object_sectors placed ++ l) here ∙ sym (append_assoc (object_sectors placed) before (next ∷ following)))

        its-own : Contains ((object_sectors placed ++ before) ++ next ∷ following) next
        its-own = Contains-append_right (object_sectors placed ++ before) (next ∷ following) next (in-first next following)

        not-twice : Contains ((object_sectors placed ++ before) ++ table) next → ⊥
        not-twice there =
            let once = subst (IsDistinct nat_eq) all-are h.allocated.once in
            ⊎_elim
            (λ before-it. distinct-apart (object_sectors placed ++ before) (next ∷ following)
            (distinct-left ((object_sectors placed ++ before) ++ next ∷ following) a.table once) next before-it (in-first next following))
            (λ of-table. distinct-apart ((object_sectors placed ++ before) ++ next ∷ following) a.table once next its-own
            (subst (λ (l : List ℕ). Contains l next) (table-same table is) of-table))
            (Contains-append_cases (object_sectors placed ++ before) table next there)

        not-outside : (IsInside range next → ⊥) → ⊥
        not-outside outside =
            outside (All-contains (IsInside range) (used a) next h.allocated.inside
            (subst (λ (l : List ℕ). Contains l next) (sym all-are)
            (Contains-append_left ((object_sectors placed ++ before) ++ next ∷ following) a.table next its-own)))

    -- what comes next is one of the objects
    next-object : {P : Type 0} → length placed < get_or (words table) 0 0
        → ((y : Placed) (more : List Placed) → a.placed ≡ placed ++ y ∷ more → rest ≡ object_words y ++ (flat_map object_words more ++ []) → P) → P
    next-object less use_it =
        let next = spelled-next object_words IsSized one-object placed a.placed rest [] first-sized all-sized (omega (arith, less, count)) whole in
        use_it next.0 next.1 next.2 next.3

    not-rest : length placed ≡ get_or (words table) 0 0
        → (4 * length (words table) ≢ len_in (sector_at image root)) ⊎ (0 < length rest) ⊎ Any (λ p. p.len ≡ 0) placed → ⊥
    not-rest all bad =
        let same = spelled-same object_words IsSized one-object placed a.placed rest [] first-sized all-sized (omega (arith, all, count)) whole in
        ⊎_elim
        (λ left-over. left-over (omega (arith, ap length (words-same table is), h.long)))
        (λ more. ⊎_elim
        (λ some. omega (arith, some, ap length same.1))
        (λ empty.
        let k : ℕ = empty.0 in
        let there : k < length a.placed = omega (arith, empty.2, ap length same.0) in
        let has : 0 < (get_or a.placed k empty.1).len = (h.allocated.sizes k empty.1 there).0 in
        let is-empty : (get_or a.placed k empty.1).len ≡ 0 =
        ap (λ (l : List Placed). (get_or l k empty.1).len) (sym same.0) ∙ ap (λ (p : Placed). p.len) empty.3 ∙ empty.4 in
        omega (arith, has, is-empty))
        more)
        bad

-- an image has one heap, in the same sectors
pub HoldsIn-one : (range : Range) (root epoch other : ℕ) (a b : Allocation) (objects others : PlainObjects) (image : Image)
    → HoldsIn range root epoch a objects image → HoldsIn range root other b others image → a ≡ b
HoldsIn-one range root epoch other a b objects others image one two =
    let is : IsTable range root image a.table = holds-table one in
    let words : table_words a.placed ≡ table_words b.placed =
    sym (words-same one a.table is) ∙ words-same two a.table is in
    let placed : a.placed ≡ b.placed =
    sym (placed_in-table a.placed (λ k d lt. (one.allocated.sizes k d lt).2)) ∙ ap placed_in words
    ∙ placed_in-table b.placed (λ k d lt. (two.allocated.sizes k d lt).2) in
    let new : List Placed → List ℕ → Allocation = λ ps ss. record { placed = ps; table = ss } in
    ap (new a.placed) (table-same two a.table is) ∙ ap (λ (ps : List Placed). new ps b.table) placed

pub Holds-one : (range : Range) (root epoch other : ℕ) (objects others : PlainObjects) (image : Image) → Holds range root epoch objects image
    → Holds range root other others image → (epoch ≡ other) × (objects ≡ others)
Holds-one range root epoch other objects others image one two =
    let same : one.allocation ≡ two.allocation =
    HoldsIn-one range root epoch other one.allocation two.allocation objects others image one.there two.there in (
      sym one.there.current ∙ two.there.current,
      one.there.stand ∙ ap (λ (a : Allocation). map (object_on image) a.placed) same ∙ sym two.there.stand,
    )

pub no-damage : (range : Range) (root : ℕ) (image : Image) (sector : ℕ) → IsFirstDamage range root image sector → (epoch : ℕ) (objects : PlainObjects)
    → Holds range root epoch objects image → ⊥
no-damage range root image sector (Root none) epoch objects holds = none (is-root holds.there)
no-damage range root image sector (Next table root-is are less bad) epoch objects holds = not-next holds.there table are less bad
no-damage range root image sector (Last table root-is are all more) epoch objects holds = not-last holds.there table are all more
no-damage range root image sector (Object table rest placed is are less broken) epoch objects holds =
    next-object holds.there is are less (λ y more split left.
    not-broken holds.there is are y more split left broken)
no-damage range root image sector (Twice table rest before next placed is are less all has inside there) epoch objects holds =
    next-object holds.there is are less (λ y more split left.
    not-twice holds.there is are y more split left has there)
no-damage range root image sector (Outside table rest before next placed is are less all has outside) epoch objects holds =
    next-object holds.there is are less (λ y more split left.
    not-outside holds.there is are y more split left has outside)
no-damage range root image sector (Rest table rest placed is are all bad) epoch objects holds = not-rest holds.there is are all bad
