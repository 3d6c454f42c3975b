-- A save: the heap while objects are taken out, put in and turned over, how many sectors that takes, and its images.
use Rattle.std.proofs.Common.{◌≡◌, ◌≢◌, inl, ℕ, ◌+◌, ◌*◌, ◌^◌, ◌<◌, ◌≤◌, Bool, List, [], ◌∷◌, length, map, Option}
use Rattle.std.proofs.Common.{refl, sym, ap, subst, ◌∙◌, arith}
use Rattle.std.specs.Prelude.{All, is_some, nat_eq, sum_by}
use Rattle.std.specs.List.{filter}
use Rattle.std.proofs.lemmas.List.{length-append, length-map}
use Rattle.std.proofs.lemmas.List.Elements.{All-head, All-tail}
use Rattle.std.proofs.lemmas.List.Sums.{sum_by-cons}
use Rattle.ipc_base.specs.Objects.{PlainObjects, AreObjects, Fit, OthersAreThere, object_sectors}
use Rattle.ipc_base.specs.Table.{seen_as, value_at}
use Rattle.ipc_disk.specs.declared.range.Range.{Range}
use Rattle.ipc_disk.specs.Counts.{Counts, InRange, with_calls}
use Rattle.ipc_disk.specs.Medium.{Image, Medium, IsHonest}
use Rattle.ipc_disk.specs.Range.{IsInside, IsOutside}
use Rattle.ipc_disk.specs.Since.{EachImageSince, LeavesAlone}
use Rattle.ipc_disk.specs.Standing.{sectors_for}
use Rattle.ipc_disk.proofs.CallerLemmas.{EachImageSince-join, EachImageSince-now, EachImageSince-weaken, LeavesAlone-fewer, LeavesAlone-join, counts-calls}
use Rattle.ipc_heap.specs.Heap.{Placed, table_sectors_for, table_words}
use Rattle.ipc_heap.specs.Heap as heap
use Rattle.ipc_heap.specs.Matches.{HeapMatches, IsKept, Keeps, StaysSaved}
use Rattle.ipc_heap.specs.Meanwhile as heap-later
use Rattle.ipc_heap.specs.View.{ArePlaced, HeapView, StaysInPlace, free, map_of, sizes_of, used_by}
use Rattle.ipc_heap.proofs.CallerLemmas.{EachLater-join, Keeps-map, Keeps-matches, KeepsUsed-turns, Keeps-sizes, words_for-is, EachLater-weaken}
use Rattle.ipc_checkpoint.specs.Checkpoint.{Holds, IsElsewhere, IsLaidOut}
use Rattle.ipc_checkpoint.specs.Matches.{CheckpointMatches, HoldsEither, IsSavedUnder, changed_sectors, sectors_of, table_sectors}
use Rattle.ipc_checkpoint.specs.Meanwhile.{EachLater, KeepsUsed, KeepsUsedOrTurns}
use Rattle.ipc_checkpoint.specs.Saving.{AreThere, HasNoOthers}
use Rattle.ipc_checkpoint.specs.View.{CheckpointView, HasSpare, epoch_of, layout_of}
use Rattle.ipc_checkpoint.proofs.CallerLemmas.{CheckpointMatches-holds}
use Rattle.ipc_checkpoint.proofs.Putting.{own-value}
use Rattle.ipc_checkpoint.proofs.Keeping.{in-place, stays-then}
use Rattle.ipc_checkpoint.proofs.Tables.{filter-at, filter-only}

-- ---- how many sectors objects take in a heap

abbrev HasSize : Placed → Type 0
HasSize p = (0 < p.len) × (p.len < 2 ^ 64) × (length p.sectors ≡ sectors_for p.len)

abbrev sized : List (ℕ × ℕ) → ℕ
sized sizes = sum_by (λ s. sectors_for s.1) sizes

sectors-sized : (ps : List Placed) → All HasSize ps → length (heap.object_sectors ps) ≡ sized (map (λ p. (p.number, p.len)) ps)
sectors-sized [] sizes = refl
sectors-sized (p ∷ ps) sizes =
    let size : ℕ × ℕ → ℕ = λ s. sectors_for s.1 in
    let e : ℕ × ℕ = (p.number, p.len) in
    let es : List (ℕ × ℕ) = map (λ p. (p.number, p.len)) ps in
    let here = All-head HasSize p ps sizes in
    omega (arith, length-append p.sectors (heap.object_sectors ps), sectors-sized ps (All-tail HasSize p ps sizes), here.2, sum_by-cons size e es)

sized-seen : (os : PlainObjects) → sized (seen_as (λ bytes. length bytes) os) ≡ object_sectors os
sized-seen [] = refl
sized-seen (o ∷ os) =
    let size : ℕ × ℕ → ℕ = λ s. sectors_for s.1 in
    let own : ℕ × List ℕ → ℕ = λ p. sectors_for (length p.1) in
    let e : ℕ × ℕ = (o.0, length o.1) in
    let es : List (ℕ × ℕ) = seen_as (λ bytes. length bytes) os in
    omega (arith, sum_by-cons size e es, sum_by-cons own o os, sized-seen os)

module _ (h : HeapView) (os : PlainObjects) (placed : ArePlaced h.range h.placed) (sizes : sizes_of h ≡ seen_as (λ bytes. length bytes) os) where
  its-sectors : length (heap.object_sectors h.placed) ≡ object_sectors os
  its-sectors = sectors-sized h.placed placed.sizes ∙ ap (λ (s : List (ℕ × ℕ)). sized s) sizes ∙ sized-seen os

  pub its-words : length (table_words h.placed) ≡ 1 + (4 * length os + object_sectors os)
  its-words =
      let size : Placed → ℕ × ℕ = λ p. (p.number, p.len) in
      let own : ℕ × List ℕ → ℕ × ℕ = λ o. (o.0, length o.1) in
      omega (arith, words_for-is h.placed, its-sectors, length-map h.placed size, length-map os own, ap length sizes)

  pub its-table : table_sectors_for (length (table_words h.placed)) ≡ table_sectors os
  its-table = omega (arith, its-words)

  -- what is free once nothing else is saved
  pub its-free : (x : HeapView) (n : ℕ) → x.placed ≡ h.placed → length x.table ≡ table_sectors_for (length (table_words h.placed))
      → free x + length (used_by x) ≡ n → free x + sectors_of os ≡ n
  its-free x n same table all =
      omega (arith, length-append (heap.object_sectors x.placed) x.table, ap (λ (l : List Placed). length (heap.object_sectors l)) same, its-sectors, its-table)

-- ---- a save

-- the heap of a checkpoint, once what the objects lack was taken out
pub record Started (size : ℕ) (c : CheckpointView) (os : PlainObjects) (one : HeapView) : Type 0 where
  pub are : AreObjects os
  pub laid : IsLaidOut (layout_of c) size
  pub fits : Fit c.area os
  pub spare : HasSpare c
  pub keeps : Keeps (λ n. is_some (value_at nat_eq os n)) c.heap one
  pub more : free c.heap ≤ free one

-- calls that put objects in, at any moment
pub record PutSome (one : HeapView) (old mid : Medium) : Type 0 where
  pub moment : (saved : PlainObjects) → HeapMatches one saved old → StaysSaved one.range one.root one.epoch saved old mid
  pub meanwhile : (saved : PlainObjects) → HeapMatches one saved old → EachLater (heap-later.KeepsUsed one.range one.root) old mid
  pub others : IsHonest old → LeavesAlone (IsOutside one.range) old mid

-- and once all are put in
pub record PutAll (os : PlainObjects) (differs : ℕ → Bool) (one two : HeapView) (old mid : Medium) : Type 0 where
  pub stays : StaysInPlace one two
  pub placed : ArePlaced two.range two.placed
  pub sizes : sizes_of two ≡ seen_as (λ bytes. length bytes) os
  pub spends : free one ≤ free two + object_sectors os
  pub matches : (saved : PlainObjects) → HeapMatches one saved old → HeapMatches two saved mid
  pub map : (saved : PlainObjects) → HeapMatches one saved old → AreThere differs os (map_of one old) → map_of two mid ≡ os

-- what a save promises of every moment
pub record SavesMeanwhile (c : CheckpointView) (os : PlainObjects) (epoch : ℕ) (old new : Medium) : Type 0 where
  pub moment : (saved : PlainObjects) → CheckpointMatches c saved old → EachImageSince old new (HoldsEither (layout_of c) (epoch_of c) saved epoch os)
  pub meanwhile : (saved : PlainObjects) → CheckpointMatches c saved old → EachLater (KeepsUsedOrTurns (layout_of c)) old new
  pub kept : (root : ℕ) (saved : PlainObjects) → IsSavedUnder root c saved old → root ≢ c.heap.next_root
      → StaysSaved c.heap.range root (epoch_of c) saved old new
  pub others : IsHonest old → LeavesAlone (IsElsewhere (layout_of c)) old new

module _ {size : ℕ} {c : CheckpointView} {os : PlainObjects} {one : HeapView} (b : Started size c os one) where
  abbrev kept : ℕ → Bool
  kept n = is_some (value_at nat_eq os n)

  pub laid-one : heap.IsLaidOut one.range one.next_root size
  laid-one =
      rw (b.keeps.stays.next_root, b.keeps.stays.range)
      (record { within = b.laid.within; root_there = b.laid.root; apart = b.laid.apart; not_first = b.laid.not_first })

  pub only-one : HasNoOthers (sizes_of one) os
  only-one n some =
      filter-only kept (sizes_of c.heap) n
      (ap (λ (t : List (ℕ × ℕ)). is_some (value_at nat_eq t n)) (sym (Keeps-sizes kept c.heap one b.keeps)) ∙ some)

  pub room-one : object_sectors os ≤ free one
  room-one = omega (arith, b.more, b.spare, b.fits, b.laid.room)

  module _ (old : Medium) {root : ℕ} (saved : PlainObjects) (at : IsSavedUnder root c saved old) where
    pub matches-one : HeapMatches one saved old
    matches-one = Keeps-matches kept c.heap one b.keeps saved old at.matches

    pub were-one : (differs : ℕ → Bool) → OthersAreThere differs os saved → AreThere differs os (map_of one old)
    were-one differs others i o is off =
        let found = others i o is off in
        let saved-are : AreObjects saved = subst AreObjects at.map at.matches.are in
        ap (λ (t : PlainObjects). value_at nat_eq t o.0)
        (Keeps-map kept c.heap one b.keeps old ∙ ap (λ (t : PlainObjects). filter (λ p. kept p.0) t) at.map)
        ∙ filter-at kept saved o.0 (ap (λ (r : Option (List ℕ)). is_some r) (own-value os b.are i o is))
        ∙ own-value saved saved-are found.0 o found.1

  -- while objects are put in
  module _ {old mid : Medium} (p : PutSome one old mid) where
    moment-mid : {root : ℕ} (saved : PlainObjects) → IsSavedUnder root c saved old → StaysSaved c.heap.range root (epoch_of c) saved old mid
    moment-mid saved at =
        subst (λ (n : ℕ). StaysSaved c.heap.range n (epoch_of c) saved old mid) at.under
        (in-place (λ r n m e. StaysSaved r n e saved old mid) b.keeps.stays (p.moment saved (matches-one old saved at)))

    meanwhile-mid : (saved : PlainObjects) → CheckpointMatches c saved old → EachLater (KeepsUsed (layout_of c)) old mid
    meanwhile-mid saved at =
        subst (λ (n : ℕ). EachLater (heap-later.KeepsUsed c.heap.range n) old mid) at.under
        (in-place (λ r n m e. EachLater (heap-later.KeepsUsed r n) old mid) b.keeps.stays (p.meanwhile saved (matches-one old saved at)))

    pub saves-mid : (epoch : ℕ) → SavesMeanwhile c os epoch old mid
    saves-mid epoch = record {
      moment = λ saved at. EachImageSince-weaken old mid (Holds (layout_of c) (epoch_of c) saved) (HoldsEither (layout_of c) (epoch_of c) saved epoch os)
          (moment-mid saved at c.heap.range (λ i inside. inside) (CheckpointMatches-holds c saved old at)) (λ image holds. inl holds);
      meanwhile = λ saved at. EachLater-weaken (KeepsUsed (layout_of c)) (KeepsUsedOrTurns (layout_of c)) old mid (meanwhile-mid saved at)
          (λ x y kept. inl kept);
      kept = λ root saved at other. moment-mid saved at;
      others = λ honest. LeavesAlone-fewer (IsElsewhere (layout_of c)) (IsOutside one.range) old mid
          (λ i out. subst (λ (r : Range). IsOutside r i) (sym b.keeps.stays.range) out.1) (p.others honest);
    }

  -- and then the heap is turned over
  module _ {differs : ℕ → Bool} {two : HeapView} {old mid : Medium} (p : PutAll os differs one two old mid) where
    abbrev words : ℕ
    words = length (table_words two.placed)

    pub counted-two : 4 * words < 2 ^ 32
    counted-two = omega (arith, its-words two os p.placed p.sizes, b.fits, b.laid.counted)

    pub not-full : free two < table_sectors_for words → ⊥
    not-full full = omega (arith, full, its-table two os p.placed p.sizes, p.spends, b.more, b.spare, b.fits, b.laid.room)

    stays-two : StaysInPlace c.heap two
    stays-two = stays-then b.keeps.stays p.stays

    map-two : {root : ℕ} (saved : PlainObjects) → IsSavedUnder root c saved old → OthersAreThere differs os saved → map_of two mid ≡ os
    map-two saved at there = p.map saved (matches-one old saved at) (were-one old saved at differs there)

    matches-two : {root : ℕ} (saved : PlainObjects) → IsSavedUnder root c saved old → HeapMatches two saved mid
    matches-two saved at = p.matches saved (matches-one old saved at)

    module _ (some : PutSome one old mid) (new : Medium) (epoch : ℕ)
        (unchanged : (saved : PlainObjects) → CheckpointMatches c saved old → OthersAreThere differs os saved)
        (flips : (saved : PlainObjects) → HeapMatches two saved mid
        → EachImageSince mid new (heap.HoldsEither two.range two.root two.epoch saved two.next_root epoch (map_of two mid)))
        (flips-kept : two.next_root ≢ two.root → (saved : PlainObjects) → HeapMatches two saved mid
        → StaysSaved two.range two.root two.epoch saved mid new)
        (flips-meanwhile : two.next_root ≡ two.root → (saved : PlainObjects) → HeapMatches two saved mid
        → EachLater (heap-later.KeepsUsedOrTurns two.range two.root) mid new)
        (flips-others : IsHonest mid → LeavesAlone (λ i. IsKept two i × (i ≢ two.next_root)) mid new) where
      pub saves-new : SavesMeanwhile c os epoch old new
      saves-new = record {
        moment = λ saved at. EachImageSince-join old mid new (HoldsEither (layout_of c) (epoch_of c) saved epoch os)
            ((saves-mid some epoch).moment saved at)
            (rw (map-two saved at (unchanged saved at), at.under) at
            (in-place (λ r n m e. EachImageSince mid new (heap.HoldsEither r n e saved m epoch (map_of two mid))) stays-two
            (flips saved (matches-two saved at))));
        -- who reads meanwhile
        meanwhile = λ saved at.
            let from : two.root ≡ c.heap.next_root = stays-two.root ∙ at.under in
            EachLater-join (KeepsUsed (layout_of c)) (KeepsUsedOrTurns (layout_of c)) old mid new (λ x y kept. inl kept)
            (λ x y z kept after. KeepsUsed-turns c.heap.range c.heap.next_root b.laid.apart x y kept z after) (matches-two saved at).honest
            (meanwhile-mid some saved at)
            (rw (stays-two.range, from) at (flips-meanwhile (stays-two.next_root ∙ sym from) saved (matches-two saved at)));
        -- what was saved under another root stays there
        kept = λ root saved at other part within now.
            let P : Image → Type 0 = heap.Holds part root (epoch_of c) saved in
            let before = moment-mid some saved at part within now in
            let from : two.root ≡ root = stays-two.root ∙ at.under in
            let more = rw (stays-two.range, from, stays-two.epoch) at
            (flips-kept (λ same. other (sym from ∙ sym same ∙ stays-two.next_root)) saved (matches-two saved at)) in
            EachImageSince-join old mid new P before (more part within (EachImageSince-now old mid P before (matches-two saved at).honest));
        others = λ honest.
            let run = (saves-mid some epoch).others honest in
            LeavesAlone-join (IsElsewhere (layout_of c)) old mid new run
            (LeavesAlone-fewer (IsElsewhere (layout_of c)) (λ i. IsKept two i × (i ≢ two.next_root)) mid new
            (λ i out. (inl (subst (λ (r : Range). IsOutside r i) (sym stays-two.range) out.1), λ same. out.0 (same ∙ stays-two.next_root)))
            (flips-others run.honest));
      }

    -- the heap that is there then
    module _ (new : Medium) (three : HeapView) (same : three.placed ≡ two.placed) (range : three.range ≡ two.range)
        (table : length three.table ≡ table_sectors_for words) (all : free three + length (used_by three) ≡ three.range.count) where
      pub free-new : free three + sectors_of os ≡ c.heap.range.count
      free-new = its-free two os p.placed p.sizes three three.range.count same table all ∙ ap (λ (r : Range). r.count) (range ∙ stays-two.range)

      pub matches-new : three.root ≡ two.next_root → three.next_root ≡ two.next_root
          → ((saved : PlainObjects) → HeapMatches two saved mid → HeapMatches three (map_of two mid) new)
          → ((saved : PlainObjects) → HeapMatches two saved mid → map_of three new ≡ map_of two mid)
          → (area : ℕ) {root : ℕ} (saved : PlainObjects) → IsSavedUnder root c saved old → OthersAreThere differs os saved
          → CheckpointMatches (record { area = area; heap = three }) os new
      matches-new under next_root flips keeps-map area saved at there =
          let here = matches-two saved at in
          record {
            matches = subst (λ (l : PlainObjects). HeapMatches three l new) (map-two saved at there) (flips saved here);
            under = under ∙ sym next_root;
            map = keeps-map saved here ∙ map-two saved at there;
            inside = subst (λ (r : Range). All (IsInside r) (heap.object_sectors three.placed)) (sym range)
                (subst (λ (l : List Placed). All (IsInside two.range) (heap.object_sectors l)) (sym same) p.placed.inside);
            free = its-free two os p.placed p.sizes three three.range.count same table all;
          }

    pub writes-new : ((saved : PlainObjects) → CheckpointMatches c saved old → OthersAreThere differs os saved)
        → (first second third : Counts) → InRange first
        → ((saved : PlainObjects) → HeapMatches one saved old → AreThere differs os (map_of one old)
        → second ≡ with_calls (changed_sectors differs os) 0 first)
        → third ≡ with_calls (table_sectors_for words + 1) 2 second → (saved : PlainObjects) → CheckpointMatches c saved old
        → third ≡ with_calls (changed_sectors differs os + table_sectors os + 1) 2 first
    writes-new unchanged first second third in_range puts flips saved at =
        rw (flips, puts saved (matches-one old saved at) (were-one old saved at differs (unchanged saved at)))
        (counts-calls _ _ _ _ refl (omega (arith, its-table two os p.placed p.sizes)) (omega (arith, in_range.syncs_fit)))
