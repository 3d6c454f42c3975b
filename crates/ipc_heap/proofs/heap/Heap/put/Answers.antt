-- An object is put in: it stands in sectors that were free, and takes the place of the one of its number.
use Rattle.std.proofs.Common.{◌≡◌, ℕ, ◌+◌, ◌/◌, ◌%◌, ◌^◌, ◌<◌, ◌≤◌, List, [], ◌∷◌, ◌++◌, length, take, drop, map, sym, ap, subst, ◌∙◌, arith}
use Rattle.std.specs.Prelude.{All, Option, IfSome, slice_get, slice_index, flat_map, count_by}
use Rattle.std.proofs.lemmas.Option.{slice_get-get_or, slice_get_within}
use Rattle.std.proofs.lemmas.List.{take_at, drop_at, drop-drop, length-append, get_or-take}
use Rattle.ipc_base.specs.Objects.{PlainObjects, AreObjects}
use Rattle.ipc_disk.specs.Counts.{with_calls}
use Rattle.ipc_disk.specs.Medium.{IsHonest}
use Rattle.ipc_disk.specs.Since.{LeavesAlone}
use Rattle.ipc_disk.specs.Standing.{sector_at, sectors_for}
use Rattle.ipc_heap.specs.Heap.{IsLaidOut, Placed, object_on, object_sectors, object_words}
use Rattle.ipc_heap.specs.Matches.{HeapMatches, IsKept, StaysSaved}
use Rattle.ipc_heap.specs.View.{HeapView, free, is_free, map_of, sizes_of, with_object}
use Rattle.ipc_heap.specs.Relations.Table.{object_at}
use Rattle.ipc_heap.specs.Relations.Uses.{AreGiven, AreTaken, IsNotFree}
use Rattle.ipc_heap.specs.Relations.Words.{AreWords, IsPutIn, placed_in}
use Rattle.ipc_heap.proofs.Changes.{HasSize, back-heap, heap-few, heap-fits, objects-few, pushed-four, pushed-object, seen, with-heap, IsHeapOf}
use Rattle.ipc_heap.proofs.Changes.{words-of}
use Rattle.ipc_heap.proofs.Images.{kept-images, kept-matches, kept-objects, put-are, put-map, put-seen}
use Rattle.ipc_heap.proofs.Placed.{mapped-at}
use Rattle.ipc_heap.proofs.Saved.{stays-saved}
use Rattle.ipc_heap.proofs.heap.Heap.put.Given.{Over}
use Rattle.ipc_heap.proofs.heap.Heap.put.Goals as goal
use Rattle.ipc_heap.proofs.heap.Heap.put.Goals.{After-write_object, After-put_in}

-- ---- the object, and what is known once its sectors are written

module _ (g : Over) (c : After-write_object g) where
  laid : IsLaidOut c.self.inside.range c.self.inside.next_root (g.D.SectorDisk.size c.args.disk.now)
  laid = subst (λ (v : HeapView). IsLaidOut v.range v.next_root (g.D.SectorDisk.size c.args.disk.now)) (sym c.self.view_is) c.requires.laid_out

  run : IsHonest (g.D.SectorDisk.medium c.args.disk.now)
      → LeavesAlone (IsNotFree c.self.inside.range c.self.inside.uses) (g.D.SectorDisk.medium c.args.disk.now)
      (g.D.SectorDisk.medium c.write_object.new.disk)
  run = c.write_object.ensures.others

  abbrev object : ℕ × List ℕ
  object = object_at (g.O.Objects.objects c.args.objects.now) c.args.i

  its_number : object.0 ≡ c.number-number.result
  its_number =
      mapped-at (λ (o : ℕ × List ℕ). o.0) (g.O.Objects.objects c.args.objects.now) c.args.i
      (0, []) c.number-number.result c.requires.object c.number-number.ensures

  its_length : length object.1 ≡ c.len.result
  its_length =
      mapped-at (λ (o : ℕ × List ℕ). length o.1) (g.O.Objects.objects c.args.objects.now) c.args.i (0, []) c.len.result c.requires.object c.len.ensures

  -- what is said of the object that is there
  of_object : (P : ℕ × List ℕ → Type 0) → P object → IfSome (slice_get (g.O.Objects.objects c.args.objects.now) c.args.i) P
  of_object P here =
      subst (λ (r : Option (ℕ × List ℕ)). IfSome r P) (sym (slice_get-get_or (g.O.Objects.objects c.args.objects.now) c.args.i (0, []) c.requires.object)) here

  abbrev sectors : List ℕ
  sectors = drop (length c.push_u64-2.new.words.items) c.write_object.new.words.items

  abbrev placed : Placed
  placed = record { number = c.number-number.result; len = c.len.result; sectors = sectors }

  taken : AreTaken c.self.inside.range.first c.self.inside.uses sectors c.write_object.new.uses
  taken = c.write_object.ensures.taken

  pushed : c.write_object.new.words.items ≡ c.self.inside.words.items ++ object_words placed
  pushed =
      pushed-object c.self.inside.words.items c.push_u64.new.words.items c.push_u64-2.new.words.items c.write_object.new.words.items placed
      c.push_u64.ensures.items c.push_u64-2.ensures.items c.write_object.ensures.added

  ends : length c.self.inside.words.items ≡ c.len-end.result
  ends = omega (arith, c.self.inside.words.ok.0, c.len-end.ensures)

  long : c.len-end.result + 4 ≤ length c.write_object.new.words.items
  long = omega (arith, ap length pushed, length-append c.self.inside.words.items (object_words placed), ends)

  front : take c.len-end.result c.write_object.new.words.items ≡ c.self.inside.words.items
  front = ap (take c.len-end.result) pushed ∙ take_at c.self.inside.words.items (object_words placed) c.len-end.result ends

  back : drop c.len-end.result c.write_object.new.words.items ≡ object_words placed
  back = ap (drop c.len-end.result) pushed ∙ drop_at c.self.inside.words.items (object_words placed) c.len-end.result ends

  its_sectors : drop (c.len-end.result + 4) c.write_object.new.words.items ≡ sectors
  its_sectors = sym (drop-drop 4 c.len-end.result c.write_object.new.words.items) ∙ ap (drop 4) back

  abbrev view : HeapView
  view = seen c.self.inside.range c.self.inside.root c.self.inside.next_root c.self.inside.epoch c.self.inside.words c.self.inside.table c.self.inside.uses

  -- a crash at any moment, and the sectors that stay
  moment : (saved : PlainObjects) → HeapMatches c.args.self.now saved (g.D.SectorDisk.medium c.args.disk.now)
      → StaysSaved c.args.self.now.range c.args.self.now.root c.args.self.now.epoch saved (g.D.SectorDisk.medium c.args.disk.now)
      (g.D.SectorDisk.medium c.write_object.new.disk)
  moment =
      subst (λ (v : HeapView). (saved : PlainObjects) → HeapMatches v saved (g.D.SectorDisk.medium c.args.disk.now)
      → StaysSaved v.range v.root v.epoch saved (g.D.SectorDisk.medium c.args.disk.now) (g.D.SectorDisk.medium c.write_object.new.disk))
      c.self.view_is
      (λ saved matches. stays-saved view saved (g.D.SectorDisk.medium c.args.disk.now) (g.D.SectorDisk.medium c.write_object.new.disk) matches
      (kept-images view saved (g.D.SectorDisk.medium c.args.disk.now) matches (g.D.SectorDisk.medium c.write_object.new.disk) (run matches.honest)))

  others : IsHonest (g.D.SectorDisk.medium c.args.disk.now)
      → LeavesAlone (IsKept c.args.self.now) (g.D.SectorDisk.medium c.args.disk.now) (g.D.SectorDisk.medium c.write_object.new.disk)
  others =
      subst (λ (v : HeapView). IsHonest (g.D.SectorDisk.medium c.args.disk.now)
      → LeavesAlone (IsKept v) (g.D.SectorDisk.medium c.args.disk.now) (g.D.SectorDisk.medium c.write_object.new.disk)) c.self.view_is run

-- ---- what is known once it is put in

module _ (g : Over) (c : After-put_in g) where
  abbrev m : After-write_object g
  m = (goal.at.invariant_of-self g c).After-write_object

  put : IsPutIn c.self.inside.words.items c.number-number.result (object_words (placed g m)) c.self.inside.range.first c.write_object.new.uses c.put_in.new.uses
      c.put_in.new.words.items
  put = rw (front g m, back g m) at c.put_in.ensures.put

  some : 0 < length (object g m).1
  some = c.count-count.ensures.objects.some c.args.i (0, []) c.requires.object

  size : HasSize (placed g m)
  size = (omega (arith, some, its_length g m), omega (arith, c.len.type_inv), c.in-Ok.ensures.all ∙ ap sectors_for (its_length g m))

  -- the heap with it
  new_heap : IsHeapOf c.self.inside.range (put.found.before ++ placed g m ∷ put.found.after) c.put_in.new.words c.self.inside.table c.put_in.new.uses
  new_heap =
      with-heap c.put_in.new.words c.put_in.new.uses (placed g m) c.self.invariant put.found (taken g m) put.given size
      (omega (arith, c.number-number.type_inv)) put.now
      (c.put_in.ensures.capacity ∙ c.write_object.ensures.capacity ∙ c.push_u64-2.ensures.capacity ∙ c.push_u64.ensures.capacity)

  abbrev next : HeapView
  next = seen c.self.inside.range c.self.inside.root c.self.inside.next_root c.self.inside.epoch c.put_in.new.words c.self.inside.table c.put_in.new.uses

  module _ (saved : PlainObjects) (matches : HeapMatches (view g m) saved (g.D.SectorDisk.medium c.args.disk.now)) where
    kept : map (object_on (g.D.SectorDisk.medium c.args.disk.now).contents) (placed_in c.self.inside.words.items)
        ≡ map (object_on (g.D.SectorDisk.medium c.write_object.new.disk).contents) (placed_in c.self.inside.words.items)
    kept =
        kept-objects (view g m) saved (g.D.SectorDisk.medium c.args.disk.now) matches
        (g.D.SectorDisk.medium c.write_object.new.disk) (run g m matches.honest) c.self.invariant.inside

    stands : take c.len.result (flat_map (sector_at (g.D.SectorDisk.medium c.write_object.new.disk).contents) (sectors g m)) ≡ (object g m).1
    stands =
        ap (λ (n : ℕ). take n (flat_map (sector_at (g.D.SectorDisk.medium c.write_object.new.disk).contents) (sectors g m))) (sym (its_length g m))
        ∙ c.in-Ok.ensures.written matches.honest

    put_map : map_of next (g.D.SectorDisk.medium c.write_object.new.disk)
        ≡ with_object (map_of (view g m) (g.D.SectorDisk.medium c.args.disk.now)) (object g m).0 (object g m).1
    put_map =
        let new = (g.D.SectorDisk.medium c.write_object.new.disk).contents in
        let o : ℕ × List ℕ = object g m in
        ap (λ (l : List Placed). map (object_on new) l) new_heap.placed_is ∙ put-map (placed g m) put.found new o.1 stands
        ∙ ap (λ (l : PlainObjects). with_object l c.number-number.result o.1) (sym kept)
        ∙ ap (λ (n : ℕ). with_object (map_of (view g m) (g.D.SectorDisk.medium c.args.disk.now)) n o.1) (sym (its_number g m))

    put_matches : HeapMatches next saved (g.D.SectorDisk.medium c.write_object.new.disk)
    put_matches =
        let new = g.D.SectorDisk.medium c.write_object.new.disk in
        let few = objects-few new_heap.objects new_heap.heap.all_uses in
        let are : AreObjects (map (object_on new.contents) (put.found.before ++ placed g m ∷ put.found.after)) =
        put-are (placed g m) put.found new.contents (object g m).1 stands (subst AreObjects kept matches.are) new_heap.objects.numbers some
        (omega (arith, its_length g m, c.len.type_inv)) (omega (arith, few, (laid g m).within, g.met.D.SectorDisk.fits c.args.disk.now)) in
        kept-matches (view g m) saved (g.D.SectorDisk.medium c.args.disk.now) new matches
        (run g m matches.honest) (placed_in c.put_in.new.words.items) c.put_in.new.uses new_heap.heap.all_uses (put.given.saved ∙ (taken g m).saved)
        new_heap.heap.next_uses (subst (λ (l : List Placed). AreObjects (map (object_on new.contents) l)) (sym new_heap.placed_is) are)

-- ---- before the sectors are written

pub push_u64-requires : goal.push_u64-requires
push_u64-requires g c =
    let h = c.self.inside in
    omega (arith, heap-fits c.self.invariant, h.words.ok.0)

pub push_u64-requires-2 : goal.push_u64-requires-2
push_u64-requires-2 g c =
    let h = c.self.inside in
    omega (
      arith,
      heap-fits c.self.invariant,
      h.words.ok.0,
      c.push_u64.new.words.ok.0,
      ap length c.push_u64.ensures.items,
      length-append h.words.items (c.number-number.result / 2 ^ 32 ∷ c.number-number.result % 2 ^ 32 ∷ []),
      c.push_u64.ensures.capacity,
    )

pub write_object-requires-clause-within : goal.write_object-requires-clause-within
write_object-requires-clause-within g c =
    subst (λ (v : HeapView). v.range.first + v.range.count ≤ g.D.SectorDisk.size c.args.disk.now) (sym c.self.view_is) c.requires.laid_out.within

pub write_object-requires-clause-room : goal.write_object-requires-clause-room
write_object-requires-clause-room g c =
    let h = c.self.inside in
    let p : Placed = record { number = c.number-number.result; len = c.len.result; sectors = [] } in
    omega (
      arith,
      heap-fits c.self.invariant,
      pushed-four h.words.items c.push_u64.new.words.items c.push_u64-2.new.words.items [] p c.push_u64.ensures.items c.push_u64-2.ensures.items,
      c.push_u64.ensures.capacity,
      c.push_u64-2.ensures.capacity,
    )

-- ---- they were not all written

pub take_back-requires-clause-end : goal.take_back-requires-clause-end
take_back-requires-clause-end g c = long g (goal.at.take_back-requires-clause-end g c).After-write_object

pub take_back-requires-clause-inside : goal.take_back-requires-clause-inside
take_back-requires-clause-inside g c =
    let h = c.self.inside in
    let m = (goal.at.take_back-requires-clause-inside g c).After-write_object in
    subst (All (λ s. (h.range.first ≤ s) × (s < h.range.first + length c.write_object.new.uses))) (sym (its_sectors g m))
    (λ k d less. let free = (taken g m).were_free k d less in
    (free.0, omega (arith, free.0, slice_get_within h.uses _ free.1 free.2, (taken g m).long)))

pub invariant_of-self-in-Err : goal.invariant_of-self-in-Err
invariant_of-self-in-Err g c =
    let h = c.self.inside in
    let m = (goal.at.invariant_of-self-in-Err g c).After-write_object in
    let is : AreGiven h.range.first c.write_object.new.uses (sectors g m) c.take_back.new.uses =
    subst (λ (l : List ℕ). AreGiven h.range.first c.write_object.new.uses l c.take_back.new.uses) (its_sectors g m)
    c.take_back.ensures.given in
    back-heap c.take_back.new.words c.take_back.new.uses c.self.invariant (taken g m) is
    (c.take_back.ensures.words ∙ front g m)
    (c.take_back.ensures.capacity ∙ c.write_object.ensures.capacity ∙ c.push_u64-2.ensures.capacity ∙ c.push_u64.ensures.capacity)

pub returns-in-Err-clause-any_moment : goal.returns-in-Err-clause-any_moment
returns-in-Err-clause-any_moment g c = moment g (goal.at.returns-in-Err-clause-any_moment g c).After-write_object

pub returns-in-Err-clause-others : goal.returns-in-Err-clause-others
returns-in-Err-clause-others g c = others g (goal.at.returns-in-Err-clause-others g c).After-write_object

pub returns-in-Err-clause-full : goal.returns-in-Err-clause-full
returns-in-Err-clause-full g c = λ full.
    let m = (goal.at.returns-in-Err-clause-full g c).After-write_object in
    of_object g m (λ o. free c.args.self.now < sectors_for (length o.1))
    (omega (arith, c.in-Err.ensures.full full, ap free c.self.view_is))

-- ---- they were

pub put_in-requires-clause-some : goal.put_in-requires-clause-some
put_in-requires-clause-some g c = omega (arith, c.self.inside.words.ok.0, c.len-end.ensures, ap length c.self.invariant.is_table)

pub put_in-requires-clause-end : goal.put_in-requires-clause-end
put_in-requires-clause-end g c = let le = long g (goal.at.put_in-requires-clause-end g c).After-write_object in omega (arith, le)

pub put_in-requires-clause-table : goal.put_in-requires-clause-table
put_in-requires-clause-table g c =
    let h = c.self.inside in
    subst (λ (l : List ℕ). AreWords l (placed_in l)) (sym (front g (goal.at.put_in-requires-clause-table g c).After-write_object))
    (words-of c.self.invariant)

pub put_in-requires-clause-inside : goal.put_in-requires-clause-inside
put_in-requires-clause-inside g c =
    let h = c.self.inside in
    let m = (goal.at.put_in-requires-clause-inside g c).After-write_object in
    subst (λ (l : List ℕ). All (λ s. (h.range.first ≤ s) × (s < h.range.first + length c.write_object.new.uses)) (object_sectors (placed_in l)))
    (sym (front g m))
    (λ k d less. let here = c.self.invariant.inside k d less in
    (here.0, omega (arith, here.1, c.self.invariant.all_uses, (taken g m).long)))

pub put_in-requires-clause-counted : goal.put_in-requires-clause-counted
put_in-requires-clause-counted g c =
    let h = c.self.inside in
    let m = (goal.at.put_in-requires-clause-counted g c).After-write_object in
    omega (
      arith,
      ap (λ (l : List ℕ). slice_index l 0) (front g m),
      get_or-take c.len-end.result c.write_object.new.words.items 0 0 (omega (arith, ends g m, ap length c.self.invariant.is_table)),
      heap-few c.self.invariant,
      (laid g m).within,
      (laid g m).not_first,
      g.met.D.SectorDisk.fits c.args.disk.now,
    )

pub invariant_of-self : goal.invariant_of-self
invariant_of-self g c = (new_heap g c).heap

pub returns-in-Ok-clause-map : goal.returns-in-Ok-clause-map
returns-in-Ok-clause-map g c =
    let old = g.D.SectorDisk.medium c.args.disk.now in
    let new = g.D.SectorDisk.medium c.write_object.new.disk in
    subst (λ (v : HeapView). (saved : PlainObjects) → HeapMatches v saved old
    → IfSome (slice_get (g.O.Objects.objects c.args.objects.now) c.args.i) (λ o. map_of (next g c) new ≡ with_object (map_of v old) o.0 o.1)) c.self.view_is
    (λ saved matches. of_object g (m g c) (λ o. map_of (next g c) new ≡ with_object (map_of (view g (m g c)) old) o.0 o.1) (put_map g c saved matches))

pub returns-in-Ok-clause-matches : goal.returns-in-Ok-clause-matches
returns-in-Ok-clause-matches g c =
    subst (λ (v : HeapView). (saved : PlainObjects) → HeapMatches v saved (g.D.SectorDisk.medium c.args.disk.now)
    → HeapMatches (next g c) saved (g.D.SectorDisk.medium c.write_object.new.disk)) c.self.view_is (put_matches g c)

pub returns-in-Ok-clause-sizes : goal.returns-in-Ok-clause-sizes
returns-in-Ok-clause-sizes g c =
    let size : Placed → ℕ × ℕ = λ q. (q.number, q.len) in
    subst (λ (v : HeapView). IfSome (slice_get (g.O.Objects.objects c.args.objects.now) c.args.i)
    (λ o. sizes_of (next g c) ≡ with_object (sizes_of v) o.0 (length o.1))) c.self.view_is
    (of_object g (m g c) (λ o. sizes_of (next g c) ≡ with_object (sizes_of (view g (m g c))) o.0 (length o.1))
    (ap (λ (l : List Placed). map size l) (new_heap g c).placed_is ∙ put-seen (placed g (m g c)) (put g c).found (λ q. q.len)
    ∙ ap (λ (n : ℕ). with_object (sizes_of (view g (m g c))) n c.len.result) (sym (its_number g (m g c)))
    ∙ ap (with_object (sizes_of (view g (m g c))) (object g (m g c)).0) (sym (its_length g (m g c)))))

pub returns-in-Ok-clause-any_moment : goal.returns-in-Ok-clause-any_moment
returns-in-Ok-clause-any_moment g c = moment g (goal.at.returns-in-Ok-clause-any_moment g c).After-write_object

pub returns-in-Ok-clause-others : goal.returns-in-Ok-clause-others
returns-in-Ok-clause-others g c = others g (goal.at.returns-in-Ok-clause-others g c).After-write_object

pub returns-in-Ok-clause-spends : goal.returns-in-Ok-clause-spends
returns-in-Ok-clause-spends g c =
    of_object g (m g c) (λ o. free c.args.self.now ≤ count_by is_free c.put_in.new.uses + sectors_for (length o.1))
    (omega (arith, (taken g (m g c)).left, (put g c).given.more, c.in-Ok.ensures.all, ap free c.self.view_is))

pub returns-in-Ok-clause-counts : goal.returns-in-Ok-clause-counts
returns-in-Ok-clause-counts g c =
    of_object g (goal.at.returns-in-Ok-clause-counts g c).After-write_object
    (λ o. g.D.SectorDisk.counts c.write_object.new.disk
    ≡ with_calls (sectors_for (length o.1)) 0 (g.D.SectorDisk.counts c.args.disk.now)) c.in-Ok.ensures.counts
