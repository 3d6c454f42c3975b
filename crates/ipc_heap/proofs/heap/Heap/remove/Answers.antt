-- The object is away, and its sectors are not those of the map any more.
use Rattle.std.proofs.Common.{◌≡◌, ℕ, List, ◌++◌, take, drop, refl, sym, ap, subst, ◌∙◌, arith}
use Rattle.std.specs.Prelude.{All}
use Rattle.ipc_disk.specs.Range.{IsInside}
use Rattle.ipc_heap.specs.Heap.{object_sectors}
use Rattle.ipc_heap.specs.View.{HeapView}
use Rattle.ipc_heap.specs.Matches.{Removes}
use Rattle.ipc_heap.specs.Relations.Uses.{AreGiven}
use Rattle.ipc_heap.specs.Relations.Words.{AreWords, IsPlace, placed_in}
use Rattle.ipc_heap.proofs.Changes.{words-of, here-inside, place-sectors, removed-heap, seen, place-filtered, IsHeapOf}
use Rattle.ipc_heap.proofs.heap.Heap.remove.Goals as goal
use Rattle.ipc_heap.proofs.heap.Heap.remove.Goals.{After-sectors_in, After-take_out}

-- the place of the object, and its sectors
found : (c : After-sectors_in) → IsPlace (placed_in c.self.inside.words.items) c.args.object c.place_of-place.result
found c = subst (λ (l : List ℕ). IsPlace (placed_in l) c.args.object c.place_of-place.result) c.deref.ensures.value c.place_of-place.ensures

sectors : (c : After-sectors_in) → c.sectors_in.result.now ≡ object_sectors (found c).here
sectors c =
    c.sectors_in.ensures ∙ ap (λ (l : List ℕ). drop 4 (take c.place_of-place.result.len (drop c.place_of-place.result.at l))) c.deref-2.ensures.value
    ∙ place-sectors c.self.invariant.is_table (found c)

-- they are given back
module _ (c : After-take_out) where
  abbrev m : After-sectors_in
  m = (goal.at.invariant_of-self c).After-sectors_in

  given : AreGiven c.self.inside.range.first c.self.inside.uses (object_sectors (found m).here) c.give_back.new.self
  given = rw (sectors m) at c.give_back.ensures

  without : IsHeapOf c.self.inside.range ((found m).before ++ (found m).after) c.take_out.new.words c.self.inside.table c.give_back.new.self
  without =
      removed-heap c.take_out.new.words c.give_back.new.self c.self.invariant (found m) given c.take_out.ensures.items c.take_out.ensures.capacity

pub place_of-place-requires : goal.place_of-place-requires
place_of-place-requires c =
    subst (λ (l : List ℕ). AreWords l (placed_in l)) (sym c.deref.ensures.value)
    (words-of c.self.invariant)

pub give_back-requires : goal.give_back-requires
give_back-requires c =
    let h = c.self.inside in
    let inside : All (IsInside h.range) c.sectors_in.result.now =
    subst (All (IsInside h.range)) (sym (sectors c))
    (here-inside h.range (found c) c.self.invariant.inside) in
    λ k d less. let here = inside k d less in (here.0, omega (arith, here.1, c.self.invariant.all_uses))

pub invariant_of-self : goal.invariant_of-self
invariant_of-self c = (without c).heap

pub returns-clause-removes : goal.returns-clause-removes
returns-clause-removes c =
    let h = c.self.inside in
    subst (λ (v : HeapView). Removes c.args.object v (seen h.range h.root h.next_root h.epoch c.take_out.new.words h.table c.give_back.new.self))
    c.self.view_is
    (record {
      stays = record { range = refl; root = refl; next_root = refl; epoch = refl; table = refl };
      placed = (without c).placed_is ∙ place-filtered (found (m c));
      saved = (given c).saved;
      next = λ before. (without c).heap.next_uses;
    })
