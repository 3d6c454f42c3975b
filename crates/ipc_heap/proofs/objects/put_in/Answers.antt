-- The place is that of the number, and its sectors are given back.
use Rattle.std.proofs.Common.{◌≡◌, ℕ, ◌-◌, ◌+◌, List, length, take, drop, sym, ap, subst, ◌∙◌}
use Rattle.std.specs.Prelude.{All}
use Rattle.std.proofs.lemmas.List.{get_or-take}
use Rattle.ipc_disk.specs.declared.range.Range.{Range}
use Rattle.ipc_disk.specs.Range.{IsInside}
use Rattle.ipc_heap.specs.Heap.{object_sectors}
use Rattle.ipc_heap.specs.Relations.Words.{IsPlace, placed_in, replaced}
use Rattle.ipc_heap.proofs.Changes.{here-inside, place-sectors}
use Rattle.ipc_heap.proofs.objects.put_in.Goals as goal
use Rattle.ipc_heap.proofs.objects.put_in.Goals.{After-sectors_in}

-- the place of the object of its number, and the sectors there
module _ (c : After-sectors_in) where
  abbrev table : List ℕ
  table = take c.args.end c.args.words.now.items

  found : IsPlace (placed_in table) c.args.number c.place_of-place.result
  found = subst (λ (l : List ℕ). IsPlace (placed_in (take c.args.end l)) c.args.number c.place_of-place.result) c.deref.ensures.value c.place_of-place.ensures

  sectors : c.sectors_in.result.now ≡ object_sectors found.here
  sectors =
      c.sectors_in.ensures
      ∙ ap (λ (l : List ℕ). drop 4 (take c.place_of-place.result.len (drop c.place_of-place.result.at (take c.args.end l)))) c.deref-2.ensures.value
      ∙ place-sectors c.requires.table.are found

pub give_back-requires : goal.give_back-requires
give_back-requires c =
    let range : Range = record { first = c.args.first; count = length c.args.uses.now } in
    subst (All (IsInside range)) (sym (sectors c)) (here-inside range (found c) c.requires.inside)

pub returns-clause-put : goal.returns-clause-put
returns-clause-put c =
    let m = (goal.at.returns-clause-put c).After-sectors_in in
    record {
      place = c.place_of-place.result;
      found = found m;
      given = rw (sectors m) at c.give_back.ensures;
      now = c.bring_in.ensures.items
          ∙ ap (λ (n : ℕ). replaced (table m) c.place_of-place.result (drop c.args.end c.args.words.now.items) (n + (1 - c.place_of-place.result.len)))
          (sym (get_or-take c.args.end c.args.words.now.items 0 0 c.requires.some));
    }
