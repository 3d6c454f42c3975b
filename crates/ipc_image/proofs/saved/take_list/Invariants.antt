use Rattle.std.proofs.Common.{List, ◌≡◌}
use Rattle.ipc_image.specs.Shape.{bytes_in}
use Rattle.ipc_image.specs.SavedParts.{with_more}
use Rattle.ipc_image.proofs.ReadLists.{AreRead}
use Rattle.ipc_image.proofs.saved.take_list.Given as goal

-- as many were added as turns were taken
abbrev pub invariant-loop : goal.invariant-loop
invariant-loop g l = let t = g.T.Saved in record {
  items : List _;
  so_far : AreRead (bytes_in t.shape t.tree) t.Fits items l.counter l.initial.left l.left;
  added : t.seen l.into ≡ with_more t.items t.put (t.seen l.initial.into) items;
}
