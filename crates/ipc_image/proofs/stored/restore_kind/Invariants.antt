use Rattle.std.proofs.Common.{◌≡◌, ◌++◌, ℕ, List, map, drop}
use Rattle.std.specs.Prelude.{All}
use Rattle.ipc_image.specs.Kind.{object_in, FitsIn}
use Rattle.ipc_image.specs.SavedParts.{with_more}
use Rattle.ipc_image.proofs.stored.restore_kind.Given as goal

-- what the objects before this one are was added
abbrev pub invariant-loop-i : goal.invariant-loop-i
invariant-loop-i g l = let t = g.T.Stored in record {
  items : List (ℕ × g.row.T.Denot);
  fit : All (FitsIn t.Fits) items;
  read : drop l.from l.objects ≡ map (object_in t.FIRST t.bytes_of) items ++ drop l.i l.objects;
  added : (l.state.state, l.state.limits) ≡ with_more t.items t.put (l.initial.state.state, l.initial.state.limits) items;
}
