use Rattle.std.proofs.Common.{◌≡◌, map, take}
use Rattle.ipc_image.specs.Relations.Adjustments.{plain_of}
use Rattle.ipc_image.specs.SavedParts.{all_attached}
use Rattle.ipc_image.proofs.adjustments.attach_all.Given as goal

-- those before this one are attached
abbrev pub invariant-loop-row : goal.invariant-loop-row
invariant-loop-row l = record {
  state : l.state.state ≡ record l.initial.state.state { undo = all_attached l.initial.state.state.undo (map plain_of (take l.row-index l.rows)) };
  limits : l.state.limits ≡ l.initial.state.limits;
}
