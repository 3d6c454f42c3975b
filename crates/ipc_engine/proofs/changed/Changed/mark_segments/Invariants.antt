use Rattle.std.proofs.Common.{◌≡◌, ◌+◌, ◌≤◌, length, take, vec_capacity}
use Rattle.std.specs.Prelude.{◌&&◌, ◌||◌}
use Rattle.std.specs.List.{list_any}
use Rattle.ipc_state.specs.declared.parked.Object.{Object}
use Rattle.ipc_state.specs.declared.parked.ObjectKind.TheVariants as kinds
use Rattle.ipc_state.specs.Opening.{is_on, object_as}
use Rattle.ipc_state.specs.Touching.{is_opened_by}
use Rattle.ipc_engine.specs.Changes.{is_marked}
use Rattle.ipc_engine.proofs.changed.Changed.mark_segments.Given as goal

-- those before this one are marked, if they have to be
abbrev pub invariant-loop-item : goal.invariant-loop-item
invariant-loop-item l = record {
  marked : (o : Object) → is_marked l.self.marks.items o ≡ (is_marked l.fn.self.marks.items o
      || list_any (λ e. is_on (object_as kinds.Shm e.number) o
      && is_opened_by l.pid l.state.state.processes.entries (object_as kinds.Shm e.number)) (take l.item-index l.item-items));
  few : length l.self.marks.items ≤ length l.fn.self.marks.items + l.item-index;
  capacity : vec_capacity l.self.marks ≡ vec_capacity l.fn.self.marks;
}
