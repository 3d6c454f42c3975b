use Rattle.std.proofs.Common.{List, sym, subst}
use Rattle.std.specs.List.{IsDistinct}
use Rattle.ipc_state.specs.declared.parked.Object.{Object}
use Rattle.ipc_state.specs.Opening.{is_on}
use Rattle.ipc_engine.proofs.Marks.{none-once}
use Rattle.ipc_engine.proofs.changed.Changed.new.Goals as goal

pub invariant_of-result : goal.invariant_of-result
invariant_of-result c = record { once = subst (λ (ms : List Object). IsDistinct is_on ms) (sym c.in_ok-marks.ensures.items) none-once }
