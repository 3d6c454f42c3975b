use Rattle.std.proofs.Common.{List, sym, subst}
use Rattle.std.specs.List.{IsDistinct}
use Rattle.ipc_state.specs.declared.parked.Object.{Object}
use Rattle.ipc_state.specs.Opening.{is_on}
use Rattle.ipc_engine.proofs.Marks.{none-once}
use Rattle.ipc_engine.proofs.changed.Changed.clear.Goals as goal

pub invariant_of-self : goal.invariant_of-self
invariant_of-self c = record { once = subst (λ (ms : List Object). IsDistinct is_on ms) (sym c.clear.ensures.items) none-once }
