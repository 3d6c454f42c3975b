-- The records before the place are gone through.
use Rattle.std.proofs.Common.{◌≡◌, ◌-◌, length}
use Rattle.ipc_state.specs.State.{State}
use Rattle.ipc_engine.specs.Changes.{IsTracked}
use Rattle.ipc_store.proofs.Replaying.{GoneThrough}
use Rattle.ipc_store.proofs.replay.go_through.Given as goal

abbrev pub invariant-loop-at : goal.invariant-loop-at
invariant-loop-at l = record {
  limits : l.engine.limits ≡ l.fn.engine.limits;
  tracked : (base : State) → IsTracked l.fn.engine.changed base l.fn.engine.state → IsTracked l.engine.changed base l.engine.state;
  gone : GoneThrough l.fn.engine.limits l.fn.engine.state l.records l.at l.engine.state;
}

abbrev pub decreases-loop-at : goal.decreases-loop-at
decreases-loop-at l = length l.records - l.at
