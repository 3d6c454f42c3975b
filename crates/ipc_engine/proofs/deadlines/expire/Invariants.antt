use Rattle.std.proofs.Common.{◌≡◌, ◌+◌, ◌≤◌, ◌++◌, length, map, vec_capacity}
use Rattle.ipc_wait.specs.Waits.{HaveDistinctPids}
use Rattle.ipc_state.specs.State.{due_calls, without_due}
use Rattle.ipc_engine.specs.Step.{expired}
use Rattle.ipc_engine.specs.View.{plain_outcome}
use Rattle.ipc_engine.proofs.deadlines.expire.Given as goal

-- what is left to be done comes to what was asked for
abbrev pub invariant-loop-waiting : goal.invariant-loop-waiting
invariant-loop-waiting l =
    record {
      pids : HaveDistinctPids l.state.state.wait;
      places : length l.outcomes.items + length l.state.state.wait ≤ vec_capacity l.outcomes;
      state : without_due l.state.state ≡ without_due l.fn.state.state;
      outcomes : map plain_outcome l.outcomes.items ++ map expired (due_calls l.state.state)
          ≡ map plain_outcome l.fn.outcomes.items ++ map expired (due_calls l.fn.state.state);
      held : l.state ≡ record l.fn.state { state = l.state.state };
      capacity : vec_capacity l.fn.outcomes ≤ vec_capacity l.outcomes;
    }

-- one call less each time
abbrev pub decreases-loop-waiting : goal.decreases-loop-waiting
decreases-loop-waiting l = length l.state.state.wait
