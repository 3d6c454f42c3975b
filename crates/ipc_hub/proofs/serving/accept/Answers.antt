use Rattle.std.proofs.Common.{◌≡◌, map, ap, ◌∙◌}
use Rattle.ipc_engine.specs.Engine.{Machine}
use Rattle.ipc_engine.specs.View.{plain_event, plain_outcome}
use Rattle.ipc_hub.specs.Relations.Rows.{hub_view}
use Rattle.ipc_hub.proofs.Keeping.{quiet-space}
use Rattle.ipc_store.proofs.CallerLemmas.{left-less, room-less}
use Rattle.ipc_hub.proofs.serving.accept.Given.{Over}
use Rattle.ipc_hub.proofs.serving.accept.Goals.{After-outcomes}
use Rattle.ipc_hub.proofs.serving.accept.Goals as goal

-- the replies are those of the machine
are : (g : Over) (c : After-outcomes g) → map plain_outcome c.outcomes.result.now ≡ c.step.new.self.machine.outcomes
are g c = c.outcomes.ensures ∙ ap (λ (m : Machine). m.outcomes) c.engine.ensures

pub deliver-requires-clause-space : goal.deliver-requires-clause-space
deliver-requires-clause-space g c =
    let stepped = rw c.unwrap.ensures at c.step.ensures in
    rw (are g (goal.at.deliver-requires-clause-space g c).After-outcomes ∙ stepped.outcomes)
    (quiet-space (hub_view c.args.store.now.machine c.args.connections.now) (plain_event c.args.event) stepped.was_sound c.requires.ready.invariant
    c.requires.quiet.nobody stepped.passed)

pub returns-clause-steps : goal.returns-clause-steps
returns-clause-steps g c =
    let s = rw c.unwrap.ensures at c.step.ensures in
    record {
      limits = s.limits;
      state = s.state;
      outcomes = s.outcomes;
      passed = s.passed;
      sound = s.was_sound;
      pends = record { disk = s.disk; stopped = s.running; checkpoint = s.checkpoint; confirmed = s.confirmed; waiting = s.waiting; takes = s.takes.0 };
      room = λ bytes. room-less c.args.store.now c.step.new.self (plain_event c.args.event) bytes s.records;
      left = λ n. left-less c.args.store.now c.step.new.self n s.waiting s.confirmed s.running;
    }
