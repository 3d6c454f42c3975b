use Rattle.std.proofs.Common.{List, ◌++◌, map, ap, ◌∙◌, append_assoc, arith}
use Rattle.ipc_wait.specs.Waits.{waiting_call_of}
use Rattle.ipc_state.specs.Finish.{done}
use Rattle.ipc_wire.specs.declared.reply.Body.TheVariants.{Empty}
use Rattle.ipc_engine.specs.Event.{PlainOutcome}
use Rattle.ipc_engine.specs.Step.{Step, interrupted, replied}
use Rattle.ipc_engine.specs.View.{plain_outcome}
use Rattle.ipc_engine.proofs.Buffers.{pushed}
use Rattle.ipc_engine.proofs.asking.interrupt.Goals as goal

pub returns-clause-does : goal.returns-clause-does
returns-clause-does c =
    let s = c.args.state.now.state in
    let first = interrupted s c.args.pid.0 (waiting_call_of c.args.pid s.wait) in
    let own = (replied c.args.pid.0 c.args.serial (done first.state Empty)).outcomes in
    let ended = c.end_waiting.ensures.does in
    record {
      state = ended.state;
      outcomes = pushed c.end_waiting.new.outcomes.items c.push.new.outcomes.items c.reply_to.result own c.push.ensures.items
          (ap (λ (t : Step). t.outcomes) (c.reply_to.ensures.reply first.state))
          ∙ (ap (λ (xs : List PlainOutcome). xs ++ own) ended.outcomes
          ∙ append_assoc (map plain_outcome c.args.outcomes.now.items) first.outcomes own);
      capacity = omega (arith, ended.capacity, c.push.ensures.capacity);
    }
