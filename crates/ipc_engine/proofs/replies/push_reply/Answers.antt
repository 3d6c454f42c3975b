use Rattle.std.proofs.Common.{List, ◌++◌, map, ap, ◌∙◌, append_assoc}
use Rattle.std.specs.Prelude.{Ok, Err}
use Rattle.ipc_state.specs.Finish.{finish_of}
use Rattle.ipc_engine.specs.Event.{PlainOutcome}
use Rattle.ipc_engine.specs.Step.{Step, notices, replied}
use Rattle.ipc_engine.specs.View.{plain_outcome}
use Rattle.ipc_engine.proofs.Buffers.{pushed}
use Rattle.ipc_engine.proofs.replies.push_reply.Goals as goal

pub returns-in-Ok-clause-outcomes : goal.returns-in-Ok-clause-outcomes
returns-in-Ok-clause-outcomes c s =
    let own = (replied c.args.pid.0 c.args.serial (finish_of s (Ok c.in-Ok.body))).outcomes in
    let first = pushed c.args.outcomes.now.items c.push.new.outcomes.items c.reply_to.result own c.push.ensures.items (ap
    (λ (t : Step). t.outcomes) (c.reply_to.ensures.reply s)) in
    rw c.in-Ok.is (c.notify.ensures.outcomes ∙ (ap (λ (xs : List PlainOutcome). xs ++ notices c.args.fired) first
    ∙ append_assoc (map plain_outcome c.args.outcomes.now.items) own (notices c.args.fired)))

pub returns-in-Err-clause-outcomes : goal.returns-in-Err-clause-outcomes
returns-in-Err-clause-outcomes c s =
    let own = (replied c.args.pid.0 c.args.serial (finish_of s (Err c.in-Err.errno))).outcomes in
    rw c.in-Err.is (pushed c.args.outcomes.now.items c.push-in-Err.new.outcomes.items c.reply_to-in-Err.result own c.push-in-Err.ensures.items (ap
    (λ (t : Step). t.outcomes) (c.reply_to-in-Err.ensures.reply s)))
