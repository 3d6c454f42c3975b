use Rattle.std.proofs.Common.{ap}
use Rattle.ipc_state.specs.Finish.{refused}
use Rattle.ipc_engine.specs.Step.{Step, replied}
use Rattle.ipc_engine.proofs.Buffers.{pushed}
use Rattle.ipc_engine.proofs.asking.refuse.Goals as goal

pub returns-clause-outcomes : goal.returns-clause-outcomes
returns-clause-outcomes c s =
    let own = (replied c.args.pid.0 c.args.serial (refused s c.args.errno)).outcomes in
    pushed c.args.outcomes.now.items c.push.new.outcomes.items c.reply_to.result own c.push.ensures.items (ap
    (λ (t : Step). t.outcomes) (c.reply_to.ensures.reply s))
