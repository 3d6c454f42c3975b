use Rattle.std.proofs.Common.{sym, ◌∙◌}
use Rattle.posix_mq.specs.Queue.{plain}
use Rattle.ipc_state.specs.Tests.{is_sound_mq_message}
use Rattle.ipc_state.proofs.Walks.{not_all, one_more}
use Rattle.ipc_state.proofs.mqs.has_sound_messages.Goals as goal

pub returns-then-not-is_sound_message : goal.returns-then-not-is_sound_message
returns-then-not-is_sound_message c =
    not_all (is_sound_mq_message c.args.msgsize) c.args.queue.now.messages c.loop-at.at (plain c.message.result.now) c.message.ensures
    (sym c.is_sound_message.ensures ∙ c.if-not-is_sound_message.true)

pub loop-at-preserved : goal.loop-at-preserved
loop-at-preserved c =
    one_more (is_sound_mq_message c.args.msgsize) c.args.queue.now.messages c.loop-at.at (plain c.message.result.now) c.message.ensures
    c.loop-at.invariant (sym c.is_sound_message.ensures ∙ c.if-not-is_sound_message.false)
