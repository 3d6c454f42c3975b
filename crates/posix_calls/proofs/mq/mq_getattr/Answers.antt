use Rattle.posix_calls.proofs.Reaching.{queue-sound}
use Rattle.posix_calls.proofs.mq.mq_getattr.Goals as goal

pub push_attr-requires-clause-count : goal.push_attr-requires-clause-count
push_attr-requires-clause-count c =
    (queue-sound c.args.state.now.limits c.args.state.now.state _ _ c.in_ok-found.ensures.queue c.requires.sound).count
