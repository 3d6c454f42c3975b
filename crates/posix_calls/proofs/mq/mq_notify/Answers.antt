use Rattle.std.proofs.Common.{refl}
use Rattle.posix_calls.proofs.mq.mq_notify.Goals as goal

pub returns-clause-held : goal.returns-clause-held
returns-clause-held c = rw (c.register.ensures _ c.in_ok-found.ensures.queue) refl
