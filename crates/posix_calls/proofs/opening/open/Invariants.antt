use Rattle.posix_calls.proofs.Reaching.{name_of}
use Rattle.posix_calls.proofs.opening.open.Given as goal

-- the name for which there is memory
abbrev pub ghost-make_mq : goal.ghost-make_mq
ghost-make_mq a = name_of a.state.now.ready
