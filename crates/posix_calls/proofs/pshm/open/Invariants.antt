use Rattle.posix_calls.proofs.Reaching.{name_of}
use Rattle.posix_calls.proofs.pshm.open.Given as goal

-- the name for which there is memory
abbrev pub ghost-make_pshm : goal.ghost-make_pshm
ghost-make_pshm a = name_of a.state.now.ready
