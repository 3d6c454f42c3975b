use Rattle.posix_calls.proofs.Reaching.{name_of}
use Rattle.posix_calls.proofs.psem.open.Given as goal

-- the name for which there is memory
abbrev pub ghost-make_semaphore : goal.ghost-make_semaphore
ghost-make_semaphore a = name_of a.state.now.ready
