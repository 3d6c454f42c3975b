use Rattle.std.proofs.Common.{refl}
use Rattle.posix_calls.proofs.psem.sem_trywait.Goals as goal

pub returns-clause-held : goal.returns-clause-held
returns-clause-held c = rw (c.lower.ensures.held _ c.in_ok-found.ensures.value) refl
