use Rattle.std.proofs.Common.{refl}
use Rattle.posix_calls.proofs.psem.sem_post.Goals as goal

pub returns-clause-held : goal.returns-clause-held
returns-clause-held c = rw (c.raise.ensures.held _ c.in_ok-found.ensures.value) refl
