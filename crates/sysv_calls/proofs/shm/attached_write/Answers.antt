use Rattle.std.proofs.Common.{refl}
use Rattle.sysv_calls.proofs.shm.attached_write.Goals as goal

pub returns-clause-held : goal.returns-clause-held
returns-clause-held c = rw (c.write.ensures.held _ c.in_ok-found.ensures.there) refl
