use Rattle.sysv_calls.proofs.Lent.{set_in}
use Rattle.sysv_calls.proofs.sem.make_set.Given as goal

-- the key of the set that is reserved, and how many semaphores it has
abbrev pub ghost-add_semset : goal.ghost-add_semset
ghost-add_semset a = set_in a.self.now.ready
