use Rattle.sysv_calls.proofs.Lent.{segment_in}
use Rattle.sysv_calls.proofs.shm.make_segment.Given as goal

-- the key of the segment that is reserved, and its size
abbrev pub ghost-add_shm : goal.ghost-add_shm
ghost-add_shm a = segment_in a.self.now.ready
