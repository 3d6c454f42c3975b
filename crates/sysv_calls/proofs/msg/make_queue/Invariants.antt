use Rattle.sysv_calls.proofs.Lent.{queue_in}
use Rattle.sysv_calls.proofs.msg.make_queue.Given as goal

-- the key of the queue that is reserved
abbrev pub ghost-add_msg_queue : goal.ghost-add_msg_queue
ghost-add_msg_queue a = queue_in a.self.now.ready
