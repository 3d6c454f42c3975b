use Rattle.std.proofs.Common.{sym, subst}
use Rattle.std.specs.Bool.{Decides}
use Rattle.ipc_state.specs.Sound.{IsSoundMsgQueue}
use Rattle.ipc_state.proofs.SoundQueues.{queue-decides}
use Rattle.ipc_state.proofs.msg_queues.MsgQueueSoundAlone.is_sound.Goals as goal

pub returns : goal.returns
returns c =
    subst (λ b. Decides b (IsSoundMsgQueue c.args.limits.now c.args.self.now)) (sym c.is_sound_msg_queue.ensures)
    (queue-decides c.args.limits.now c.args.self.now)
