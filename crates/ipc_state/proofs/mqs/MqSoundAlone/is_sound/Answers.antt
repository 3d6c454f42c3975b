use Rattle.std.proofs.Common.{sym, subst}
use Rattle.std.specs.Bool.{Decides}
use Rattle.ipc_state.specs.Sound.{IsSoundMq}
use Rattle.ipc_state.proofs.SoundMqs.{mq-decides}
use Rattle.ipc_state.proofs.mqs.MqSoundAlone.is_sound.Goals as goal

pub returns : goal.returns
returns c =
    subst (λ b. Decides b (IsSoundMq c.args.limits.now c.args.self.now)) (sym c.is_sound_mq.ensures) (mq-decides c.args.limits.now c.args.self.now)
