use Rattle.std.proofs.Common.{refl, subst}
use Rattle.std.specs.Bool.{Decides}
use Rattle.ipc_state.specs.declared.parked.ObjectKind.TheVariants as kinds
use Rattle.ipc_state.specs.Held.{Held}
use Rattle.ipc_state.specs.Keyed.{AreKeyed}
use Rattle.ipc_state.specs.Sound.{IsSoundMsgQueue}
use Rattle.ipc_state.proofs.SoundMqs.{never-open-sound}
use Rattle.ipc_state.proofs.state.State.are_msg_queues_sound.Goals as goal

pub returns : goal.returns
returns c =
    let s = c.args.self.now in
    let told = subst (λ (m : Held). Decides c.are_sound.result (AreKeyed m.limits.msgmni (IsSoundMsgQueue m.limits) m.state.msg)) c.self.view_is
    c.are_sound.ensures in
    (λ yes. never-open-sound s.limits kinds.MsgQueue s.state.processes.entries s.state.msg refl (told.0 yes) tt, λ h. told.1 h.held.bound)
