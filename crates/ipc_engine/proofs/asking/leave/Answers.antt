use Rattle.std.proofs.Common.{None, not, length, refl, sym, subst, ap, ◌∙◌, arith}
use Rattle.std.proofs.lemmas.List.Filters.{length-filter_both}
use Rattle.ipc_wait.specs.Waits.{is_of}
use Rattle.ipc_state.specs.Sound.{HasSoundParts}
use Rattle.ipc_state.specs.Held.{Held}
use Rattle.ipc_state.specs.Waiting.{PlainWaiting}
use Rattle.ipc_state.proofs.CallerLemmas.{exit-sound}
use Rattle.ipc_engine.specs.Settling.{AreLinked, OthersWait}
use Rattle.ipc_engine.specs.Step.{settle}
use Rattle.ipc_engine.proofs.Doing.{does-from}
use Rattle.ipc_engine.proofs.Soundness.{exit-linked}
use Rattle.ipc_engine.proofs.Tracking.{exit-waits}
use Rattle.ipc_engine.proofs.asking.leave.Goals as goal

pub settle_all-requires-clause-parts : goal.settle_all-requires-clause-parts
settle_all-requires-clause-parts c =
    let s = c.args.state.now in
    subst (λ (h : Held). HasSoundParts h.limits h.state) (sym c.remove_process.ensures) (exit-sound s.limits s.state c.args.pid.0 c.requires.sound.parts)

pub settle_all-requires-clause-linked : goal.settle_all-requires-clause-linked
settle_all-requires-clause-linked c =
    let s = c.args.state.now in
    subst (λ (h : Held). AreLinked h.state) (sym c.remove_process.ensures) (exit-linked s.limits s.state c.args.pid.0 c.requires.sound)

pub settle_all-requires-clause-others : goal.settle_all-requires-clause-others
settle_all-requires-clause-others c none =
    let s = c.args.state.now in
    subst (λ (h : Held). OthersWait h.limits h.state None) (sym c.remove_process.ensures)
    (exit-waits s.limits s.state c.args.pid.0 c.requires.sound (sym c.may_leave_changes-may_have_changed.ensures ∙ none))

pub settle_all-requires-clause-room : goal.settle_all-requires-clause-room
settle_all-requires-clause-room c =
    let fewer = length-filter_both (is_of c.args.pid) (λ (w : PlainWaiting). not (is_of c.args.pid w)) (λ w. refl) c.args.state.now.state.wait in
    omega (arith, c.requires.places, fewer, ap (λ (h : Held). length h.state.wait) c.remove_process.ensures)

pub returns-clause-does : goal.returns-clause-does
returns-clause-does c = does-from (λ h. settle h.limits h.state) c.remove_process.ensures c.settle_all.ensures.does
