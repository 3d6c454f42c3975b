use Rattle.std.proofs.Common.{Option, None, sym, subst, ap, ◌∙◌}
use Rattle.ipc_base.proofs.CallerLemmas.{choice}
use Rattle.ipc_state.specs.declared.parked.Object.{Object}
use Rattle.ipc_state.specs.Finish.{finish_firing}
use Rattle.ipc_state.specs.State.{State}
use Rattle.ipc_state.specs.Sound.{HasSoundParts}
use Rattle.ipc_engine.specs.Settling.{AreLinked, HaveSameObjects, OthersWait}
use Rattle.ipc_engine.specs.Step.{settle, replied}
use Rattle.ipc_engine.proofs.Buffers.{finish-state}
use Rattle.ipc_engine.proofs.Doing.{does-after, does-as}
use Rattle.ipc_engine.proofs.Going.{others-after, linked-after}
use Rattle.ipc_engine.proofs.asking.finish.Goals as goal

pub settle-requires-clause-parts : goal.settle-requires-clause-parts
settle-requires-clause-parts c =
    let s = c.args.state.now in
    let g = c.requires.good in
    subst (λ (t : State). HasSoundParts s.limits t) (finish-state s.state c.args.answer c.args.fired) (g.2.state g.1.parts)

pub settle-requires-clause-linked : goal.settle-requires-clause-linked
settle-requires-clause-linked c =
    let s = c.args.state.now in
    let g = c.requires.good in
    subst (λ (t : State). AreLinked t) (finish-state s.state c.args.answer c.args.fired) (linked-after s.limits g.0 c.args.touched
    (finish_firing s.state c.args.answer c.args.fired) g.1 g.2)

pub settle-requires-clause-others : goal.settle-requires-clause-others
settle-requires-clause-others c =
    let s = c.args.state.now in
    let g = c.requires.good in
    let f = finish_firing s.state c.args.answer c.args.fired in
    let is = finish-state s.state c.args.answer c.args.fired in
    let done = subst (λ (t : State). OthersWait s.limits t c.args.touched) is
    (others-after s.limits g.0 c.args.touched f g.1 g.2 (subst (λ (t : State). HaveSameObjects g.0 t) (sym is) g.3)) in
    subst (λ (o : Option Object). OthersWait s.limits s.state o) (sym c.if_done-touched.ensures)
    (choice (λ (o : Option Object). OthersWait s.limits s.state o) c.is_ok-is_done.result c.args.touched None (λ _. done)
    (λ bad. c.requires.refused (sym c.is_ok-is_done.ensures.value ∙ bad)))

pub returns-clause-does : goal.returns-clause-does
returns-clause-does c =
    let s = c.args.state.now in
    does-after (replied c.args.pid.0 c.args.serial (finish_firing s.state c.args.answer c.args.fired)).outcomes
    (c.push_reply.ensures.outcomes s.state) c.push_reply.ensures.capacity
    (does-as (ap (settle s.limits) (sym (finish-state s.state c.args.answer c.args.fired))) c.settle.ensures.does)
