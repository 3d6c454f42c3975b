use Rattle.std.proofs.Common.{length, sym, subst, ap, ◌∙◌, arith, false}
use Rattle.std.proofs.Common.{Bool}
use Rattle.std.specs.Prelude.{◌||◌, None, Option}
use Rattle.ipc_wire.specs.Request.{plain_kind}
use Rattle.ipc_wire.specs.View.{plain_request}
use Rattle.ipc_state.specs.declared.parked.Object.{Object}
use Rattle.ipc_state.specs.Finish.{Tried, finish_of}
use Rattle.ipc_state.specs.Held.{Held}
use Rattle.ipc_limits.specs.declared.limits.Limits.{Limits}
use Rattle.ipc_state.specs.State.{State}
use Rattle.sysv_calls.specs.Concern.{change_of}
use Rattle.sysv_calls.specs.declared.concern.Change.{Change}
use Rattle.ipc_engine.specs.Changes.{is_marked}
use Rattle.ipc_engine.specs.Settling.{OthersWait, SparedWait, touched_by}
use Rattle.ipc_engine.specs.Step.{after, replied, settle, replied_or_joined, tried}
use Rattle.ipc_engine.proofs.Buffers.{finish-state, waits-kept}
use Rattle.ipc_engine.proofs.Doing.{does-as, does-from}
use Rattle.ipc_engine.proofs.Going.{refused-waits, spared-after}
use Rattle.ipc_engine.proofs.Marks.{done-marks}
use Rattle.ipc_engine.proofs.Resumes.{ended-of, good-here}
use Rattle.ipc_engine.proofs.Tries.{HasEnded}
use Rattle.ipc_engine.proofs.Asked.{ended-idle}
use Rattle.ipc_engine.proofs.asking.at_once.Goals as goal

pub finish-requires-clause-good : goal.finish-requires-clause-good
finish-requires-clause-good c =
    let s = c.args.state.now in
    let now = c.try_at_once-answer.new.state in
    let f = finish_of now.state c.try_at_once-answer.result.0 in
    good-here s.limits now.limits s.state now.state c.args.pid.0 c.try_at_once-answer.result.1 f (ap (λ (h : Held). h.limits) c.try_at_once-answer.ensures.held)
    (finish-state now.state c.try_at_once-answer.result.0 None) c.requires.sound c.requires.free
    (subst (λ (o : Option Object). HasEnded s.limits s.state c.args.pid.0 o f) (sym c.try_at_once-answer.ensures.touched)
    (ended-of s.limits s.state c.args.pid.0 (plain_kind c.args.request.now.kind) f c.requires.free c.try_at_once-answer.ensures.finish))

pub finish-requires-clause-spared : goal.finish-requires-clause-spared
finish-requires-clause-spared c =
    let s = c.args.state.now in
    let now = c.try_at_once-answer.new.state in
    let kind = plain_kind c.args.request.now.kind in
    let f = finish_of now.state c.try_at_once-answer.result.0 in
    let ended = ended-of s.limits s.state c.args.pid.0 kind f c.requires.free c.try_at_once-answer.ensures.finish in
    let wait = spared-after s.limits s.state c.args.pid.0 kind f c.requires.sound c.requires.free ended.good.wait
    (sym c.try_at_once-answer.ensures.finish) in
    subst (λ (l : Limits). SparedWait l now.state c.change_of.result) (sym (ap (λ (h : Held). h.limits) c.try_at_once-answer.ensures.held))
    (subst (λ (x : Change). SparedWait s.limits now.state x) (sym c.change_of.ensures)
    (subst (λ (t : State). SparedWait s.limits t (change_of kind)) (finish-state now.state c.try_at_once-answer.result.0 None) wait))

pub finish-requires-clause-refused : goal.finish-requires-clause-refused
finish-requires-clause-refused c bad =
    let s = c.args.state.now in
    let now = c.try_at_once-answer.new.state in
    subst (λ (l : Limits). OthersWait l now.state None) (sym (ap (λ (h : Held). h.limits) c.try_at_once-answer.ensures.held))
    (refused-waits s.limits s.state now.state c.args.pid.0 (plain_kind c.args.request.now.kind) c.try_at_once-answer.result.0 None c.requires.sound
    (sym c.try_at_once-answer.ensures.finish) bad)

pub finish-requires-clause-places : goal.finish-requires-clause-places
finish-requires-clause-places c =
    let s = c.args.state.now in
    let f = finish_of c.try_at_once-answer.new.state.state c.try_at_once-answer.result.0 in
    let good = (ended-of s.limits s.state c.args.pid.0 (plain_kind c.args.request.now.kind) f c.requires.free c.try_at_once-answer.ensures.finish).good in
    omega (arith, c.requires.places, ap length (waits-kept c.try_at_once-answer.new.state.state s.state c.try_at_once-answer.result.0 None good.wait))

pub returns-clause-does : goal.returns-clause-does
returns-clause-does c =
    let s = c.args.state.now in
    let f = finish_of c.try_at_once-answer.new.state.state c.try_at_once-answer.result.0 in
    does-as (ap (λ (t : Tried). replied_or_joined s.limits c.args.pid.0 (plain_request c.args.request.now) s.state t) c.try_at_once-answer.ensures.finish)
    (does-from (λ h. after (replied c.args.pid.0 c.args.request.now.serial f) (settle h.limits)) c.try_at_once-answer.ensures.held c.finish.ensures.does)

pub returns-clause-buffer : goal.returns-clause-buffer
returns-clause-buffer c = omega (arith, c.try_at_once-answer.ensures.spare, c.finish.ensures.room)

pub returns-clause-marked : goal.returns-clause-marked
returns-clause-marked c o =
    let s = c.args.state.now in
    let tries = c.try_at_once-answer in
    c.finish.ensures.marked o
    ∙ ap (λ (b : Bool). is_marked c.args.changed.now.marks.items o || b)
    (done-marks tries.new.state.state tries.result.0 None tries.result.1 (touched_by s.state c.args.pid.0 (plain_kind c.args.request.now.kind))
    (tried s.limits s.state c.args.pid.0 false (plain_kind c.args.request.now.kind)) o tries.ensures.finish tries.ensures.touched)

pub returns-clause-idle : goal.returns-clause-idle
returns-clause-idle c =
    let s = c.args.state.now in
    let tries = c.try_at_once-answer in
    ended-idle s.state tries.new.state.state c.args.pid.0 (plain_request c.args.request.now) tries.result.0 None
    (tried s.limits s.state c.args.pid.0 false (plain_kind c.args.request.now.kind)) c.is_err-is_refused.result c.only_asks-looks.result
    tries.ensures.finish c.is_err-is_refused.ensures.value (c.only_asks-looks.ensures s.state c.args.pid.0 tries.ensures.touched)
