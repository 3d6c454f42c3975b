use Rattle.std.proofs.Common.{◌≡◌, ◌<◌, length, sym, subst, ap, ◌∙◌, arith, false}
use Rattle.std.proofs.Common.{Bool}
use Rattle.std.specs.Prelude.{◌||◌, None, Option}
use Rattle.ipc_limits.specs.declared.limits.Limits.{Limits}
use Rattle.ipc_state.specs.declared.parked.Object.{Object}
use Rattle.ipc_state.specs.Finish.{Tried, finish_firing}
use Rattle.ipc_state.specs.Held.{Held}
use Rattle.ipc_state.specs.State.{State}
use Rattle.ipc_state.specs.Waiting.{awaited_by}
use Rattle.ipc_state.proofs.CallerLemmas.{room-waiting}
use Rattle.sysv_calls.specs.Concern.{change_of}
use Rattle.sysv_calls.specs.declared.concern.Change.{Change}
use Rattle.ipc_engine.specs.Changes.{is_marked}
use Rattle.ipc_engine.specs.Settling.{OthersWait, SparedWait, touched_by}
use Rattle.ipc_engine.specs.Step.{after, replied, settle, replied_or_joined, joins, tried}
use Rattle.ipc_engine.proofs.Buffers.{finish-state, waits-kept}
use Rattle.ipc_engine.proofs.Doing.{does-as, does-from}
use Rattle.ipc_engine.proofs.Going.{refused-waits, spared-after}
use Rattle.ipc_engine.proofs.Marks.{done-marks, waits-marks}
use Rattle.ipc_engine.proofs.Resumes.{ended-of, good-here}
use Rattle.ipc_engine.proofs.Soundness.{linked}
use Rattle.ipc_engine.proofs.Tries.{HasEnded}
use Rattle.ipc_engine.proofs.Asked.{tried-idle}
use Rattle.ipc_engine.specs.Idle.{ends_idle, is_late}
use Rattle.ipc_engine.proofs.asking.try_once.Goals.{In-Finishes}
use Rattle.ipc_engine.proofs.asking.try_once.Goals as goal

-- what it leaves, if it has come to its end
ended : (c : In-Finishes)
    → HasEnded c.args.state.now.limits c.args.state.now.state c.args.pid.0 (touched_by c.args.state.now.state c.args.pid.0 c.args.parked.kind)
    (finish_firing c.try_kept.new.state.state c.in-Finishes.answer c.in-Finishes.fired)
ended c =
    let s = c.args.state.now in
    ended-of s.limits s.state c.args.pid.0 c.args.parked.kind
    (finish_firing c.try_kept.new.state.state c.in-Finishes.answer c.in-Finishes.fired) c.requires.free c.in-Finishes.ensures.finish

limits : (c : In-Finishes) → c.try_kept.new.state.limits ≡ c.args.state.now.limits
limits c = ap (λ (h : Held). h.limits) c.try_kept.ensures.held

pub finish-requires-clause-good : goal.finish-requires-clause-good
finish-requires-clause-good c =
    let s = c.args.state.now in
    let now = c.try_kept.new.state in
    let f = finish_firing now.state c.in-Finishes.answer c.in-Finishes.fired in
    good-here s.limits now.limits s.state now.state c.args.pid.0 c.touched_by-touched.result f (limits (goal.at.finish-requires-clause-good c).In-Finishes)
    (finish-state now.state c.in-Finishes.answer c.in-Finishes.fired) c.requires.sound c.requires.free
    (subst (λ (o : Option Object). HasEnded s.limits s.state c.args.pid.0 o f) (sym c.touched_by-touched.ensures) (ended
    (goal.at.finish-requires-clause-good c).In-Finishes))

pub finish-requires-clause-spared : goal.finish-requires-clause-spared
finish-requires-clause-spared c =
    let s = c.args.state.now in
    let now = c.try_kept.new.state in
    let f = finish_firing now.state c.in-Finishes.answer c.in-Finishes.fired in
    let ends = (goal.at.finish-requires-clause-spared c).In-Finishes in
    let change : change_of c.args.parked.kind ≡ c.change_of-change.result =
    ap change_of (sym c.lend.ensures.kind) ∙ sym c.change_of-change.ensures in
    let wait = spared-after s.limits s.state c.args.pid.0 c.args.parked.kind f c.requires.sound c.requires.free (ended ends).good.wait
    (sym c.in-Finishes.ensures.finish) in
    subst (λ (l : Limits). SparedWait l now.state c.change_of-change.result) (sym (limits ends))
    (subst (λ (x : Change). SparedWait s.limits now.state x) change
    (subst (λ (t : State). SparedWait s.limits t (change_of c.args.parked.kind)) (finish-state now.state c.in-Finishes.answer c.in-Finishes.fired) wait))

pub finish-requires-clause-refused : goal.finish-requires-clause-refused
finish-requires-clause-refused c bad =
    let s = c.args.state.now in
    let now = c.try_kept.new.state in
    subst (λ (l : Limits). OthersWait l now.state None) (sym (limits (goal.at.finish-requires-clause-refused c).In-Finishes))
    (refused-waits s.limits s.state now.state c.args.pid.0 c.args.parked.kind c.in-Finishes.answer c.in-Finishes.fired c.requires.sound
    (sym c.in-Finishes.ensures.finish) bad)

pub finish-requires-clause-places : goal.finish-requires-clause-places
finish-requires-clause-places c =
    let good = (ended (goal.at.finish-requires-clause-places c).In-Finishes).good in
    omega (
      arith,
      c.requires.places,
      ap length (waits-kept c.try_kept.new.state.state c.args.state.now.state c.in-Finishes.answer c.in-Finishes.fired good.wait),
    )

pub returns-in-Finishes-clause-does : goal.returns-in-Finishes-clause-does
returns-in-Finishes-clause-does c =
    let s = c.args.state.now in
    let f = finish_firing c.try_kept.new.state.state c.in-Finishes.answer c.in-Finishes.fired in
    let limits = c.try_kept.new.state.limits in
    does-as (ap (λ (t : Tried). replied_or_joined s.limits c.args.pid.0 c.args.parked s.state t) c.in-Finishes.ensures.finish)
    (does-from (λ h. after (replied c.args.pid.0 c.args.parked.serial f) (settle h.limits)) c.try_kept.ensures.held
    (does-as (λ i. after (replied c.args.pid.0 (c.serial-serial.ensures i) f) (settle limits)) c.finish.ensures.does))

pub join-requires-clause-room : goal.join-requires-clause-room
join-requires-clause-room c =
    let s = c.args.state.now in
    let fewer = room-waiting s.limits s.state c.args.pid.0 c.requires.sound.parts c.requires.free (linked s.limits s.state c.requires.sound)
    c.requires.process in
    subst (λ (h : Held). length h.state.wait < h.waits) (sym c.in-Waits.ensures.kept.1) (omega (arith, fewer, c.requires.waits))

pub returns-in-Waits-clause-does : goal.returns-in-Waits-clause-does
returns-in-Waits-clause-does c =
    let s = c.args.state.now in
    let kept = c.in-Waits.ensures.kept in
    let pid = c.args.pid.0 in
    does-as (ap (λ (t : Tried). replied_or_joined s.limits pid c.args.parked s.state t) c.in-Waits.ensures.finish)
    (does-from (λ h. joins h.state pid c.args.parked (awaited_by c.args.parked.kind)) kept.1
    (does-as (λ i. joins c.try_kept.new.state.state pid (kept.0 i) (awaited_by (kept.0 i).kind)) c.join.ensures.does))

pub returns-in-Finishes-clause-marked : goal.returns-in-Finishes-clause-marked
returns-in-Finishes-clause-marked c o =
    let s = c.args.state.now in
    c.finish.ensures.marked o
    ∙ ap (λ (b : Bool). is_marked c.args.changed.now.marks.items o || b)
    (done-marks c.try_kept.new.state.state c.in-Finishes.answer c.in-Finishes.fired c.touched_by-touched.result
    (touched_by s.state c.args.pid.0 c.args.parked.kind) (tried s.limits s.state c.args.pid.0 false c.args.parked.kind) o c.in-Finishes.ensures.finish
    c.touched_by-touched.ensures)

pub returns-in-Waits-clause-marked : goal.returns-in-Waits-clause-marked
returns-in-Waits-clause-marked c o =
    let s = c.args.state.now in
    waits-marks (is_marked c.args.changed.now.marks.items o) (touched_by s.state c.args.pid.0 c.args.parked.kind)
    (tried s.limits s.state c.args.pid.0 false c.args.parked.kind) o c.in-Waits.ensures.finish

pub returns-in-Finishes-clause-idle : goal.returns-in-Finishes-clause-idle
returns-in-Finishes-clause-idle c =
    let s = c.args.state.now in
    tried-idle s.state c.try_kept.new.state.state c.args.pid.0 c.args.parked c.in-Finishes.answer c.in-Finishes.fired
    (tried s.limits s.state c.args.pid.0 false c.args.parked.kind) c.is_err-is_refused.result c.requires.may c.in-Finishes.ensures.finish
    c.is_err-is_refused.ensures.value

pub returns-in-Waits-clause-idle : goal.returns-in-Waits-clause-idle
returns-in-Waits-clause-idle c =
    let kept = c.in-Waits.ensures.kept in
    let pid = c.args.pid.0 in
    c.join.ensures.idle
    ∙ ((λ i. is_late (kept.1 i).state pid (kept.0 i) (awaited_by (kept.0 i).kind)) ∙ ap (ends_idle c.args.state.now.state pid c.args.parked)
    c.in-Waits.ensures.finish)
