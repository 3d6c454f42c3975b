use Rattle.std.proofs.Common.{◌≡◌, true, false, List, take, sym, subst, ◌∙◌, arith}
use Rattle.std.specs.Prelude.{All}
use Rattle.std.proofs.lemmas.List.{take_all}
use Rattle.std.proofs.lemmas.List.Elements.{All-more}
use Rattle.ipc_state.specs.State.{is_process}
use Rattle.ipc_state.specs.Touching.{object_of}
use Rattle.ipc_state.specs.Waiting.{PlainWaiting, IsSoundWaiting}
use Rattle.sysv_calls.specs.Concern.{concerns}
use Rattle.ipc_engine.specs.Settling.{MayBe}
use Rattle.ipc_engine.specs.Step.{can_resume}
use Rattle.ipc_engine.proofs.Lists.{found-at, nothing-found}
use Rattle.ipc_engine.proofs.settling.first_among.Goals as goal

pub can_go-requires-clause-sound : goal.can_go-requires-clause-sound
can_go-requires-clause-sound c =
    subst IsSoundWaiting (sym c.waiting-item.is) (c.requires.sound c.loop-waiting.waiting-index c.waiting-item.result c.loop-waiting-test.true)

pub can_go-requires-clause-process : goal.can_go-requires-clause-process
can_go-requires-clause-process c =
    subst (λ (w : PlainWaiting). is_process c.args.state.now.state w.pid.0 ≡ true) (sym c.waiting-item.is)
    (c.requires.linked c.loop-waiting.waiting-index c.waiting-item.result c.loop-waiting-test.true)

pub can_go-requires-clause-other : goal.can_go-requires-clause-other
can_go-requires-clause-other c =
    let s = c.args.state.now in
    subst (λ (w : PlainWaiting). ¬ MayBe c.args.among (object_of s.state w.pid.0 w.on) → can_resume s.limits s.state w ≡ false) (sym c.waiting-item.is)
    (c.requires.rest c.loop-waiting.waiting-index c.waiting-item.result c.loop-waiting-test.true)

pub can_go-requires-clause-spared : goal.can_go-requires-clause-spared
can_go-requires-clause-spared c =
    let s = c.args.state.now in
    subst (λ (w : PlainWaiting). concerns c.args.change w.call.kind ≡ false → can_resume s.limits s.state w ≡ false) (sym c.waiting-item.is)
    (c.requires.spared c.loop-waiting.waiting-index c.waiting-item.result c.loop-waiting-test.true)

pub returns-then-can_go : goal.returns-then-can_go
returns-then-can_go c =
    let s = c.args.state.now in
    let goes : can_resume s.limits s.state c.waiting-item.result ≡ true = sym c.can_go.ensures ∙ c.if-can_go.true in (
      c.waiting-item.result,
      found-at (can_resume s.limits s.state) c.args.calls.now c.loop-waiting.waiting-index c.waiting-item.result c.loop-waiting-test.true
          c.waiting-item.is c.loop-waiting.invariant goes,
      λ i. c.waiting-item.result.pid,
    )

pub loop-waiting-preserved : goal.loop-waiting-preserved
loop-waiting-preserved c =
    let s = c.args.state.now in
    All-more (λ (w : PlainWaiting). can_resume s.limits s.state w ≡ false) c.args.calls.now c.loop-waiting.waiting-index c.waiting-item.result
    c.loop-waiting-test.true
    c.loop-waiting.invariant
    (subst (λ (w : PlainWaiting). can_resume s.limits s.state w ≡ false) c.waiting-item.is (sym c.can_go.ensures ∙ c.if-can_go.false))

pub returns : goal.returns
returns c =
    let s = c.args.state.now in
    let all : take c.loop-waiting.waiting-index c.args.calls.now ≡ c.args.calls.now = take_all c.loop-waiting.waiting-index c.args.calls.now (omega arith) in
    nothing-found (can_resume s.limits s.state) c.args.calls.now
    (subst (λ (ws : List PlainWaiting). All (λ (w : PlainWaiting). can_resume s.limits s.state w ≡ false) ws) all c.loop-waiting.invariant)
