use Rattle.std.proofs.Common.{subst, sym}
use Rattle.std.proofs.lemmas.List.Elements.{All-more}
use Rattle.ipc_state.specs.Waiting.{IsSoundWaiting}
use Rattle.ipc_engine.specs.Sound.{HasToWait}
use Rattle.ipc_engine.proofs.settling.all_have_place.Goals as goal

pub has_place-requires : goal.has_place-requires
has_place-requires c =
    subst IsSoundWaiting (sym c.waiting-item.is) (c.requires c.loop-waiting.waiting-index c.waiting-item.result c.loop-waiting-test.true)

pub loop-waiting-preserved : goal.loop-waiting-preserved
loop-waiting-preserved c =
    let s = c.args.state.now in
    All-more (HasToWait s.limits s.state) c.args.calls.now c.loop-waiting.waiting-index c.waiting-item.result c.loop-waiting-test.true
    c.loop-waiting.invariant
    (subst (HasToWait s.limits s.state) c.waiting-item.is (c.has_place.ensures.0 c.if-not-has_place.false))

pub returns-then-not-has_place : goal.returns-then-not-has_place
returns-then-not-has_place c = (
  λ no. cc,
  λ all. absurd (let s = c.args.state.now in
      let yes = c.has_place.ensures.1 (subst (HasToWait s.limits s.state) (sym c.waiting-item.is)
      (all c.loop-waiting.waiting-index c.waiting-item.result c.loop-waiting-test.true)) in
      let no = c.if-not-has_place.true in cc),
)
