use Rattle.std.proofs.Common.{subst, sym}
use Rattle.std.proofs.lemmas.List.Elements.{All-more}
use Rattle.ipc_state.specs.Waiting.{IsSoundWaiting}
use Rattle.ipc_state.proofs.waits.are_sound.Goals as goal

pub loop-waiting-preserved : goal.loop-waiting-preserved
loop-waiting-preserved c =
    All-more IsSoundWaiting c.args.calls.now c.loop-waiting.waiting-index c.waiting-item.result c.loop-waiting-test.true c.loop-waiting.invariant
    (subst IsSoundWaiting c.waiting-item.is (c.is_sound.ensures.0 c.if-not-is_sound.false))

pub returns-then-not-is_sound : goal.returns-then-not-is_sound
returns-then-not-is_sound c = (
  λ no. cc,
  λ all. absurd (let yes = c.is_sound.ensures.1
      (subst IsSoundWaiting (sym c.waiting-item.is) (all c.loop-waiting.waiting-index c.waiting-item.result c.loop-waiting-test.true)) in
      let no = c.if-not-is_sound.true in cc),
)
