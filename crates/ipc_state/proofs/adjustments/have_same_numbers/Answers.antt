use Rattle.std.proofs.Common.{refl, arith}
use Rattle.ipc_state.proofs.Clearing.{same-numbers, numbers-at, same-count}
use Rattle.ipc_state.proofs.adjustments.have_same_numbers.Goals as goal

pub returns-then-items-place : goal.returns-then-items-place
returns-then-items-place g c = (
  λ no. cc,
  λ same. absurd (c.if-items-place.true
      (numbers-at c.args.items.now c.args.others.now same c.loop-place.place c.index-items-place.result c.index-others-place.result
      c.loop-place-test.true)),
)

pub returns-then-items-others : goal.returns-then-items-others
returns-then-items-others g c = (λ no. cc, λ same. absurd (c.if-items-others.true (same-count c.args.items.now c.args.others.now same)))

pub returns : goal.returns
returns g c = (
  λ _. same-numbers c.args.items.now c.args.others.now c.if-items-others.false
      (λ k d e within. c.loop-place.invariant k d e (omega (arith, within, c.loop-place-test.false))),
  λ _. refl,
)
