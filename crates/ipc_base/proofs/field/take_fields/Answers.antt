-- Number after number.
use Rattle.std.proofs.Common.{◌∙◌, ℕ, take, refl, subst, arith}
use Rattle.std.proofs.lemmas.List.{length-replicate, length-set}
use Rattle.ipc_base.proofs.FieldLists.{Taken, taken_next, none_next, taken_all}
use Rattle.ipc_base.proofs.field.take_fields.Goals as goal

pub loop-i-init : goal.loop-i-init
loop-i-init g c = (record { fit = tt; are = refl }, length-replicate {A = ℕ} g.row.N 0)

pub returns-in_err-number-clause-none : goal.returns-in_err-number-clause-none
returns-in_err-number-clause-none g c =
    rw c.from_residual.ensures (none_next c.args.sizes.now c.loop-i.i _ c.loop-i.numbers c.args.bytes.now c.loop-i.left.now
    (omega (arith, c.loop-i-test.true, c.told-sizes)) c.loop-i.invariant.0 c.in_err-number.ensures.none)

pub loop-i-preserved : goal.loop-i-preserved
loop-i-preserved g c = (
  taken_next c.args.sizes.now c.loop-i.i c.in_ok-number.number _ c.loop-i.numbers c.args.bytes.now c.loop-i.left.now c.in_ok-number.rest.now
      (omega (arith, c.loop-i-test.true, c.told-sizes)) (omega (arith, c.loop-i-test.true, c.loop-i.invariant.1)) c.loop-i.invariant.0
      c.in_ok-number.ensures.some.0 c.in_ok-number.ensures.some.1,
  length-set c.loop-i.numbers c.loop-i.i c.in_ok-number.number ∙ c.loop-i.invariant.1,
)

pub returns-clause-some : goal.returns-clause-some
returns-clause-some g c =
    let all : Taken c.args.sizes.now c.loop-i.numbers c.args.bytes.now c.loop-i.left.now =
    taken_all c.args.sizes.now g.row.N c.loop-i.numbers c.args.bytes.now c.loop-i.left.now c.told-sizes c.loop-i.invariant.1
    (subst (λ (n : ℕ). Taken (take n c.args.sizes.now) (take n c.loop-i.numbers) c.args.bytes.now c.loop-i.left.now)
    (omega (arith, c.loop-i-test.false, c.loop-i.auto.i-end)) c.loop-i.invariant.0) in
    (all.fit, all.are)
