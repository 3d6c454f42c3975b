use Rattle.std.proofs.Common.{◌≡◌, ◌<◌, ◌∙◌, ◌≤◌, ℕ, length, take, sym, ap, subst, refl, arith}
use Rattle.std.specs.List.{fold}
use Rattle.sysv_sem.specs.Operation.{most_value}
use Rattle.sysv_sem.specs.Trial.{value_of}
use Rattle.sysv_sem.proofs.Trials.{fold-next}
use Rattle.sysv_sem.proofs.trial.value_of.Goals as goal

pub loop-place-init : goal.loop-place-init
loop-place-init g c = refl

pub change-value-requires : goal.change-value-requires
change-value-requires g c =
    subst (λ (v : ℕ). v ≤ most_value) (sym c.loop-place.invariant) (c.requires.range c.loop-place.place (omega (arith, c.loop-place-test.true)))

pub loop-place-preserved : goal.loop-place-preserved
loop-place-preserved g c =
    let ops = g.L.OperationList.operations c.args.list.now in
    let within : c.loop-place.place < length ops = omega (arith, c.loop-place-test.true, c.requires.count) in
    c.change-value.ensures ∙ ap (λ (v : ℕ). value_of c.args.num v c.at.result) c.loop-place.invariant
    ∙ sym (fold-next (value_of c.args.num) c.args.value ops c.loop-place.place c.at.result within c.at.ensures)

pub returns : goal.returns
returns g c =
    let all : c.loop-place.place ≡ c.args.count = omega (arith, c.loop-place-test.false, c.loop-place.auto.place-end) in
    c.loop-place.invariant ∙ ap (λ (n : ℕ). fold (value_of c.args.num) c.args.value (take n (g.L.OperationList.operations c.args.list.now))) all
