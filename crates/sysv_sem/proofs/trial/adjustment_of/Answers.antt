use Rattle.std.proofs.Common.{◌≡◌, ◌<◌, ◌+◌, ◌∙◌, ℤ, length, take, sym, ap, subst, refl, arith, to_z, of_z, FitsSigned, rules}
use Rattle.std.specs.Int.{w16}
use Rattle.std.specs.List.{fold}
use Rattle.std.proofs.lemmas.Int.{to_z-of_z}
use Rattle.sysv_sem.specs.Trial.{adjustment_of}
use Rattle.sysv_sem.proofs.Trials.{fold-next}
use Rattle.sysv_sem.proofs.trial.adjustment_of.Goals.{After-at, After-loop-place}
use Rattle.sysv_sem.proofs.trial.adjustment_of.Goals as goal

pub loop-place-init : goal.loop-place-init
loop-place-init g c = refl

pub adjust-adjustment-requires : goal.adjust-adjustment-requires
adjust-adjustment-requires g c =
    let ops = g.L.OperationList.operations c.args.list.now in
    let within : c.loop-place.place < length ops = omega (arith, c.loop-place-test.true, c.requires.count) in
    let start : to_z w16 (of_z w16 c.args.adjustment) ≡ c.args.adjustment = to_z-of_z w16 c.args.adjustment (search rules) in
    subst (FitsSigned w16)
    (fold-next (adjustment_of c.args.num) c.args.adjustment ops c.loop-place.place c.at.result within c.at.ensures
    ∙ sym (ap (λ (a : ℤ). adjustment_of c.args.num a c.at.result) (c.loop-place.invariant
    ∙ ap (λ (a : ℤ). fold (adjustment_of c.args.num) a (take c.loop-place.place ops)) start)))
    (c.requires.range (c.loop-place.place + 1) (omega (arith, c.loop-place-test.true)))

pub loop-place-preserved : goal.loop-place-preserved
loop-place-preserved g c =
    let ops = g.L.OperationList.operations c.args.list.now in
    let within : c.loop-place.place < length ops = omega (arith, c.loop-place-test.true, c.requires.count) in
    let fit : FitsSigned w16 c.adjust-adjustment.result = search rules in
    to_z-of_z w16 c.adjust-adjustment.result fit ∙ c.adjust-adjustment.ensures
    ∙ ap (λ (a : ℤ). adjustment_of c.args.num a c.at.result) c.loop-place.invariant
    ∙ sym (fold-next (adjustment_of c.args.num) (to_z w16 (of_z w16 c.args.adjustment)) ops c.loop-place.place c.at.result within c.at.ensures)

pub returns : goal.returns
returns g c =
    let ops = g.L.OperationList.operations c.args.list.now in
    let all : c.loop-place.place ≡ c.args.count = omega (arith, c.loop-place-test.false, c.loop-place.auto.place-end) in
    let start : to_z w16 (of_z w16 c.args.adjustment) ≡ c.args.adjustment = to_z-of_z w16 c.args.adjustment (search rules) in
    c.loop-place.invariant ∙ (λ i. fold (adjustment_of c.args.num) (start i) (take (all i) ops))
