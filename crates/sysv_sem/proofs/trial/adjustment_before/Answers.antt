use Rattle.std.proofs.Common.{◌≡◌, ◌∙◌, ℕ, ℤ, List, take, sym, ap, subst, to_z, of_z, FitsSigned, rules}
use Rattle.std.specs.Prelude.{bit_and}
use Rattle.std.specs.Int.{w16}
use Rattle.std.specs.List.{fold}
use Rattle.std.proofs.lemmas.Int.{to_z-of_z}
use Rattle.sysv_sem.specs.declared.operation.Operation.{Operation}
use Rattle.sysv_sem.specs.Bits.{bit_of}
use Rattle.sysv_sem.specs.Operation.{adjusted}
use Rattle.sysv_sem.specs.Trial.{adjustment_of}
use Rattle.sysv_sem.proofs.Named.{none-names, unnamed-adjustment}
use Rattle.sysv_sem.proofs.Trials.{adjustment-fold}
use Rattle.sysv_sem.proofs.trial.adjustment_before.Given.{Over}
use Rattle.sysv_sem.proofs.trial.adjustment_before.Goals.{After-bit_of}
use Rattle.sysv_sem.proofs.trial.adjustment_before.Goals as goal

fit : (g : Over) (c : After-bit_of g) → FitsSigned w16 c.adjustment-adjustment.result
fit g c = search rules

-- what operations make of the adjustment is what they leave
left : (g : Over) (c : After-bit_of g) (ops : List Operation)
    → fold (adjustment_of c.args.operation.num) (to_z w16 (of_z w16 c.adjustment-adjustment.result)) ops
    ≡ fold adjusted (g.L.OperationList.adjustments c.args.list.now) ops c.args.operation.num
left g c ops =
    ap (λ (a : ℤ). fold (adjustment_of c.args.operation.num) a ops)
    (to_z-of_z w16 c.adjustment-adjustment.result (fit g c) ∙ c.adjustment-adjustment.ensures)
    ∙ sym (adjustment-fold c.args.operation.num (g.L.OperationList.adjustments c.args.list.now) ops)

pub adjustment_of-requires-clause-range : goal.adjustment_of-requires-clause-range
adjustment_of-requires-clause-range g c k few =
    let b = (goal.at.adjustment_of-requires-clause-range g c).After-bit_of in
    subst (FitsSigned w16) (sym (left g b (take k (g.L.OperationList.operations c.args.list.now))))
    (c.requires.range k few (subst (FitsSigned w16) c.adjustment-adjustment.ensures (fit g b)))

pub returns-then-named-bit_of-eq0 : goal.returns-then-named-bit_of-eq0
returns-then-named-bit_of-eq0 g c undone =
    let b = (goal.at.returns-then-named-bit_of-eq0 g c).After-bit_of in
    let ops = take c.args.count (g.L.OperationList.operations c.args.list.now) in
    let num = c.args.operation.num in
    let free : bit_and c.args.named (bit_of num) ≡ 0 =
    ap (λ (n : ℕ). bit_and c.args.named n) (ap bit_of (sym c.from.ensures) ∙ sym c.bit_of.ensures) ∙ c.if-named-bit_of-eq0.true in
    sym (unnamed-adjustment num ops (none-names num c.args.named ops free c.requires.named) _) ∙ left g b ops

pub returns-else-named-bit_of-eq0 : goal.returns-else-named-bit_of-eq0
returns-else-named-bit_of-eq0 g c undone =
    let b = (goal.at.returns-else-named-bit_of-eq0 g c).After-bit_of in
    let fits : FitsSigned w16 c.adjustment_of.result = search rules in
    to_z-of_z w16 c.adjustment_of.result fits ∙ c.adjustment_of.ensures ∙ left g b (take c.args.count (g.L.OperationList.operations c.args.list.now))
