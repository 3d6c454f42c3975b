use Rattle.std.proofs.Common.{◌≡◌, ◌∙◌, ◌≤◌, ℕ, List, take, get_or, sym, ap, subst}
use Rattle.std.specs.Prelude.{bit_and}
use Rattle.std.specs.List.{fold}
use Rattle.sysv_sem.specs.declared.operation.Operation.{Operation}
use Rattle.sysv_sem.specs.Bits.{bit_of}
use Rattle.sysv_sem.specs.Operation.{most_value, performed}
use Rattle.sysv_sem.specs.Trial.{value_of}
use Rattle.sysv_sem.proofs.Named.{none-names, unnamed-value}
use Rattle.sysv_sem.proofs.Trials.{value-at, value-fold, values, within}
use Rattle.sysv_sem.proofs.trial.value_before.Given.{Over}
use Rattle.sysv_sem.proofs.trial.value_before.Goals.{After-bit_of}
use Rattle.sysv_sem.proofs.trial.value_before.Goals as goal

-- what operations make of the value is what they leave
left : (g : Over) (c : After-bit_of g) (ops : List Operation)
    → fold (value_of c.args.num) (get_or c.args.semaphores.now c.args.num (record { value = 0; pid = record { 0 = 0 } })).value ops
    ≡ get_or (fold performed (values c.args.semaphores.now) ops) c.args.num 0
left g c ops =
    ap (λ (v : ℕ). fold (value_of c.args.num) v ops) (value-at c.args.semaphores.now c.args.num)
    ∙ sym (value-fold c.args.num (values c.args.semaphores.now) ops (within c.args.semaphores.now c.args.num c.requires.num))

pub value_of-requires-clause-range : goal.value_of-requires-clause-range
value_of-requires-clause-range g c k few =
    let b = (goal.at.value_of-requires-clause-range g c).After-bit_of in
    subst (λ (v : ℕ). v ≤ most_value) (sym (left g b (take k (g.L.OperationList.operations c.args.list.now)))) (c.requires.range k few)

pub returns-then-named-bit_of-eq0 : goal.returns-then-named-bit_of-eq0
returns-then-named-bit_of-eq0 g c =
    let b = (goal.at.returns-then-named-bit_of-eq0 g c).After-bit_of in
    let ops = take c.args.count (g.L.OperationList.operations c.args.list.now) in
    let free : bit_and c.args.named (bit_of c.args.num) ≡ 0 =
    ap (λ (n : ℕ). bit_and c.args.named n) (ap bit_of (sym c.from.ensures) ∙ sym c.bit_of.ensures) ∙ c.if-named-bit_of-eq0.true in
    sym (unnamed-value c.args.num ops (none-names c.args.num c.args.named ops free c.requires.named) _) ∙ left g b ops

pub returns-else-named-bit_of-eq0 : goal.returns-else-named-bit_of-eq0
returns-else-named-bit_of-eq0 g c =
    let b = (goal.at.returns-else-named-bit_of-eq0 g c).After-bit_of in
    c.value_of.ensures ∙ left g b (take c.args.count (g.L.OperationList.operations c.args.list.now))
