-- The number of one is looked at after that of another.
use Rattle.std.proofs.Common.{◌≡◌, ℕ, ◌+◌, ◌<◌, [], length, get_or, drop, true, refl, sym, ◌∙◌, arith, eq-eqb}
use Rattle.std.specs.Prelude.{is_some, nat_eq}
use Rattle.std.proofs.lemmas.List.{drop_more, drop_all}
use Rattle.ipc_base.specs.Objects.{PlainObjects}
use Rattle.ipc_base.specs.Table.{value_at}
use Rattle.ipc_base.proofs.CallerLemmas.{other_key}
use Rattle.ipc_checkpoint.proofs.Keeping.{seen-at}
use Rattle.ipc_checkpoint.proofs.saving.has.Goals as goal

first : (os : PlainObjects) (i n : ℕ) → i < length os → (get_or os i (0, [])).0 ≡ n → is_some (value_at nat_eq (drop i os) n) ≡ true
first os i n less is = rw (drop_more os i (0, []) less) (rw (eq-eqb (get_or os i (0, [])).0 n is) refl)

later : (os : PlainObjects) (i n : ℕ) → i < length os → ((get_or os i (0, [])).0 ≡ n → ⊥)
    → is_some (value_at nat_eq (drop i os) n) ≡ is_some (value_at nat_eq (drop (i + 1) os) n)
later os i n less other = rw (drop_more os i (0, []) less) (rw (other_key (get_or os i (0, [])).0 n other) refl)

pub returns-then-number : goal.returns-then-number
returns-then-number g c =
    let os = g.O.Objects.objects c.args.objects.now in
    let at = seen-at (λ o. o.0) os c.loop-i.i (0, []) c.number.result c.number.ensures in
    sym (c.loop-i.invariant ∙ first os c.loop-i.i c.args.number at.0 (at.1 ∙ c.if-number.true))

pub loop-i-preserved : goal.loop-i-preserved
loop-i-preserved g c =
    let os = g.O.Objects.objects c.args.objects.now in
    let at = seen-at (λ o. o.0) os c.loop-i.i (0, []) c.number.result c.number.ensures in
    c.loop-i.invariant ∙ later os c.loop-i.i c.args.number at.0 (λ same. absurd (omega (arith, same, at.1, c.if-number.false)))

pub returns : goal.returns
returns g c =
    let os = g.O.Objects.objects c.args.objects.now in
    let none : drop c.loop-i.i os ≡ [] = drop_all c.loop-i.i os (omega (arith, c.loop-i-test.false, c.count-i-end.ensures.count)) in
    sym (c.loop-i.invariant ∙ rw none refl)
