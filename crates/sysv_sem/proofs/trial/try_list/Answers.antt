use Rattle.std.proofs.Common.{◌≡◌, ◌<◌, ◌≤◌, ◌∙◌, ℕ, ℤ, List, length, take, get_or, sym, ap, subst, arith, rules, FitsSigned}
use Rattle.std.specs.Prelude.{bit_or, ◌%◌}
use Rattle.std.specs.Int.{bit_at, w16}
use Rattle.std.specs.List.{fold}
use Rattle.std.proofs.lemmas.Int.{to_z-of_z}
use Rattle.std.proofs.lemmas.List.Elements.{All-map, All-more, All-weaker}
use Rattle.std.proofs.lemmas.Option.{get_or_from_slice_get}
use Rattle.sysv_sem.specs.declared.operation.Operation.{Operation}
use Rattle.sysv_sem.specs.declared.operation.Verdict.{Verdict}
use Rattle.sysv_sem.specs.declared.set.Semaphore.{Semaphore}
use Rattle.sysv_sem.specs.Bits.{bit_of}
use Rattle.sysv_sem.specs.Operation.{adjusted, judged, most_value, performed, trial_of}
use Rattle.sysv_sem.proofs.Named.{now-named, still-named}
use Rattle.sysv_sem.proofs.Trials.{Passed-done, Passed-more, Passed-none, all-bounded, judged-alike, stopped, values}
use Rattle.sysv_sem.proofs.trial.try_list.Given.{Over}
use Rattle.sysv_sem.proofs.trial.try_list.Goals.{After-judge}
use Rattle.sysv_sem.proofs.trial.try_list.Goals as goal

-- the operation at a place
module _ (g : Over) (c : After-judge g) where
  abbrev operations : List Operation
  operations = g.L.OperationList.operations c.args.list.now

  abbrev held : ℕ → ℤ
  held = g.L.OperationList.adjustments c.args.list.now

  abbrev o : Operation
  o = c.at-operation.result

  inside : c.loop-place.place < length operations
  inside = omega (arith, c.loop-place-test.true, c.len-place-end.ensures)

  here : get_or operations c.loop-place.place o ≡ o
  here = get_or_from_slice_get operations c.loop-place.place o o c.at-operation.ensures

  -- it meets what the definition says
  meets : (v : Verdict) → c.judge.result ≡ v
      → judged (get_or (fold performed (values c.args.semaphores.now) (take c.loop-place.place operations)) o.num 0)
      (fold adjusted held (take c.loop-place.place operations) o.num) o ≡ v
  meets v is =
      let fit : FitsSigned w16 c.adjustment_before-adjustment.result = search rules in
      sym (judged-alike c.value_before-value.result _ _ o (λ undone. to_z-of_z w16 _ fit ∙ c.adjustment_before-adjustment.ensures undone)
      ∙ ap (λ (n : ℕ). judged n (fold adjusted held (take c.loop-place.place operations) o.num) o) c.value_before-value.ensures)
      ∙ (sym c.judge.ensures ∙ is)

pub loop-place-init : goal.loop-place-init
loop-place-init g c =
    record {
      passed = Passed-none _ _ _ (all-bounded _ (All-map (λ v. v ≤ most_value) (λ (x : Semaphore). x.value) c.args.semaphores.now c.requires.values));
      named = λ k d low. absurd (omega (arith, low));
    }

pub value_before-value-requires-clause-named : goal.value_before-value-requires-clause-named
value_before-value-requires-clause-named g c = c.loop-place.invariant.named

pub value_before-value-requires-clause-range : goal.value_before-value-requires-clause-range
value_before-value-requires-clause-range g c k few = c.loop-place.invariant.passed.values_in_range k c.at-operation.result.num few

pub adjustment_before-adjustment-requires-clause-named : goal.adjustment_before-adjustment-requires-clause-named
adjustment_before-adjustment-requires-clause-named g c = c.loop-place.invariant.named

pub adjustment_before-adjustment-requires-clause-range : goal.adjustment_before-adjustment-requires-clause-range
adjustment_before-adjustment-requires-clause-range g c k few = c.loop-place.invariant.passed.adjustments_in_range k c.at-operation.result.num few

pub judge-requires : goal.judge-requires
judge-requires g c =
    subst (λ (v : ℕ). v ≤ most_value) (sym c.value_before-value.ensures)
    (c.loop-place.invariant.passed.values_in_range c.loop-place.place c.at-operation.result.num (omega arith))

pub returns-in-Waits : goal.returns-in-Waits
returns-in-Waits g c =
    let j = (goal.at.returns-in-Waits g c).After-judge in
    sym (ap trial_of (stopped _ _ _ _ _ c.loop-place.invariant.passed (inside g j) (sym (here g j)) _ (meets g j _ c.in-Waits.is)))

pub returns-in-OutOfRange : goal.returns-in-OutOfRange
returns-in-OutOfRange g c =
    let j = (goal.at.returns-in-OutOfRange g c).After-judge in
    sym (ap trial_of (stopped _ _ _ _ _ c.loop-place.invariant.passed (inside g j) (sym (here g j)) _ (meets g j _ c.in-OutOfRange.is)))

pub loop-place-preserved : goal.loop-place-preserved
loop-place-preserved g c =
    let j = (goal.at.loop-place-preserved g c).After-judge in
    let word = bit_or c.loop-place.named c.bit_of-named.result in
    let P : Operation → Type 0 = λ o. bit_at word (o.num % 64) ≡ 1 in
    record {
      passed = Passed-more _ _ _ _ _ c.loop-place.invariant.passed (inside g j) (sym (here g j)) (meets g j _ c.in-Passes.is);
      named = All-more P (operations g j) c.loop-place.place c.at-operation.result (inside g j)
          (All-weaker (λ (o : Operation). bit_at c.loop-place.named (o.num % 64) ≡ 1) P (λ o. still-named c.loop-place.named c.bit_of-named.result o.num)
          (take c.loop-place.place (operations g j)) c.loop-place.invariant.named)
          (subst P (sym (here g j)) (now-named c.loop-place.named c.bit_of-named.result c.at-operation.result.num
          (c.bit_of-named.ensures ∙ ap bit_of c.from.ensures)));
    }

pub returns : goal.returns
returns g c =
    sym (ap trial_of (Passed-done _ _ _ c.loop-place.place (omega (arith, c.loop-place-test.false, c.len-place-end.ensures)) c.loop-place.invariant.passed))
