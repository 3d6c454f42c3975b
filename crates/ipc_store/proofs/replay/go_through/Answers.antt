-- One record more is gone through, or the bytes are no records that go on from here.
use Rattle.std.proofs.Common.{◌≡◌, ◌+◌, ◌-◌, ℕ, List, Option, Some, None, length, take, drop, refl, sym, ap, ◌∙◌, subst, arith}
use Rattle.std.proofs.lemmas.Bool.{false≢true}
use Rattle.std.proofs.lemmas.List.{take_all, length-drop}
use Rattle.std.proofs.lemmas.Option.{same_Some}
use Rattle.ipc_limits.specs.declared.limits.Limits.{Limits}
use Rattle.ipc_state.specs.State.{State}
use Rattle.ipc_engine.specs.Engine.{IsForProcess}
use Rattle.ipc_engine.specs.Event.{PlainEvent}
use Rattle.ipc_engine.specs.Step.{step}
use Rattle.ipc_engine.specs.View.{plain_event}
use Rattle.ipc_image.specs.Records.{record_bytes, BeginsWith}
use Rattle.ipc_store.proofs.Replaying.{GoneThrough, gone_more, gone_refused, gone_only, record_left}
use Rattle.ipc_store.proofs.replay.go_through.Goals as goal

rest_is : (bytes : List ℕ) (at : ℕ) → take (length bytes - at) (drop at bytes) ≡ drop at bytes
rest_is bytes at = take_all (length bytes - at) (drop at bytes) (omega (arith, length-drop at bytes))

begins_slice : (bytes : List ℕ) (at : ℕ) (e : PlainEvent) → BeginsWith (drop at bytes) e → BeginsWith (take (length bytes - at) (drop at bytes)) e
begins_slice bytes at e is = subst (λ (l : List ℕ). BeginsWith l e) (sym (rest_is bytes at)) is

begins_rest : (bytes : List ℕ) (at : ℕ) (e : PlainEvent) → BeginsWith (take (length bytes - at) (drop at bytes)) e → BeginsWith (drop at bytes) e
begins_rest bytes at e is = subst (λ (l : List ℕ). BeginsWith l e) (rest_is bytes at) is

same_event : (n m : ℕ) (e f : PlainEvent) → ◌≡◌ {A = Option (ℕ × PlainEvent)} (Some (n, e)) (Some (m, f)) → f ≡ e
same_event n m e f is = sym (ap (λ (found : ℕ × PlainEvent). found.1) (same_Some (n, e) (m, f) is))

no_event : (found : ℕ × PlainEvent) → ◌≡◌ {A = Option (ℕ × PlainEvent)} None (Some found) → ⊥
no_event found is = cc

pub returns-in_default-clause-only : goal.returns-in_default-clause-only
returns-in_default-clause-only c = λ events s are.
    absurd (gone_refused _ _ _ _ _ c.loop-at.invariant.gone c.loop-at-test.true
    (λ f is for_one. no_event _ (c.in_default.ensures.only f (begins_slice c.args.records.now c.loop-at.at f is))) events s are)

pub returns-then-not-is_for_process-clause-only : goal.returns-then-not-is_for_process-clause-only
returns-then-not-is_for_process-clause-only c = λ events s are.
    let e = plain_event c.in-Some.event in
    absurd (gone_refused _ _ _ _ _ c.loop-at.invariant.gone c.loop-at-test.true
    (λ f is for_one.
    let same = same_event c.in-Some.len (length (record_bytes f)) e f (c.in-Some.ensures.only f (begins_slice c.args.records.now c.loop-at.at f is)) in
    false≢true (c.if-not-is_for_process.ensures.1 (subst (λ (x : PlainEvent). IsForProcess c.loop-at.engine.state x) same for_one))) events s are)

pub loop-at-smaller : goal.loop-at-smaller
loop-at-smaller c =
    let e = plain_event c.in-Some.event in
    let left = record_left c.args.records.now c.loop-at.at e (begins_rest c.args.records.now c.loop-at.at e c.in-Some.ensures.some.0) in
    omega (arith, left, c.in-Some.ensures.some.1)

pub loop-at-preserved : goal.loop-at-preserved
loop-at-preserved c =
    let bytes = c.args.records.now in
    let at = c.loop-at.at in
    let from = c.args.engine.now in
    let e = plain_event c.in-Some.event in
    let more = gone_more from.limits from.state bytes at c.in-Some.len c.loop-at.engine.state e c.loop-at.invariant.gone
    (begins_rest bytes at e c.in-Some.ensures.some.0) c.in-Some.ensures.some.1
    (λ f is. same_event c.in-Some.len (length (record_bytes f)) e f (c.in-Some.ensures.only f (begins_slice bytes at f is)))
    (c.if-not-is_for_process.ensures.0 refl) in
    let stepped : (step from.limits c.loop-at.engine.state e).state ≡ c.step.new.self.state =
    ap (λ (limits : Limits). (step limits c.loop-at.engine.state e).state) (sym c.loop-at.invariant.limits) ∙ sym c.in_ok-step.ensures.state in
    record {
      limits = c.step.ensures.limits ∙ c.loop-at.invariant.limits;
      tracked = λ base is. c.step.ensures.tracked base (c.loop-at.invariant.tracked base is);
      gone = subst (λ (s : State). GoneThrough from.limits from.state bytes (at + c.in-Some.len) s) stepped more;
    }

pub returns-clause-only : goal.returns-clause-only
returns-clause-only c = λ events s are. (refl, gone_only _ _ _ _ _ c.loop-at.invariant.gone c.loop-at-test.false events s are)

pub returns-in_err-step-clause-tracked : goal.returns-in_err-step-clause-tracked
returns-in_err-step-clause-tracked c = λ base is. c.step.ensures.tracked base (c.loop-at.invariant.tracked base is)
