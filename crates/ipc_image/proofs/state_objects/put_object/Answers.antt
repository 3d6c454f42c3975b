use Rattle.std.proofs.Common.{Bool, ℕ, List, Some, ap, sym, subst, arith, ◌∙◌}
use Rattle.std.specs.Prelude.{option_map}
use Rattle.std.proofs.lemmas.List.{map-id}
use Rattle.ipc_state.specs.State.{State}
use Rattle.ipc_image.specs.declared.format.Format.{Format}
use Rattle.ipc_state.specs.Waiting.{PlainWaiting}
use Rattle.ipc_image.specs.SavedParts.{IsMarkIn, IsMarkOfOwnObject, object_of}
use Rattle.ipc_image.specs.Format.{IsOpened}
use Rattle.ipc_base.specs.Numbers.{fields_bytes}
use Rattle.ipc_image.specs.Saved.{clock_sizes, clock_numbers, process_bytes, processes_bytes, waits_bytes, adjustments_bytes}
use Rattle.ipc_image.specs.Window.{Shown, passed}
use Rattle.ipc_image.proofs.SavedObjects.{clock-whole, saved-clock, saved-processes, saved-waits, saved-adjustments, processes-counted, waits-counted}
use Rattle.ipc_image.proofs.state_objects.put_object.Goals as goal

module _ (w : Shown) where
  abbrev after : ℕ × List ℕ → Shown
  after o = passed o.1 w

pub returns-in-0-clause-passed : goal.returns-in-0-clause-passed
returns-in-0-clause-passed c =
    let s : State = c.args.objects.now.1 in
    let opened : IsOpened c.args.objects.now.0 = subst (λ (t : Format × State). IsOpened t.0) c.objects.view_is c.objects.invariant.0 in
    rw c.in-0.is
    (ap (option_map (after c.args.window.now)) (saved-clock c.args.objects.now.0 s)
    ∙ ap Some (ap (λ (b : List ℕ). passed b c.args.window.now) (clock-whole c.args.objects.now.0 opened s)
    ∙ ap (λ (t : Format × State). passed (fields_bytes clock_sizes (clock_numbers t.1)) c.args.window.now) (sym c.objects.view_is) ∙ sym c.put_clock.ensures))

pub put_counted-requires-clause-short : goal.put_counted-requires-clause-short
put_counted-requires-clause-short c =
    let o = c.objects.inside in omega (arith, processes-counted o.form o.numbers o.processes.now _ _ _ _ _ c.objects.invariant.2)

pub returns-in-1-clause-passed : goal.returns-in-1-clause-passed
returns-in-1-clause-passed c =
    rw c.in-1.is
    (ap (option_map (after c.args.window.now)) (saved-processes c.args.objects.now.0 c.args.objects.now.1)
    ∙ ap Some (ap (λ (t : Format × State). passed (processes_bytes t.1.processes.entries) c.args.window.now) (sym c.objects.view_is)
    ∙ sym c.put_counted.ensures.passed))

pub put_counted-requires-in-2-clause-short : goal.put_counted-requires-in-2-clause-short
put_counted-requires-in-2-clause-short c =
    let o = c.objects.inside in omega (arith, waits-counted o.form o.numbers _ o.waits.now _ _ _ _ c.objects.invariant.2)

pub returns-in-2-clause-passed : goal.returns-in-2-clause-passed
returns-in-2-clause-passed c =
    rw c.in-2.is
    (ap (option_map (after c.args.window.now)) (saved-waits c.args.objects.now.0 c.args.objects.now.1)
    ∙ ap Some (ap (λ (t : Format × State). passed (waits_bytes t.1.wait) c.args.window.now) (sym c.objects.view_is)
    ∙ ap (λ (ws : List PlainWaiting). passed (waits_bytes ws) c.args.window.now) (sym (map-id c.objects.inside.waits.now))
    ∙ sym c.put_counted-in-2.ensures.passed))

pub returns-in-3-clause-passed : goal.returns-in-3-clause-passed
returns-in-3-clause-passed c =
    rw c.in-3.is
    (ap (option_map (after c.args.window.now)) (saved-adjustments c.args.objects.now.0 c.args.objects.now.1)
    ∙ ap Some (ap (λ (t : Format × State). passed (adjustments_bytes t.1.undo) c.args.window.now) (sym c.objects.view_is) ∙ sym c.put_adjustments.ensures))

pub returns-in_default-clause-passed : goal.returns-in_default-clause-passed
returns-in_default-clause-passed c =
    let marks = ap (λ (t : Format × State). t.0.marks) c.objects.view_is in
    ap (option_map (after c.args.window.now)) c.own_object_at.ensures.object
    ∙ ap Some (ap (λ (b : Bool). passed (object_of b c.own_object_at.result).1 c.args.window.now) (sym marks) ∙ sym c.put_own_object.ensures.passed)

pub put_own_object-requires-clause-mark : goal.put_own_object-requires-clause-mark
put_own_object-requires-clause-mark c =
    let marks = ap (λ (t : Format × State). t.0.marks) c.objects.view_is in
    subst (λ (b : Bool). IsMarkOfOwnObject b c.own_object_at.result c.args.mark.now) (sym marks)
    ((c.own_object_at.ensures.stands.marks c.args.mark.now).0 (c.requires.mark.things (omega arith)))

pub returns-in-1-clause-mark : goal.returns-in-1-clause-mark
returns-in-1-clause-mark c = record {
  processes = λ is. subst (λ (t : Format × State). IsMarkIn process_bytes t.1.processes.entries c.put_counted.new.mark) c.objects.view_is
      c.put_counted.ensures.mark;
  waits = λ two. absurd (omega (arith, two, c.in-1.is));
  things = λ le. absurd (omega (arith, le, c.in-1.is));
}

pub returns-in_default-clause-mark : goal.returns-in_default-clause-mark
returns-in_default-clause-mark c = record {
  processes = λ one. absurd (omega (arith, one));
  waits = λ two. absurd (omega (arith, two));
  things = λ le. (c.own_object_at.ensures.stands.marks c.put_own_object.new.mark).1
      (subst (λ (b : Bool). IsMarkOfOwnObject b c.own_object_at.result c.put_own_object.new.mark) (ap (λ (t : Format × State). t.0.marks) c.objects.view_is)
      c.put_own_object.ensures.mark);
}
