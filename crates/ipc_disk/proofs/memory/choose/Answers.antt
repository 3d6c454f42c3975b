-- One slot more is chosen; at the end all are.
use Rattle.std.proofs.Common.{◌≡◌, ℕ, ◌+◌, ◌≤◌, Bool, length, if◌then◌else◌, sym, ◌∙◌, ap, arith}
use Rattle.ipc_disk.proofs.Choices.{chosen, chosen-step, place-step, chosen-all}
use Rattle.ipc_disk.proofs.memory.choose.Goals as goal
use Rattle.ipc_disk.proofs.memory.choose.Goals.{then-choose_one, else-choose_one}

pub loop-slot-preserved : goal.loop-slot-preserved
loop-slot-preserved c =
    let so_far = c.loop-slot.invariant in
    let before = c.loop-slot.before in
    let next : c.if-choose_one.before ≡ (if c.choose_one.result then before + 1 else before) = elim c.if-choose_one.branch [
      | then-choose_one w ↦ w.before-is ∙ sym (ap (λ (b : Bool). if b then before + 1 else before) w.if-choose_one.true)
      | else-choose_one w ↦ w.before-is ∙ sym (ap (λ (b : Bool). if b then before + 1 else before) w.if-choose_one.false)
    ] in
    let few : c.if-choose_one.before ≤ c.loop-slot.slot-index + 1 = elim c.if-choose_one.branch [
      | then-choose_one w ↦ omega (arith, so_far.few, w.before-is)
      | else-choose_one w ↦ omega (arith, so_far.few, w.before-is)
    ] in
    record {
      chosen = chosen-step c.args.keep c.loop-slot.slot-index before c.args.slots.now c.loop-slot.slots _ _ c.loop-slot-test.true so_far.chosen so_far.place
          c.choose_one.ensures.left;
      place = place-step c.args.keep c.loop-slot.slot-index before _ _ c.args.slots.now c.loop-slot.slots _ c.loop-slot-test.true so_far.chosen so_far.place
          c.choose_one.ensures.unsynced next;
      few = few;
    }

pub returns : goal.returns
returns c =
    let end : c.loop-slot.slot-index ≡ length c.args.slots.now = omega arith in
    c.loop-slot.invariant.chosen ∙ ap (λ (n : ℕ). chosen c.args.keep 0 n c.args.slots.now) end ∙ chosen-all c.args.keep 0 c.args.slots.now
