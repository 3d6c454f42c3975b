use Rattle.std.proofs.Common.{ℕ, List, length, map, Some, ap, subst, arith, ◌∙◌}
use Rattle.std.specs.Prelude.{option_map}
use Rattle.std.specs.List.{flat_map}
use Rattle.std.proofs.lemmas.List.{map-id}
use Rattle.ipc_state.specs.State.{State}
use Rattle.ipc_image.specs.declared.format.Format.{Format}
use Rattle.ipc_state.specs.Tables.{item_row}
use Rattle.ipc_state.specs.Waiting.{PlainWaiting}
use Rattle.ipc_image.specs.Format.{IsOpened}
use Rattle.ipc_image.specs.Saved.{processes_bytes, waiting_bytes, waits_bytes, adjustments_bytes}
use Rattle.ipc_image.proofs.SavedObjects.{clock-length, saved-clock, saved-processes, saved-waits, saved-adjustments}
use Rattle.ipc_image.proofs.SavedObjects.{processes-long, processes-counted, waits-long, waits-counted}
use Rattle.ipc_image.proofs.state_objects.StateObjectsObjects.len.Goals as goal

abbrev long : ℕ × List ℕ → ℕ
long o = length o.1

pub returns-in-0 : goal.returns-in-0
returns-in-0 c =
    let opened : IsOpened c.args.self.now.0 = subst (λ (t : Format × State). IsOpened t.0) c.self.view_is c.self.invariant.0 in
    rw c.in-0.is (ap (option_map long) (saved-clock c.args.self.now.0 c.args.self.now.1)
    ∙ ap Some (clock-length c.args.self.now.0 opened c.args.self.now.1))

pub returns-in-1 : goal.returns-in-1
returns-in-1 c =
    rw c.in-1.is
    (ap (option_map long) (saved-processes c.args.self.now.0 c.args.self.now.1)
    ∙ ap Some (omega (
      arith,
      processes-long (map item_row c.self.inside.processes.now),
      c.list_len.ensures,
      ap (λ (t : Format × State). length (processes_bytes t.1.processes.entries)) c.self.view_is,
    )))

-- the bytes of the processes and of the waiting calls can be counted
pub list_len-requires-clause-short : goal.list_len-requires-clause-short
list_len-requires-clause-short c =
    let o = c.self.inside in omega (arith, processes-counted o.form o.numbers o.processes.now _ _ _ _ _ c.self.invariant.2)

pub overflow_add-result : goal.overflow_add-result
overflow_add-result c =
    let o = c.self.inside in omega (arith, processes-counted o.form o.numbers o.processes.now _ _ _ _ _ c.self.invariant.2, c.list_len.ensures)

pub list_len-requires-in-2-clause-short : goal.list_len-requires-in-2-clause-short
list_len-requires-in-2-clause-short c =
    let o = c.self.inside in omega (arith, waits-counted o.form o.numbers _ o.waits.now _ _ _ _ c.self.invariant.2)

pub overflow_add-result-in-2 : goal.overflow_add-result-in-2
overflow_add-result-in-2 c =
    let o = c.self.inside in omega (arith, waits-counted o.form o.numbers _ o.waits.now _ _ _ _ c.self.invariant.2, c.list_len-in-2.ensures)

pub returns-in-2 : goal.returns-in-2
returns-in-2 c =
    let ws = c.self.inside.waits.now in
    rw c.in-2.is
    (ap (option_map long) (saved-waits c.args.self.now.0 c.args.self.now.1)
    ∙ ap Some (omega (
      arith,
      waits-long ws,
      c.list_len-in-2.ensures,
      ap (λ (l : List PlainWaiting). length (flat_map waiting_bytes l)) (map-id ws),
      ap (λ (t : Format × State). length (waits_bytes t.1.wait)) c.self.view_is,
    )))

pub returns-in-3 : goal.returns-in-3
returns-in-3 c =
    rw c.in-3.is
    (ap (option_map long) (saved-adjustments c.args.self.now.0 c.args.self.now.1)
    ∙ ap Some (omega (arith, c.adjustments_len.ensures, ap (λ (t : Format × State). length (adjustments_bytes t.1.undo)) c.self.view_is)))
