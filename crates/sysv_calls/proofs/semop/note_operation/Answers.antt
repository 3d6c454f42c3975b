use Rattle.std.proofs.Common.{◌≡◌, ◌∙◌, false, Bool, cond, ap, sym, rules}
use Rattle.sem_undo.specs.Undo.{subtracted}
use Rattle.sysv_sem.specs.Operation.{has_undo}
use Rattle.ipc_state.specs.Held.{Held}
use Rattle.ipc_state.specs.State.{State, undo_of, with_undo}
use Rattle.sysv_calls.proofs.Noting.{undo-kept}
use Rattle.sysv_calls.proofs.semop.note_operation.Goals as goal

pub returns-else-contains : goal.returns-else-contains
returns-else-contains c =
    let h = c.args.state.now in
    let pid = c.args.pid.0 in
    let o = c.args.operation.now in
    let undo = undo_of h.state pid in
    let none : has_undo o ≡ false = search rules in
    ap (λ (s : State). let g : Held = record h { state = s } in g)
    (sym (undo-kept h.state pid c.requires.there)
    ∙ ap (λ (b : Bool). with_undo h.state pid (cond b (subtracted undo (c.args.id.0, o.num) o.sem_op) undo)) (sym none))
