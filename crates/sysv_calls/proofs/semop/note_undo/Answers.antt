use Rattle.std.proofs.Common.{◌≡◌, ◌∙◌, pos, Some, take, get_or, ap, sym, subst, nat_eq}
use Rattle.std.specs.List.{fold}
use Rattle.std.proofs.lemmas.List.Sums.{fold_more}
use Rattle.ipc_base.specs.Table.{value_at}
use Rattle.sem_undo.specs.Undo.{Undo}
use Rattle.sysv_sem.specs.declared.operation.Operation.{Operation}
use Rattle.ipc_state.specs.Held.{Held}
use Rattle.ipc_state.specs.State.{undo_of, with_undo}
use Rattle.sysv_calls.specs.Relations.{CanNote}
use Rattle.sysv_calls.specs.Semop.{noted}
use Rattle.sysv_calls.proofs.Lent.{with_state}
use Rattle.sysv_calls.proofs.Noting.{undo-again, undo-kept, undo-now, undo-there}
use Rattle.sysv_calls.proofs.semop.note_undo.Goals as goal

abbrev none : Operation
none = record { num = 0; sem_op = pos 0; flags = record { 0 = 0 } }

pub loop-operation-init : goal.loop-operation-init
loop-operation-init c = ap (with_state c.args.state.now) (sym (undo-kept c.args.state.now.state c.args.pid.0 c.requires.there))

pub note_operation-requires-clause-there : goal.note_operation-requires-clause-there
note_operation-requires-clause-there c =
    let s = c.args.state.now.state in
    let pid = c.args.pid.0 in
    let u = fold (noted c.args.id.0) (undo_of s pid) (take c.loop-operation.operation-index c.args.operations.now) in
    subst (λ (h : Held). value_at nat_eq h.state.undo pid ≡ Some (undo_of h.state pid)) (sym c.loop-operation.invariant) (undo-there s pid c.requires.there u)

pub note_operation-requires-clause-can : goal.note_operation-requires-clause-can
note_operation-requires-clause-can c is =
    let s = c.args.state.now.state in
    let pid = c.args.pid.0 in
    let i = c.loop-operation.operation-index in
    let u = fold (noted c.args.id.0) (undo_of s pid) (take i c.args.operations.now) in
    let o = get_or c.args.operations.now i none in
    subst (λ (h : Held). CanNote c.args.id.0 (undo_of h.state pid) o) (sym c.loop-operation.invariant)
    (subst (λ (v : Undo). CanNote c.args.id.0 v o) (sym (undo-now s pid c.requires.there u)) (c.requires.each i none c.loop-operation-test.true is))

pub loop-operation-preserved : goal.loop-operation-preserved
loop-operation-preserved c =
    let old = c.args.state.now in
    let s = old.state in
    let pid = c.args.pid.0 in
    let id = c.args.id.0 in
    let i = c.loop-operation.operation-index in
    let u = fold (noted id) (undo_of s pid) (take i c.args.operations.now) in
    let o = get_or c.args.operations.now i none in
    c.note_operation.ensures
    ∙ ap (λ (h : Held). with_state h (with_undo h.state pid (noted id (undo_of h.state pid) o))) c.loop-operation.invariant
    ∙ ap (λ (v : Undo). with_state old (with_undo (with_undo s pid u) pid (noted id v o))) (undo-now s pid c.requires.there u)
    ∙ ap (with_state old) (undo-again s pid u (noted id u o))
    ∙ ap (λ (v : Undo). with_state old (with_undo s pid v)) (sym (fold_more (noted id) (undo_of s pid) c.args.operations.now i none c.loop-operation-test.true))
