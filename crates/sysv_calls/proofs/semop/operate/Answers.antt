use Rattle.std.proofs.Common.{◌≡◌, ◌∙◌, ℕ, List, take, ap, sym, subst, rules}
use Rattle.std.specs.List.{fold}
use Rattle.std.proofs.lemmas.List.{length-map}
use Rattle.ipc_wire.specs.SemBufs.{bytes_of, operations_in}
use Rattle.sysv_sem.specs.declared.operation.Operation.{Operation}
use Rattle.sysv_sem.specs.Operation.{outcome}
use Rattle.sysv_sem.specs.Set.{Set, carried, values_of}
use Rattle.ipc_state.specs.Held.{Held}
use Rattle.ipc_state.specs.Bound.{holding}
use Rattle.ipc_state.specs.Keyed.{KeyedEntry}
use Rattle.ipc_state.specs.State.{undo_of, with_semset, with_undo}
use Rattle.sysv_calls.specs.Relations.{CanBeNoted, Passes}
use Rattle.sysv_calls.specs.Semop.{held_by, noted, operation_of, operations_of}
use Rattle.sysv_calls.proofs.Lent.{with_state}
use Rattle.sysv_calls.proofs.Noting.{ready-noted}
use Rattle.sysv_calls.proofs.semop.operate.Goals.{After-unwrap-set}
use Rattle.sysv_calls.proofs.semop.operate.Goals as goal

abbrev operations : After-unwrap-set → List Operation
operations c = operations_of (bytes_of c.args.operations.now)

-- the front of the buffer
front : (c : After-unwrap-set) → take c.len.result c.put_operations.new.all ≡ operations c
front c =
    let many = length-map (operations_in (bytes_of c.args.operations.now)) operation_of in
    ap (λ (n : ℕ). take n c.put_operations.new.all) (c.len.ensures ∙ sym many) ∙ c.put_operations.ensures.operations

-- the set that is lent
module _ (c : After-unwrap-set) (found : KeyedEntry Set × List ℕ)
    (p : Passes c.args.state.now.limits c.args.state.now.state c.args.pid.0 c.args.id.0 (operations c) found) where
  object : c.unwrap-set.result.now ≡ found.0.object
  object = let there = p.there in search (rules, there)

  -- the list passes there
  passes : outcome (values_of c.unwrap-set.result.now) (held_by c.args.state.now.state c.args.pid.0 c.args.id.0) (take c.len.result c.put_operations.new.all)
      ≡ outcome (values_of found.0.object) (held_by c.args.state.now.state c.args.pid.0 c.args.id.0) (operations c)
  passes = λ i. outcome (values_of (object i)) (held_by c.args.state.now.state c.args.pid.0 c.args.id.0) (front c i)

pub carry-requires-clause-passes : goal.carry-requires-clause-passes
carry-requires-clause-passes c =
    let g = (goal.at.carry-requires-clause-passes c).After-unwrap-set in
    let found = c.requires.ready.found.0 in
    let p = c.requires.ready.found.1 in
    (held_by c.args.state.now.state c.args.pid.0 c.args.id.0, found.1, p.done.0, passes g found p ∙ p.done.1)

pub note_undo-requires : goal.note_undo-requires
note_undo-requires c =
    let u = (goal.at.note_undo-requires c).After-unwrap-set in
    let s = c.args.state.now.state in
    let found = c.requires.ready.found.0 in
    let x = c.carry.new.self in
    let can = ready-noted c.args.state.now.limits s c.args.pid.0 c.args.id.0 (operations u) c.requires.sound c.requires.ready in
    subst (λ (h : Held). CanBeNoted h.state c.args.pid.0 c.args.id.0 (take c.len.result c.put_operations.new.all))
    (sym (c.semset_mut.follows.holds x found.0 c.requires.ready.found.1.there))
    (subst (λ (ops : List Operation). CanBeNoted (with_semset s c.args.id.0 (holding found.0 x)) c.args.pid.0 c.args.id.0 ops) (sym (front u))
    (record { there = can.there; each = can.each }))

pub returns : goal.returns
returns c found p =
    let u = (goal.at.returns c).After-unwrap-set in
    let s = c.args.state.now.state in
    let pid = c.args.pid.0 in
    let id = c.args.id.0 in
    let x = c.carry.new.self in
    let sets : x ≡ carried found.0.object found.1 (operations u) c.args.pid s.clock =
    c.carry.ensures (held_by s pid id) p.done.0 found.1 (passes u found p ∙ p.done.1)
    ∙ (λ i. carried (object u found p i) found.1 (front u i) c.args.pid (c.clock-now.ensures i)) in
    c.note_undo.ensures
    ∙ ap (λ (h : Held). with_state h (with_undo h.state pid (fold (noted id) (undo_of h.state pid) (take c.len.result c.put_operations.new.all))))
    (c.semset_mut.follows.holds x found.0 p.there)
    ∙ (λ i. with_state c.args.state.now (with_undo (with_semset s id (holding found.0 (sets i))) pid (fold (noted id) (undo_of s pid) (front u i))))
