use Rattle.std.proofs.Common.{◌≡◌, ◌∙◌, ◌++◌, ◌∷◌, [], ◌<◌, ◌≤◌, ℕ, List, length, take, ap, sym, subst, refl, arith}
use Rattle.std.proofs.lemmas.List.{length-map, take_more, take_more_set, take_all}
use Rattle.std.proofs.lemmas.Option.{get_or_from_slice_get}
use Rattle.ipc_wire.specs.SemBufs.{bytes_of, operations_in}
use Rattle.sysv_sem.specs.declared.operation.Operation.{Operation}
use Rattle.sysv_calls.specs.Semop.{operation_of, operations_of}
use Rattle.sysv_calls.proofs.semop.put_operations.Goals as goal

pub loop-place-init : goal.loop-place-init
loop-place-init c = refl

pub operation_at-requires : goal.operation_at-requires
operation_at-requires c =
    omega (arith, c.loop-place-test.true, c.len-place-end.ensures, length-map (operations_in (bytes_of c.args.operations.now)) operation_of)

pub loop-place-preserved : goal.loop-place-preserved
loop-place-preserved c =
    let wanted : List Operation = operations_of (bytes_of c.args.operations.now) in
    let at = c.loop-place.place in
    let o = c.operation_at.result in
    let before : at < length wanted =
    omega (arith, c.loop-place-test.true, c.len-place-end.ensures, length-map (operations_in (bytes_of c.args.operations.now)) operation_of) in
    let room : at < length c.loop-place.all = omega (arith, c.loop-place.auto.all, before, c.requires) in
    take_more_set c.loop-place.all at o room
    ∙ ap (λ (l : List Operation). l ++ o ∷ []) c.loop-place.invariant
    ∙ sym (take_more wanted at o before ∙ ap (λ (v : Operation). take at wanted ++ v ∷ []) (get_or_from_slice_get wanted at o o c.operation_at.ensures))

pub returns-clause-operations : goal.returns-clause-operations
returns-clause-operations c =
    let wanted : List Operation = operations_of (bytes_of c.args.operations.now) in
    let all : c.loop-place.place ≡ length wanted =
    omega (
      arith,
      c.loop-place-test.false,
      c.loop-place.auto.place-end,
      c.len-place-end.ensures,
      length-map (operations_in (bytes_of c.args.operations.now)) operation_of,
    ) in
    let whole : length wanted ≤ length wanted = omega arith in
    subst (λ (n : ℕ). take n c.loop-place.all ≡ take n wanted) all c.loop-place.invariant ∙ take_all (length wanted) wanted whole
