use Rattle.std.proofs.Common.{◌∙◌, ◌<◌, List, length, take, ap, sym, refl, arith}
use Rattle.std.proofs.lemmas.List.{take_all}
use Rattle.std.proofs.lemmas.List.Sums.{fold_more}
use Rattle.std.proofs.lemmas.Option.{get_or_from_slice_get}
use Rattle.ipc_wire.specs.SemBufs.{bytes_of, operations_in}
use Rattle.ipc_wire.specs.declared.sem_bufs.SemBuf.{SemBuf}
use Rattle.ipc_state.specs.declared.operations.Demands.{Demands}
use Rattle.ipc_state.specs.Demands.{demanding, demands_of, no_demands}
use Rattle.ipc_state.proofs.operations.demands_of.Goals as goal

pub loop-place-init : goal.loop-place-init
loop-place-init c = refl

pub loop-place-preserved : goal.loop-place-preserved
loop-place-preserved c =
    let spelt : List SemBuf = operations_in (bytes_of c.args.operations.now) in
    let at = c.loop-place.place in
    let before : at < length spelt = omega (arith, c.loop-place-test.true, c.len-place-end.ensures) in
    c.with-demands.ensures ∙ ap (λ (d : Demands). demanding d c.at.result) c.loop-place.invariant
    ∙ sym (fold_more demanding no_demands spelt at c.at.result before
    ∙ ap (demanding (demands_of (take at spelt))) (get_or_from_slice_get spelt at c.at.result c.at.result c.at.ensures))

pub returns : goal.returns
returns c =
    let spelt : List SemBuf = operations_in (bytes_of c.args.operations.now) in
    c.loop-place.invariant
    ∙ ap demands_of (take_all c.loop-place.place spelt (omega (arith, c.loop-place-test.false, c.len-place-end.ensures)))
