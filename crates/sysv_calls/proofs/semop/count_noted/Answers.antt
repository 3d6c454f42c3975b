use Rattle.std.proofs.Common.{◌≡◌, ◌∙◌, length, ap, arith}
use Rattle.std.specs.FinMap as fin
use Rattle.std.specs.List.{fold}
use Rattle.std.proofs.lemmas.List.{take_all}
use Rattle.ipc_wire.specs.SemBufs.{bytes_of}
use Rattle.ipc_state.specs.State.{undo_of}
use Rattle.sysv_calls.specs.Semop.{noted, operations_of}
use Rattle.sysv_calls.proofs.semop.count_noted.Goals as goal

pub returns : goal.returns
returns c =
    let ops = operations_of (bytes_of c.args.list.now.operations) in
    c.loop-place.invariant.count
    ∙ ap (λ l. fin.len (fold (noted c.args.list.now.id.0) (undo_of c.args.list.now.state.now.state c.args.list.now.pid.0) l))
    (take_all c.loop-place.place ops (omega (arith, c.loop-place-test.false, c.len-place-end.ensures)))
