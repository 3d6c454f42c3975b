use Rattle.std.proofs.Common.{◌∙◌, Some, ap, sym, arith}
use Rattle.std.specs.Prelude.{option_map}
use Rattle.std.proofs.lemmas.List.{length-map}
use Rattle.std.proofs.lemmas.Option.{slice_get-map}
use Rattle.ipc_wire.specs.SemBufs.{bytes_of, operations_in}
use Rattle.sysv_calls.specs.Semop.{operation_of}
use Rattle.sysv_calls.proofs.semop.operation_at.Goals as goal

pub at-requires : goal.at-requires
at-requires c = omega (arith, c.requires, length-map (operations_in (bytes_of c.args.operations.now)) operation_of)

pub returns : goal.returns
returns c =
    slice_get-map operation_of (operations_in (bytes_of c.args.operations.now)) c.args.place
    ∙ ap (option_map operation_of) c.at.ensures ∙ ap Some (sym c.operation_of.ensures)
