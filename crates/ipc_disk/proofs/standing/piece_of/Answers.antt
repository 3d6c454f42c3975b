-- The last piece is shorter.
use Rattle.std.proofs.Common.{sym, ◌∙◌, ◌*◌, drop, arith}
use Rattle.std.proofs.lemmas.List.{take_rest, take_all, length-drop}
use Rattle.ipc_disk.proofs.standing.piece_of.Goals as goal

pub returns-then-rest-lt512 : goal.returns-then-rest-lt512
returns-then-rest-lt512 c =
    let rest = drop (512 * c.args.i) c.args.bytes.now in
    take_rest c.args.bytes.now (512 * c.args.i) ∙ sym (take_all 512 rest (omega (arith, length-drop (512 * c.args.i) c.args.bytes.now)))
