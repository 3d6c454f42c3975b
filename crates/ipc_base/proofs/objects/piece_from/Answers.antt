-- The last piece is shorter.
use Rattle.std.proofs.Common.{sym, ◌∙◌, drop, arith}
use Rattle.std.proofs.lemmas.List.{take_rest, take_all, length-drop}
use Rattle.ipc_base.proofs.objects.piece_from.Goals as goal

pub returns-then-rest-lt512-clause-piece : goal.returns-then-rest-lt512-clause-piece
returns-then-rest-lt512-clause-piece c =
    let bytes = c.args.bytes.now in
    let place = c.args.place in
    take_rest bytes place ∙ sym (take_all 512 (drop place bytes) (omega (arith, length-drop place bytes)))
