-- The last piece is shorter.
use Rattle.std.proofs.Common.{sym, ◌∙◌, ◌*◌, drop, arith}
use Rattle.std.proofs.lemmas.List.{take_rest, take_all, length-drop}
use Rattle.ipc_journal.proofs.tagged.piece_of.Goals as goal

pub returns-then-rest-lt-PIECE : goal.returns-then-rest-lt-PIECE
returns-then-rest-lt-PIECE c =
    let rest = drop (496 * c.args.i) c.args.bytes.now in
    take_rest c.args.bytes.now (496 * c.args.i) ∙ sym (take_all 496 rest (omega (arith, length-drop (496 * c.args.i) c.args.bytes.now)))
