use Rattle.std.proofs.Common.{◌∙◌, ◌++◌, length, true, refl, sym, arith}
use Rattle.std.specs.Int.{w64, cast_unsigned}
use Rattle.ipc_image.specs.Saved.{message_sizes, message_numbers}
use Rattle.ipc_image.specs.Relations.Marked.{marked_known, untaken}
use Rattle.ipc_image.specs.Relations.Shapes.{too_short}
use Rattle.ipc_image.proofs.marked_queue.MarkedMessageSaved.take.Goals as goal

pub returns-in_err-mtype-clause-damaged : goal.returns-in_err-mtype-clause-damaged
returns-in_err-mtype-clause-damaged c is m rest fit =
    let none = rw c.in_err-mtype.ensures.ok_part at c.take_untaken.ensures.none in
    none (cast_unsigned w64 m.mtype) (length m.text) (m.text ++ rest) fit.1.0.0 fit.1.0.1.0

pub returns-in_err-text-clause-damaged : goal.returns-in_err-text-clause-damaged
returns-in_err-text-clause-damaged c is m rest fit same =
    let found = rw c.in_ok-mtype.ensures.ok_part at c.take_untaken.ensures.some in
    let short = rw c.in_err-text.ensures.ok_part at c.split_at_checked.ensures.cases in
    too_short (message_sizes true) 5 (untaken c.in_ok-mtype.mtype c.in_ok-mtype.len) (message_numbers true m) c.in_ok-mtype.after.now m.text rest found.0
    (marked_known m fit).0 refl (sym found.1 ∙ same) (omega (arith, short))
