use Rattle.std.proofs.Common.{◌∙◌, ◌++◌, false, refl, sym, arith}
use Rattle.ipc_image.specs.Saved.{message_sizes, message_numbers}
use Rattle.ipc_image.specs.Relations.Shapes.{too_short}
use Rattle.ipc_image.proofs.msg_queue.MessageSaved.take.Goals as goal

pub returns-in_err-numbers-clause-damaged : goal.returns-in_err-numbers-clause-damaged
returns-in_err-numbers-clause-damaged c is m rest fit =
    let none = rw c.in_err-numbers.ensures.ok_part at c.take_fields.ensures.none in
    none (message_numbers false m) (m.text ++ rest) fit.1.0

pub returns-in_err-text-clause-damaged : goal.returns-in_err-text-clause-damaged
returns-in_err-text-clause-damaged c is m rest fit same =
    let found = rw c.in_ok-numbers.ensures.ok_part at c.take_fields.ensures.some in
    let short = rw c.in_err-text.ensures.ok_part at c.split_at_checked.ensures.cases in
    too_short (message_sizes false) 1 c.in_ok-numbers.numbers (message_numbers false m) c.in_ok-numbers.after.now m.text rest found.0 fit.1.0 refl
    (sym found.1 ∙ same) (omega (arith, short))
