use Rattle.ipc_image.specs.Saved.{semaphore_numbers}
use Rattle.ipc_image.proofs.semset.SemaphoreSaved.take.Goals as goal

pub returns-in_err-numbers-clause-damaged : goal.returns-in_err-numbers-clause-damaged
returns-in_err-numbers-clause-damaged c is x rest fit =
    let none = rw c.in_err-numbers.ensures.ok_part at c.take_fields.ensures.none in
    none (semaphore_numbers x) rest fit.1
