use Rattle.ipc_image.specs.Saved.{psem_numbers}
use Rattle.ipc_image.proofs.psem.NamedEntryNamedSemStored.read.Goals as goal

pub returns-in_err-numbers-clause-damaged : goal.returns-in_err-numbers-clause-damaged
returns-in_err-numbers-clause-damaged c is e fits same =
    let none = rw c.in_err-numbers.ensures.ok_part at c.take_fields.ensures.none in
    none (psem_numbers e) e.bound fits.tree.0 same
