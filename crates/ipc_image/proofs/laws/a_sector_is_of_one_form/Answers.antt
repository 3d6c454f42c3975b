use Rattle.ipc_image.proofs.Reading.{names, one_form}
use Rattle.ipc_image.proofs.laws.a_sector_is_of_one_form.Goals as goal

pub returns-clause-one : goal.returns-clause-one
returns-clause-one c = one_form

pub returns-clause-named : goal.returns-clause-named
returns-clause-named c = names
