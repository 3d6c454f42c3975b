use Rattle.sem_undo.proofs.Tables.{subtracted_there, subtracted_others, subtracted_twice}
use Rattle.sem_undo.proofs.laws.subtracted_adds_up.Goals as goal

pub returns-clause-there : goal.returns-clause-there
returns-clause-there c = subtracted_there

pub returns-clause-others : goal.returns-clause-others
returns-clause-others c = subtracted_others

pub returns-clause-twice : goal.returns-clause-twice
returns-clause-twice c = subtracted_twice
