-- A sector of this epoch is that of the whole image, so a batch of it is there whole or not at all.
use Rattle.ipc_journal.proofs.Parts.{Holds-part, IsPartOf-same, IsPartOf-then}
use Rattle.ipc_journal.proofs.laws.tagged_batches_are_read_from_the_first_on.Goals as goal

pub returns-clause-read : goal.returns-clause-read
returns-clause-read c = Holds-part

pub returns-clause-next : goal.returns-clause-next
returns-clause-next c = IsPartOf-then

pub returns-clause-same : goal.returns-clause-same
returns-clause-same c = IsPartOf-same
