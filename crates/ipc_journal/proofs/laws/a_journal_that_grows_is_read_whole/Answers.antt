-- A sector that the header counts has the same piece of a batch in each later image.
use Rattle.ipc_journal.proofs.CallerLemmas.{Holds-read}
use Rattle.ipc_journal.proofs.laws.a_journal_that_grows_is_read_whole.Goals as goal

pub returns : goal.returns
returns c range epoch batches first read = Holds-read range epoch batches first read
