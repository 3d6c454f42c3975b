-- What is read is what stood there before.
use Rattle.std.proofs.Common.{sym}
use Rattle.ipc_disk.proofs.CallerLemmas.{OnlyReads-ok}
use Rattle.ipc_image.proofs.CallerLemmas.{of-format}
use Rattle.ipc_store.proofs.Faults.{ok-device}
use Rattle.ipc_store.proofs.Loaded.{OnlyReads-never}
use Rattle.ipc_store.proofs.larger.read_whole.Goals as goal

pub read_named-requires-clause-form : goal.read_named-requires-clause-form
read_named-requires-clause-form g c = sym (of-format c.args.superblock.limits c.requires.of)

pub returns-clause-reads : goal.returns-clause-reads
returns-clause-reads g c = OnlyReads-never (ok-device _) (OnlyReads-ok (ok-device _) c.in_ok-checkpoint.ensures.reads)
