-- What a header says.
use Rattle.std.proofs.Common.{◌∙◌, ap, arith}
use Rattle.ipc_journal.specs.Batch.{epoch_in}
use Rattle.ipc_journal.specs.Headed.{used_in}
use Rattle.ipc_journal.proofs.Headers.{bytes-header, epoch_in-header, used_in-header}
use Rattle.ipc_journal.proofs.headed.header_sector.Goals as goal

pub returns-clause-bytes : goal.returns-clause-bytes
returns-clause-bytes c = bytes-header c.args.epoch c.args.used _ _ c.write_u64.ensures c.write_u32.ensures

pub returns-clause-epoch : goal.returns-clause-epoch
returns-clause-epoch c = ap epoch_in (returns-clause-bytes c) ∙ epoch_in-header c.args.epoch c.args.used (omega arith)

pub returns-clause-used : goal.returns-clause-used
returns-clause-used c = ap used_in (returns-clause-bytes c) ∙ used_in-header c.args.epoch c.args.used (omega arith)
