use Rattle.std.proofs.Common.{length, ap, arith}
use Rattle.ipc_image.proofs.MqObjects.{mq-long}
use Rattle.ipc_image.proofs.mq.NamedEntryMqStored.len.Goals as goal

pub list_len-requires-clause-short : goal.list_len-requires-clause-short
list_len-requires-clause-short c = omega (arith, mq-long c.args.self.now, c.requires.short)

pub returns : goal.returns
returns c = omega (arith, c.list_len.ensures, mq-long c.args.self.now, ap length c.bytes.ensures)
