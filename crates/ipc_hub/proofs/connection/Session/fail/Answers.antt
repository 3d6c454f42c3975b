use Rattle.std.proofs.Common.{rules}
use Rattle.ipc_wire.proofs.CallerLemmas.{length-reply_bytes}
use Rattle.ipc_hub.proofs.connection.Session.fail.Goals as goal

pub push-requires-clause-space : goal.push-requires-clause-space
push-requires-clause-space c = search (rules, length-reply_bytes)
