use Rattle.std.proofs.Common.{sym, rules}
use Rattle.ipc_hub.proofs.Rows.{put-changed}
use Rattle.ipc_hub.proofs.connections.Connections.consume.Goals as goal

pub consume-requires : goal.consume-requires
consume-requires c = rw (sym c.in-Some.ensures.found) at c.requires

pub returns-in-Some : goal.returns-in-Some
returns-in-Some c = search (rules, put-changed)
