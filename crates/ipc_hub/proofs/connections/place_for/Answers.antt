use Rattle.std.proofs.Common.{◌^◌, ltb, arith, rules}
use Rattle.std.proofs.lemmas.Bool.{ltb-true, ltb-false}
use Rattle.std.proofs.lemmas.List.Sorted.{IsPartitionPoint-from_clause, IsPartitionedBy-ltb}
use Rattle.ipc_base.proofs.CallerLemmas.{rising-up}
use Rattle.ipc_hub.specs.declared.connection.Connection.{Connection}
use Rattle.ipc_hub.specs.Relations.Rows.{row as row_of}
use Rattle.ipc_hub.proofs.connections.place_for.Goals as goal

pub returns-clause-below : goal.returns-clause-below
returns-clause-below c k d below =
    let cs = c.args.connections.now in
    let point = IsPartitionPoint-from_clause (λ (e : Connection). ltb e.number c.args.conn) cs c.partition_point.result c.partition_point.ensures.partitioned
    (IsPartitionedBy-ltb (λ (e : Connection). e.number) cs c.args.conn (rising-up row_of 0 cs (2 ^ 32) c.requires)) (λ a r f' called. search rules) in
    ltb-true _ _ (point.0 k d (omega arith) below)

pub returns-clause-rest : goal.returns-clause-rest
returns-clause-rest c k d rest within =
    let cs = c.args.connections.now in
    let point = IsPartitionPoint-from_clause (λ (e : Connection). ltb e.number c.args.conn) cs c.partition_point.result c.partition_point.ensures.partitioned
    (IsPartitionedBy-ltb (λ (e : Connection). e.number) cs c.args.conn (rising-up row_of 0 cs (2 ^ 32) c.requires)) (λ a r f' called. search rules) in
    ltb-false _ _ (point.1 k d rest within)
