use Rattle.std.proofs.Common.{◌^◌, ltb, arith, rules}
use Rattle.std.proofs.lemmas.Bool.{ltb-true, ltb-false}
use Rattle.std.proofs.lemmas.List.Sorted.{IsPartitionPoint-from_clause, IsPartitionedBy-ltb}
use Rattle.ipc_base.proofs.CallerLemmas.{rising-up}
use Rattle.ipc_state.specs.declared.numbered.Item.{Item}
use Rattle.ipc_state.specs.Rows.{item_row}
use Rattle.ipc_state.proofs.rows.place_for.Goals as goal

pub returns-clause-below : goal.returns-clause-below
returns-clause-below g c k d below =
    let xs = c.args.items.now in
    let point = IsPartitionPoint-from_clause (λ (e : Item _). ltb e.number c.args.number) xs c.partition_point.result c.partition_point.ensures.partitioned
    (IsPartitionedBy-ltb (λ (e : Item _). e.number) xs c.args.number (rising-up item_row 0 xs (2 ^ 32) c.requires)) (λ a r f' called. search rules) in
    ltb-true _ _ (point.0 k d (omega arith) below)

pub returns-clause-rest : goal.returns-clause-rest
returns-clause-rest g c k d rest within =
    let xs = c.args.items.now in
    let point = IsPartitionPoint-from_clause (λ (e : Item _). ltb e.number c.args.number) xs c.partition_point.result c.partition_point.ensures.partitioned
    (IsPartitionedBy-ltb (λ (e : Item _). e.number) xs c.args.number (rising-up item_row 0 xs (2 ^ 32) c.requires)) (λ a r f' called. search rules) in
    ltb-false _ _ (point.1 k d rest within)
