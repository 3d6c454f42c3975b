use Rattle.std.proofs.Common.{rules}
use Rattle.std.specs.Ordering.{is_lt}
use Rattle.std.proofs.lemmas.List.Sorted.{IsPartitionPoint-from_clause}
use Rattle.sem_undo.specs.declared.undo.UndoRow.{UndoRow}
use Rattle.sem_undo.specs.Undo.{key_cmp, key_of, entry_of}
use Rattle.sem_undo.proofs.Sorted.{parted}
use Rattle.sem_undo.proofs.Tables.{key_total}
use Rattle.sem_undo.proofs.rows.place_for.Goals as goal

pub returns-clause-point : goal.returns-clause-point
returns-clause-point c = IsPartitionPoint-from_clause (λ (r : UndoRow). is_lt (key_cmp (key_of r) c.args.key)) c.args.rows.now c.partition_point.result
    c.partition_point.ensures.partitioned (parted key_cmp key_total entry_of c.args.key c.args.rows.now c.requires) (λ a r f' called. search rules)
