-- The numbers in the first sixteen bytes.
use Rattle.std.proofs.Common.{drop, ◌∙◌, arith}
use Rattle.byteorder.specs.Numbers.{big_from-take}
use Rattle.ipc_journal.specs.Batch.{epoch_in}
use Rattle.ipc_journal.specs.Tagged.{number_in, index_in, count_in}
use Rattle.ipc_journal.proofs.tagged.tag_of.Goals as goal

pub returns-clause-epoch : goal.returns-clause-epoch
unfolding epoch_in
returns-clause-epoch c = c.read_u64.ensures

pub returns-clause-number : goal.returns-clause-number
unfolding number_in
returns-clause-number c = c.read_u32.ensures ∙ big_from-take 0 4 504 (drop 8 c.args.sector.now) (omega arith)

pub returns-clause-index : goal.returns-clause-index
unfolding index_in
returns-clause-index c = c.read_u16.ensures ∙ big_from-take 0 2 500 (drop 12 c.args.sector.now) (omega arith)

pub returns-clause-count : goal.returns-clause-count
unfolding count_in
returns-clause-count c = c.read_u16-2.ensures ∙ big_from-take 0 2 498 (drop 14 c.args.sector.now) (omega arith)
