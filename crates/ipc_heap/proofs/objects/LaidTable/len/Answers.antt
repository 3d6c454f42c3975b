-- How many words the table has.
use Rattle.std.proofs.Common.{arith}
use Rattle.ipc_heap.proofs.Runs.{words-after}
use Rattle.ipc_heap.proofs.objects.LaidTable.len.Goals as goal

pub returns : goal.returns
returns g c =
    omega (arith, words-after c.args.self.now.first (g.O.Objects.objects c.args.self.now.objects.now), c.count.ensures.count, c.requires.last)
