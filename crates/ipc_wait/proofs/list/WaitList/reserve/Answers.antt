use Rattle.std.proofs.Common.{arith}
use Rattle.std.proofs.lemmas.Grind.{common_steps}
use Rattle.ipc_wait.proofs.Index.{index-length}
use Rattle.ipc_wait.proofs.list.WaitList.reserve.Goals as goal

pub returns-clause-ok : goal.returns-clause-ok
returns-clause-ok g c =
    let same = index-length c.self.inside.calls.items c.self.inside.pids.items c.self.invariant.2 in
    grind (arith, common_steps)

pub returns-clause-succeeds : goal.returns-clause-succeeds
returns-clause-succeeds g c =
    let same = index-length c.self.inside.calls.items c.self.inside.pids.items c.self.invariant.2 in
    grind (arith, common_steps)
