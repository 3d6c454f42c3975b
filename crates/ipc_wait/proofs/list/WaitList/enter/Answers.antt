use Rattle.std.proofs.Common.{arith}
use Rattle.std.proofs.lemmas.Grind.{common_steps}
use Rattle.ipc_wait.proofs.Lists.{HaveDistinctPids-enter}
use Rattle.ipc_wait.proofs.Index.{index-length, index-enter}
use Rattle.ipc_wait.proofs.list.WaitList.enter.Goals as goal

pub put_in-requires-clause-room : goal.put_in-requires-clause-room
put_in-requires-clause-room g c =
    let same = index-length c.self.inside.calls.items c.self.inside.pids.items c.self.invariant.2 in
    let room = rw (← c.self.view_is) at c.requires.room in
    grind (arith, common_steps)

pub invariant_of-self : goal.invariant_of-self
invariant_of-self g c =
    let free = rw (← c.self.view_is) at c.requires.free in (
      grind (arith, common_steps),
      rw c.push_reserved.ensures.items (HaveDistinctPids-enter _ _ c.self.invariant.1 free),
      rw c.push_reserved.ensures.items (index-enter _ _ _ _ c.self.invariant.2 c.put_in.ensures.rising c.put_in.ensures.more),
    )
