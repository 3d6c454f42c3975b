use Rattle.std.proofs.Common.{ap, ◌∙◌, is_some}
use Rattle.std.specs.List.{position}
use Rattle.ipc_wait.specs.Relations.{is_pid}
use Rattle.ipc_wait.proofs.Index.{index-finds}
use Rattle.ipc_wait.proofs.list.WaitList.is_waiting.Goals as goal

pub returns : goal.returns
returns g c =
    let found = c.is_some.ensures ∙ ap is_some (c.place_in.ensures ∙ ap (position (is_pid c.args.pid)) c.deref.ensures.value) in
    rw (← c.self.view_is) (found ∙ index-finds c.self.inside.calls.items c.self.inside.pids.items c.args.pid c.self.invariant.2)
