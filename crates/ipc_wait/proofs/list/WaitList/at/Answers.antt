use Rattle.std.proofs.Common.{length, refl}
use Rattle.std.proofs.lemmas.Option.{slice_get_read}
use Rattle.ipc_wait.proofs.Lists.{waiting_call_of-at}
use Rattle.ipc_wait.proofs.list.WaitList.at.Goals as goal

pub returns-clause-found : goal.returns-clause-found
returns-clause-found g c =
    let within = rw (← c.self.view_is) at c.requires in
    let calls = c.self.inside.calls.items in
    rw (← c.self.view_is) (waiting_call_of-at calls c.args.place _ c.self.invariant.1
    (slice_get_read calls (length calls) c.args.place _ refl within c.index.ensures))
