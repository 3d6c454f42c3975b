use Rattle.std.proofs.Common.{◌∙◌, Some, ap}
use Rattle.shm_segment.specs.Segment.{empty_segment, truncated}
use Rattle.ipc_state.specs.contracts.state.State.{the_view}
use Rattle.ipc_state.specs.Held.{Held, ready_of}
use Rattle.ipc_state.specs.Held.Ready.{Nothing, Zeros}
use Rattle.ipc_state.proofs.Inside.{ready-in}
use Rattle.ipc_state.proofs.state.State.reserve_zeros.Goals as goal

pub returns-clause-ok : goal.returns-clause-ok
returns-clause-ok c =
    let t = c.self.inside in
    let v = the_view t in
    let released = c.self.view_is ∙ c.release.ensures in
    let none = ready-in t Nothing (ap (λ (m : Held). m.ready) released) in
    (λ i. let h : Held = record v {
      ready = ready_of (none.process i) (none.msg_queue i) (none.semset i) (none.shm i) (none.mq i) (none.psem i) (none.pshm i)
          (Some (c.in_ok-zeroed.ensures i));
    } in h)
    ∙ ap (λ (m : Held). let h : Held = record m { ready = Zeros (truncated c.args.length empty_segment) } in h) released
