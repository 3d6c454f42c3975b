use Rattle.std.proofs.Common.{◌≡◌, ◌∙◌, ap}
use Rattle.std.specs.Prelude.{option_map}
use Rattle.std.proofs.lemmas.Result.{on_err_weaker}
use Rattle.ipc_state.specs.contracts.state.State.{the_view}
use Rattle.ipc_state.specs.Held.{Held, ready_of}
use Rattle.ipc_state.specs.Held.Ready.{Nothing}
use Rattle.ipc_state.proofs.Inside.{ready-in}
use Rattle.ipc_state.proofs.state.State.reserve_pshm.Goals as goal

pub returns-clause-err : goal.returns-clause-err
returns-clause-err c =
    let t = c.self.inside in
    let v = the_view t in
    let released = c.self.view_is ∙ c.release.ensures in
    let none = ready-in t Nothing (ap (λ (m : Held). m.ready) released) in
    on_err_weaker c.reserve.result
    (λ is. (λ i. let h : Held = record v {
      state = record v.state { pshm = (is i).objects };
      ready = ready_of (none.process i) (none.msg_queue i) (none.semset i) (none.shm i) (none.mq i) (none.psem i)
          (option_map (λ r. r.0) (is i).ready) (none.zeros i);
    } in h)
    ∙ ap (λ (m : Held). let h : Held = record m { ready = Nothing } in h) released)
    c.reserve.ensures.err
