use Rattle.std.proofs.Common.{◌≡◌, ◌∙◌, ap}
use Rattle.std.specs.Prelude.{option_map}
use Rattle.std.proofs.lemmas.Result.{on_err_weaker, on_ok_weaker}
use Rattle.ipc_state.specs.contracts.state.State.{the_view}
use Rattle.ipc_state.specs.Held.{Held, ready_of}
use Rattle.ipc_state.specs.Held.Ready.{Nothing, Mq}
use Rattle.ipc_state.proofs.Inside.{ready-in}
use Rattle.ipc_state.proofs.state.State.reserve_mq.Goals as goal

pub returns-clause-ok : goal.returns-clause-ok
returns-clause-ok c =
    let t = c.self.inside in
    let v = the_view t in
    let released = c.self.view_is ∙ c.release.ensures in
    let none = ready-in t Nothing (ap (λ (m : Held). m.ready) released) in
    on_ok_weaker c.reserve.result
    (λ is. (λ i. let h : Held = record v {
      state = record v.state { mq = (is i).objects };
      ready = ready_of (none.process i) (none.msg_queue i) (none.semset i) (none.shm i) (option_map (λ r. r.0) (is i).ready) (none.psem i)
          (none.pshm i) (none.zeros i);
    } in h)
    ∙ (λ i. let h : Held = record v { ready = Mq (c.in_ok-name.ensures i) } in h)
    ∙ ap (λ (m : Held). let h : Held = record m { ready = Mq c.args.name.now } in h) released)
    c.reserve.ensures.ok

pub returns-clause-err : goal.returns-clause-err
returns-clause-err c =
    let t = c.self.inside in
    let v = the_view t in
    let released = c.self.view_is ∙ c.release.ensures in
    let none = ready-in t Nothing (ap (λ (m : Held). m.ready) released) in
    on_err_weaker c.reserve.result
    (λ is. (λ i. let h : Held = record v {
      state = record v.state { mq = (is i).objects };
      ready = ready_of (none.process i) (none.msg_queue i) (none.semset i) (none.shm i) (option_map (λ r. r.0) (is i).ready) (none.psem i)
          (none.pshm i) (none.zeros i);
    } in h)
    ∙ ap (λ (m : Held). let h : Held = record m { ready = Nothing } in h) released)
    c.reserve.ensures.err
