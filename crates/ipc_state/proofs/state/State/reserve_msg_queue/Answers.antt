use Rattle.std.proofs.Common.{◌≡◌, ◌∙◌, ap}
use Rattle.std.specs.Prelude.{option_map}
use Rattle.std.proofs.lemmas.Result.{on_err_weaker, on_ok_weaker}
use Rattle.ipc_state.specs.contracts.state.State.{the_view}
use Rattle.ipc_state.specs.Held.{Held, ready_of}
use Rattle.ipc_state.specs.Held.Ready.{Nothing, MsgQueue}
use Rattle.ipc_state.proofs.Inside.{ready-in}
use Rattle.std.specs.Int.{w32, cast_signed as to_z, cast_unsigned as of_z}
use Rattle.std.proofs.lemmas.Int.{to_z-of_z}
use Rattle.ipc_state.proofs.state.State.reserve_msg_queue.Goals as goal

pub returns-clause-ok : goal.returns-clause-ok
returns-clause-ok c =
    let t = c.self.inside in
    let v = the_view t in
    let released = c.self.view_is ∙ c.release.ensures in
    let none = ready-in t Nothing (ap (λ (m : Held). m.ready) released) in
    let key : to_z w32 (of_z w32 c.args.key) ≡ c.args.key = to_z-of_z w32 c.args.key c.ranges.key in
    on_ok_weaker c.reserve.result
    (λ is. (λ i. let h : Held = record v {
      state = record v.state { msg = (is i).objects };
      ready = ready_of (none.process i) (option_map (λ r. r.0) (is i).ready) (none.semset i) (none.shm i) (none.mq i) (none.psem i)
          (none.pshm i) (none.zeros i);
    } in h)
    ∙ (λ i. let h : Held = record v { ready = MsgQueue (key i) } in h)
    ∙ ap (λ (m : Held). let h : Held = record m { ready = MsgQueue c.args.key } in h) released)
    c.reserve.ensures.ok

pub returns-clause-err : goal.returns-clause-err
returns-clause-err c =
    let t = c.self.inside in
    let v = the_view t in
    let released = c.self.view_is ∙ c.release.ensures in
    let none = ready-in t Nothing (ap (λ (m : Held). m.ready) released) in
    on_err_weaker c.reserve.result
    (λ is. (λ i. let h : Held = record v {
      state = record v.state { msg = (is i).objects };
      ready = ready_of (none.process i) (option_map (λ r. r.0) (is i).ready) (none.semset i) (none.shm i) (none.mq i) (none.psem i)
          (none.pshm i) (none.zeros i);
    } in h)
    ∙ ap (λ (m : Held). let h : Held = record m { ready = Nothing } in h) released)
    c.reserve.ensures.err
