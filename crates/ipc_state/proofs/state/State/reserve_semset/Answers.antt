use Rattle.std.proofs.Common.{◌≡◌, ◌∙◌, length, ap}
use Rattle.std.specs.Prelude.{option_map}
use Rattle.std.specs.Int.{w32, cast_signed as to_z, cast_unsigned as of_z}
use Rattle.std.proofs.lemmas.Int.{to_z-of_z}
use Rattle.std.proofs.lemmas.List.{length-replicate}
use Rattle.std.proofs.lemmas.Result.{on_ok_weaker}
use Rattle.sysv_sem.specs.Set.{Set}
use Rattle.ipc_state.specs.contracts.state.State.{the_view}
use Rattle.ipc_state.specs.Held.{Held, ready_of}
use Rattle.ipc_state.specs.Held.Ready.{Nothing, Semset}
use Rattle.ipc_state.proofs.Inside.{ready-in}
use Rattle.ipc_state.proofs.state.State.reserve_semset.Goals as goal

pub returns-clause-ok : goal.returns-clause-ok
returns-clause-ok c =
    let t = c.self.inside in
    let v = the_view t in
    let released = c.self.view_is ∙ c.release.ensures in
    let none = ready-in t Nothing (ap (λ (m : Held). m.ready) released) in
    let size = ap (λ (s : Set). length s.semaphores) c.in_ok-set.ensures ∙ length-replicate c.args.nsems _ in
    let key : to_z w32 (of_z w32 c.args.key) ≡ c.args.key = to_z-of_z w32 c.args.key c.ranges.key in
    on_ok_weaker c.reserve.result
    (λ is. (λ i. let h : Held = record v {
      state = record v.state { semset = (is i).objects };
      ready = ready_of (none.process i) (none.msg_queue i) (option_map (λ r. (r.0, length r.1.semaphores)) (is i).ready) (none.shm i) (none.mq i)
          (none.psem i) (none.pshm i) (none.zeros i);
    } in h)
    ∙ (λ i. let h : Held = record v { ready = Semset (key i) (size i) } in h)
    ∙ ap (λ (m : Held). let h : Held = record m { ready = Semset c.args.key c.args.nsems } in h) released)
    c.reserve.ensures.ok
