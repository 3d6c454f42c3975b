use Rattle.std.proofs.Common.{ap, ◌∙◌, List}
use Rattle.std.specs.Prelude.{nat_eq}
use Rattle.ipc_base.specs.Table.{without}
use Rattle.sem_undo.specs.Undo.{Undo}
use Rattle.ipc_state.specs.declared.processes.Process.{Process}
use Rattle.ipc_state.specs.Attached.{detached_all}
use Rattle.ipc_state.specs.Held.{Held}
use Rattle.ipc_state.specs.Held.Ready.{Nothing}
use Rattle.ipc_state.specs.Numbered.{Numbered, without_entry}
use Rattle.ipc_state.specs.Opening.{descriptors_of}
use Rattle.ipc_state.specs.State.{State, without_waiting}
use Rattle.ipc_state.specs.Waiting.{PlainWaiting}
use Rattle.ipc_state.proofs.Inside.{state_in}
use Rattle.ipc_state.proofs.state.State.drop_process.Goals as goal

-- it is taken out of the state that is left once its adjustments are added, and its segments detached
pub returns : goal.returns
returns c =
    let t = c.self.inside in
    let gone = c.self.view_is ∙ c.detach_all.ensures
    ∙ ap (λ (m : Held). record m {
      state = record m.state { shm = detached_all m.state.clock c.args.pid.0 m.state.shm (descriptors_of m.state.processes.entries c.args.pid.0) };
    }) c.add_adjustments_of.ensures in
    let taken : Numbered Process → Numbered Undo → List PlainWaiting → State =
    λ (ps : Numbered Process) (us : Numbered Undo) (ws : List PlainWaiting). record (state_in t) { processes = ps; wait = ws; undo = us.entries } in
    let state = (λ i. taken (c.remove-2.ensures i) (c.remove.ensures i) (c.leave-waiting.ensures.others i))
    ∙ ap (λ (m : Held). without_waiting (record m.state {
      processes = without_entry m.state.processes c.args.pid.0;
      undo = without nat_eq m.state.undo c.args.pid.0;
    }) c.args.pid.0) gone in
    let limits = ap (λ (m : Held). m.limits) gone in
    let waits = c.leave-waiting.ensures.room ∙ ap (λ (m : Held). m.waits) gone in
    c.release.ensures ∙ (λ i. record { limits = limits i; state = state i; ready = Nothing; waits = waits i })
