use Rattle.std.proofs.Common.{ap, ◌∙◌}
use Rattle.std.specs.Prelude.{map}
use Rattle.ipc_keys.specs.declared.check.NameKind.TheVariants as names
use Rattle.ipc_state.specs.declared.parked.ObjectKind.TheVariants as kinds
use Rattle.ipc_state.specs.Held.{Held}
use Rattle.ipc_state.specs.Held.Ready.{Nothing}
use Rattle.ipc_state.specs.Opening.{still_open}
use Rattle.ipc_state.specs.State.{State, swept}
use Rattle.ipc_state.specs.Tables.{item_row}
use Rattle.ipc_state.proofs.Inside.{state_in}
use Rattle.ipc_state.proofs.state.State.sweep.Goals as goal

pub returns : goal.returns
returns c =
    let t = c.self.inside in
    let state = (λ i. let s : State = record (state_in t) {
      shm = (c.sweep.ensures i).objects;
      mq = (c.sweep-2.ensures i).objects;
      psem = (c.sweep-3.ensures i).objects;
      pshm = (c.sweep-4.ensures i).objects;
    } in s)
    ∙ (λ i. let s : State = record (state_in t) {
      shm = still_open kinds.Shm (map item_row (c.items.ensures i)) t.shm.objects;
      mq = still_open (kinds.Named names.Mq) (map item_row (c.items-2.ensures i)) t.mq.objects;
      psem = still_open (kinds.Named names.Psem) (map item_row (c.items-3.ensures i)) t.psem.objects;
      pshm = still_open (kinds.Named names.Pshm) (map item_row (c.items-4.ensures i)) t.pshm.objects;
    } in s)
    ∙ ap (λ (m : Held). swept m.state) c.self.view_is in
    let limits = ap (λ (m : Held). m.limits) c.self.view_is in
    let waits = ap (λ (m : Held). m.waits) c.self.view_is in
    c.release.ensures ∙ (λ i. record { limits = limits i; state = state i; ready = Nothing; waits = waits i })
