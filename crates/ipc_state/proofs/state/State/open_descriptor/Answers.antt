use Rattle.std.proofs.Common.{◌<◌, ◌^◌, arith, sym, subst}
use Rattle.ipc_base.specs.Table.{keys_of, IsRising}
use Rattle.ipc_base.proofs.CallerLemmas.{rising-weaker}
use Rattle.ipc_limits.proofs.CallerLemmas.{passed-bounds}
use Rattle.ipc_state.specs.Held.{Held}
use Rattle.ipc_state.specs.Opening.{descriptors_of}
use Rattle.ipc_state.specs.State.{objects_in}
use Rattle.ipc_state.proofs.SoundOpening.{table-sound}
use Rattle.ipc_state.proofs.state.State.open_descriptor.Goals as goal

pub open-requires-clause-rising : goal.open-requires-clause-rising
open-requires-clause-rising c =
    let m = c.args.self.now in
    let table = table-sound m.limits (objects_in m.state) m.state.processes.entries c.args.pid.0 c.requires.sound.processes.descriptors in
    let most = (passed-bounds c.self.inside.limits c.self.invariant).descriptors in
    let few = subst (λ (h : Held). h.limits.descriptors < 2 ^ 32) c.self.view_is (omega (arith, most)) in
    subst (λ (h : Held). IsRising 0 (keys_of (descriptors_of h.state.processes.entries c.args.pid.0)) (2 ^ 32)) (sym c.self.view_is)
    (rising-weaker 0 _ m.limits.descriptors (2 ^ 32) (omega (arith, few)) table.numbers)
