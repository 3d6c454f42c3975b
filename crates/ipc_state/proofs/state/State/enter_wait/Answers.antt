use Rattle.std.proofs.Common.{◌≡◌, false, sym, subst}
use Rattle.ipc_base.proofs.CallerLemmas.{nobody}
use Rattle.ipc_wait.specs.Waits.{waiting_call_of}
use Rattle.ipc_state.specs.Held.{Held}
use Rattle.ipc_state.specs.State.{is_waiting}
use Rattle.ipc_state.proofs.state.State.enter_wait.Goals as goal

pub enter-requires-clause-free : goal.enter-requires-clause-free
enter-requires-clause-free c =
    nobody (waiting_call_of c.args.waiting.pid c.self.inside.wait.calls)
    (subst (λ (m : Held). is_waiting m.state c.args.waiting.pid.0 ≡ false) (sym c.self.view_is) c.requires.free)
