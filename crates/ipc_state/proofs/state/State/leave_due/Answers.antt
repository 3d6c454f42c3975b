use Rattle.std.proofs.Common.{◌≡◌, ◌∷◌, Some, refl, ap, ◌∙◌, sym, List}
use Rattle.ipc_wait.specs.Waits.{calls_due}
use Rattle.ipc_state.specs.Held.{Held}
use Rattle.ipc_state.specs.State.{due_calls}
use Rattle.ipc_state.specs.Waiting.{PlainWaiting}
use Rattle.ipc_state.proofs.state.State.leave_due.Goals as goal

pub returns-clause-first : goal.returns-clause-first
returns-clause-first c =
    let left : c.leave.result ≡ Some c.in-Some.due.now = c.leave.ensures.call ∙ c.in-Some.ensures.found in
    let first = c.in-Some.ensures.first ∙ ap (λ (ws : List PlainWaiting). c.in-Some.due.now ∷ calls_due c.self.inside.clock ws) (sym c.leave.ensures.others) in
    rw (← c.self.view_is) (rw left first)

pub returns-in_default-clause-none : goal.returns-in_default-clause-none
returns-in_default-clause-none c = (ap (λ (m : Held). due_calls m.state) (sym c.self.view_is) ∙ c.in_default.ensures.none, refl)
