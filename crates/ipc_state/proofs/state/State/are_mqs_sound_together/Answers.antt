use Rattle.std.proofs.Common.{◌≡◌, ◌+◌, Bool, true, false, not, ℕ, List, map, refl, sym, ap, subst, ◌∙◌, arith}
use Rattle.std.specs.Prelude.{All}
use Rattle.std.specs.Bool.{Decides}
use Rattle.ipc_limits.specs.Limits.{exceeds, queue_bytes_limit}
use Rattle.ipc_state.specs.Held.{Held}
use Rattle.ipc_state.specs.Named.{NamedEntry}
use Rattle.posix_mq.specs.Queue.{Queue as Mq}
use Rattle.ipc_state.specs.Opening.{is_registered}
use Rattle.ipc_state.specs.State.{mq_bytes}
use Rattle.ipc_state.specs.Tables.{item_row}
use Rattle.ipc_state.proofs.SoundMqs.{all-tests}
use Rattle.ipc_state.proofs.SoundQueues.{not-decides}
use Rattle.ipc_state.proofs.state.State.are_mqs_sound_together.Goals.{After-are_registered}
use Rattle.ipc_state.proofs.state.State.are_mqs_sound_together.Goals as goal

registered : (c : After-are_registered) → Decides c.are_registered.result
    (All (λ e. is_registered c.args.self.now.state.processes.entries e ≡ true) c.args.self.now.state.mq.entries)
registered c =
    let ps = c.args.self.now.state.processes.entries in
    let IsIt : ℕ × NamedEntry Mq → Type 0 = λ e. is_registered ps e ≡ true in
    let is = c.items.ensures ∙ ap (λ (m : Held). m.state.mq.entries) c.self.view_is in
    subst (λ (es : List (ℕ × NamedEntry Mq)). Decides c.are_registered.result (All IsIt es)) is
    (subst (λ (b : Bool). Decides b (All IsIt (map item_row c.items.result.now))) (sym c.are_registered.ensures)
    (all-tests (is_registered ps) item_row c.items.result.now))

pub returns-then-are_registered : goal.returns-then-are_registered
returns-then-are_registered c =
    let s = c.args.self.now in
    let none : mq_bytes s.state.mq + 0 ≡ mq_bytes s.state.mq = omega arith in
    let is : c.has_all_mq_bytes.result ≡ exceeds (mq_bytes s.state.mq) (queue_bytes_limit s.limits) =
    c.has_all_mq_bytes.ensures ∙ ap (λ (n : ℕ). exceeds n (queue_bytes_limit s.limits)) none in
    let told = not-decides c.has_all_mq_bytes.result in (
      λ yes. record {
        registered = (registered ((goal.at.returns-then-are_registered c).After-are_registered)).0 c.if-are_registered.true;
        bytes = sym is ∙ told.0 yes;
      },
      λ h. told.1 (is ∙ h.bytes),
    )

pub returns-else-are_registered : goal.returns-else-are_registered
returns-else-are_registered c = (
  λ yes. let no = c.if-are_registered.false in cc,
  λ h. (registered ((goal.at.returns-else-are_registered c).After-are_registered)).1 h.registered,
)
