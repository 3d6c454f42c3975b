-- The requests of calls that wait are as short as a version with bounds reckons them.
use Rattle.std.proofs.Common.{ℕ, ◌≤◌, ◌+◌, length, arith}
use Rattle.std.specs.Prelude.{All}
use Rattle.std.proofs.lemmas.List.Elements.{All-weaker}
use Rattle.ipc_limits.specs.declared.limits.Limits.{Limits}
use Rattle.ipc_wire.specs.Spelling.{request_bytes}
use Rattle.ipc_state.specs.State.{State}
use Rattle.ipc_state.specs.Waiting.{PlainWaiting}
use Rattle.ipc_engine.specs.Sound.{IsSound}
use Rattle.ipc_engine.proofs.CallerLemmas.{waiting-requests}
use Rattle.ipc_image.specs.Format.{format_three}
use Rattle.ipc_image.specs.Saved.{waiting_bytes}
use Rattle.ipc_image.specs.Sizes.{waiting_request}

pub waits-bounded : (limits : Limits) (s : State) (journal : ℕ) → IsSound limits s
    → All (λ w. length (waiting_bytes w) ≤ 16 + waiting_request (format_three journal) limits) s.wait
waits-bounded limits s journal sound =
    All-weaker (λ (w : PlainWaiting). length (request_bytes w.call) ≤ waiting_request (format_three journal) limits)
    (λ w. length (waiting_bytes w) ≤ 16 + waiting_request (format_three journal) limits) (λ w short. omega (arith, short)) s.wait
    (waiting-requests limits s sound)
