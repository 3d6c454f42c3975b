use Rattle.std.proofs.Common.{◌≡◌, ◌≤◌, ℕ, Bool, true, false, arith, ap, ◌∙◌}
use Rattle.std.specs.Prelude.{if◌then◌else◌}
use Rattle.ipc_limits.specs.Limits.{longest_reply}
use Rattle.ipc_limits.proofs.CallerLemmas.{longest_reply-bound, passed-bounds}
use Rattle.ipc_state.specs.State.{is_waiting}
use Rattle.posix_calls.specs.Registrations.{registrations}
use Rattle.posix_calls.proofs.CallerLemmas.{registrations-few}
use Rattle.ipc_engine.specs.Bytes.{owed}
use Rattle.ipc_engine.specs.Engine.{Machine}
use Rattle.ipc_engine.proofs.engine.Engine.owed.Goals.{After-registrations}
use Rattle.ipc_engine.proofs.engine.Engine.owed.Goals as goal

-- no more than there may be queues
few : (c : After-registrations) → c.registrations.result ≤ 32768
few c =
    let s = c.self.inside.state in
    omega (
      arith,
      c.registrations.ensures,
      registrations-few s.limits s.state c.args.pid.0 c.self.invariant.1.parts,
      (passed-bounds s.limits c.self.invariant.2).queues,
    )

pub overflow_mul-result : goal.overflow_mul-result
overflow_mul-result c = omega (arith, few (goal.at.overflow_mul-result c).After-registrations)

pub overflow_add-result : goal.overflow_add-result
overflow_add-result c =
    let l = c.self.inside.state.limits in
    let same = ap (λ (m : Machine). longest_reply m.limits) c.self.view_is in
    let all : c.reply_owed.result ≤ longest_reply c.args.self.now.limits = by_test (is_waiting c.args.self.now.state c.args.pid.0) c.reply_owed.ensures in
    omega (arith, all, same, longest_reply-bound l c.self.invariant.2, few (goal.at.overflow_add-result c).After-registrations)
  where
    by_test : {n m : ℕ} (b : Bool) → n ≡ (if b then m else 0) → n ≤ m
    by_test true is = omega (arith, is)
    by_test false is = omega (arith, is)

pub returns : goal.returns
unfolding owed
returns c =
    omega (
      arith,
      c.reply_owed.ensures,
      c.registrations.ensures ∙ ap (λ (m : Machine). registrations m.state c.args.pid.0) c.self.view_is,
    )
