-- It waits if nothing is to do, and not past the earliest deadline.
use Rattle.std.proofs.Common.{◌≡◌, ◌≤◌, ℕ, Bool, true, false, ◌∙◌, ap, arith}
use Rattle.std.specs.Prelude.{Option}
use Rattle.ipc_base.specs.declared.identity.Moment.{Moment}
use Rattle.ipc_wait.specs.Waits.{next_deadline}
use Rattle.ipc_server.specs.Rest.{longest_wait, until_due}
use Rattle.ipc_server.proofs.server.Server.rest.Goals as goal

-- a wait is no longer than until the deadline
not-past : (now : ℕ) (deadline : Option Moment) (failed busy : Bool) → longest_wait now deadline failed busy ≤ until_due now deadline
not-past now deadline failed true = omega arith
not-past now deadline true false = omega arith
not-past now deadline false false = omega arith

pub rest_for-requires-clause-due : goal.rest_for-requires-clause-due
rest_for-requires-clause-due g c =
    let it = c.longest_wait.ensures in
    let hub = c.loop-wait.self in
    let most = not-past c.now-now.result.0 (next_deadline hub.hub.hub.state.wait) hub.may_accept it.0 in
    omega (arith, c.min.ensures, c.min-longest.ensures, it.2, most)

-- and there is none if a turn has something to do
pub rest_for-requires-clause-idle : goal.rest_for-requires-clause-idle
rest_for-requires-clause-idle g c = λ busy.
    let it = c.longest_wait.ensures in
    let none : c.longest_wait.result ≡ 0 = it.2 ∙ ap (longest_wait c.now-now.result.0 _ _) (it.1.1 busy) in
    absurd (c.if-longest-eq0.false (omega (arith, c.min-longest.ensures, none)))
