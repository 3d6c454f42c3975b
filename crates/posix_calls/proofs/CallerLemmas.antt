-- What the crates above cite of the calls.
use Rattle.std.proofs.Common.{◌≡◌, ◌≢◌, ℕ, ◌≤◌, ◌+◌, Bool, true, false, not, List, length, Option, Some, None, refl, ap, subst, ◌∙◌, arith}
use Rattle.std.specs.Prelude.{is_some, if◌then◌else◌}
use Rattle.std.proofs.lemmas.Bool.{leb-true}
use Rattle.ipc_limits.specs.declared.limits.Limits.{Limits}
use Rattle.ipc_wire.specs.Posix.{PlainPosix}
use Rattle.ipc_wire.specs.Posix as calls
use Rattle.ipc_wire.specs.Request.{PlainKind, PlainRequest, Posix}
use Rattle.ipc_state.specs.declared.parked.Awaited.{Awaited}
use Rattle.ipc_state.specs.Finish.{Finish, IfFinishes, has_to_wait}
use Rattle.ipc_state.specs.Held.{Held}
use Rattle.ipc_state.specs.Sound.{HasSoundParts}
use Rattle.ipc_state.specs.State.{State, is_waiting}
use Rattle.ipc_state.specs.Touching.{object_of}
use Rattle.ipc_state.specs.Waiting.{awaited_by, may_wait}
use Rattle.ipc_state.proofs.CallerLemmas.{IsGood, by-finish, refused-good, waits-blocked, waits-for}
use Rattle.posix_calls.specs.Calls.{attempt, definition_of, touched}
use Rattle.posix_calls.specs.Needs.{IsReserved, keeps_request}
use Rattle.posix_calls.specs.Registrations.{may_make, own, registrations}
use Rattle.posix_calls.proofs.Ending.{call-ends}
use Rattle.posix_calls.proofs.Reaching.{sends-short}
pub use Rattle.posix_calls.proofs.Alike.{waits-alike, waits-there}
pub use Rattle.posix_calls.proofs.Debts.{registrations-exited, registrations-few, registrations-none, registrations-restarted}

-- From a sound state a call of a process that does not wait ends in one, with a body that fits, and changes no more than
-- its own object.
pub attempt-good : (limits : Limits) (s : State) (pid : ℕ) (call : PlainPosix) → is_waiting s pid ≡ false
    → IfFinishes (IsGood limits s (touched s pid call)) (attempt limits s pid call)
attempt-good limits s pid call free =
    by-finish (IsGood limits s (touched s pid call)) s (definition_of limits s pid call) (λ d is. ((call-ends limits s pid call).holds d is).good free)
    (refused-good limits s (touched s pid call))

-- What a call of a process leaves of this one: it has no more registrations than before, with those that were fired, but
-- for one that the call made; if it is another, it has the same objects.
pub record LeavesOf (s : State) (pid p : ℕ) (f : Finish) : Type 0 where
  pub owed : own p f.fired + registrations f.state p ≤ registrations s p + may_make pid f.body p
  pub objects : p ≢ pid → (on : Awaited) → object_of f.state p on ≡ object_of s p on

pub call-leaves : (limits : Limits) (s : State) (pid : ℕ) (call : PlainPosix) (p : ℕ) → IfFinishes (LeavesOf s pid p) (attempt limits s pid call)
call-leaves limits s pid call p =
    by-finish (LeavesOf s pid p) s (definition_of limits s pid call)
    (λ d is. let left = (call-ends limits s pid call).holds d is in record { owed = left.owes p; objects = left.objects p })
    (λ e. record { owed = omega arith; objects = λ other on. refl })

-- a call that waits on nothing never waits
pub never-waits : (limits : Limits) (s : State) (pid : ℕ) (call : PlainPosix) → awaited_by (Posix call) ≡ None
    → has_to_wait (attempt limits s pid call) ≡ false
never-waits limits s pid call is =
    waits-blocked s (definition_of limits s pid call) ∙ (call-ends limits s pid call).runs (ap (λ (o : Option Awaited). not (is_some o)) is)

-- the text of a send that waits is no longer than that of any message
pub mq_send-short : (limits : Limits) (s : State) (pid fd deadline priority : ℕ) (text : List ℕ) → HasSoundParts limits s
    → has_to_wait (attempt limits s pid (calls.MqSend fd deadline priority text)) ≡ true → length text ≤ limits.msgsize
mq_send-short limits s pid fd deadline priority text h waits = leb-true _ _ (waits-for s _ _ (sends-short limits s pid fd priority text h) waits)

-- ---- what is reserved

module _ (before after : Held) (request : PlainRequest) where
  -- a POSIX call of which nothing was kept never waits
  pub never-kept : (call : PlainPosix) → request.kind ≡ Posix call → IsReserved before after request None → may_wait (Posix call) ≡ false
  never-kept call kind has = by_test (may_wait (Posix call)) (subst (λ (k : PlainKind). None ≡ (if keeps_request k then Some request else None)) kind has.call)
    where
      by_test : (b : Bool) → None ≡ (if b then Some request else None) → b ≡ false
      by_test true is = cc
      by_test false is = refl

  -- what was kept is the request
  pub kept-is : (kept : PlainRequest) → IsReserved before after request (Some kept) → kept ≡ request
  kept-is kept has = by_test (keeps_request request.kind) has.call
    where
      by_test : (b : Bool) → Some kept ≡ (if b then Some request else None) → kept ≡ request
      by_test true is = cc
      by_test false is = cc
