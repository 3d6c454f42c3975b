-- What is kept of a request.
use Rattle.std.proofs.Common.{◌≡◌, Bool, true, false, Some, None, refl, subst}
use Rattle.std.specs.Prelude.{if◌then◌else◌}
use Rattle.ipc_wire.specs.Request.{PlainKind, PlainRequest, PlainSysv, Sysv}
use Rattle.ipc_state.specs.Held.{Held}
use Rattle.ipc_state.specs.Waiting.{may_wait}
use Rattle.sysv_calls.specs.Needs.{IsReserved, keeps_request}

module _ (before after : Held) (request : PlainRequest) where
  -- a System V call of which nothing was kept never waits
  pub never-kept : (call : PlainSysv) → request.kind ≡ Sysv call → IsReserved before after request None → may_wait (Sysv call) ≡ false
  never-kept call kind has = by_test (may_wait (Sysv call)) (subst (λ (k : PlainKind). None ≡ (if keeps_request k then Some request else None)) kind has.call)
    where
      by_test : (b : Bool) → None ≡ (if b then Some request else None) → b ≡ false
      by_test true is = cc
      by_test false is = refl

  -- what was kept is the request
  pub kept-is : (kept : PlainRequest) → IsReserved before after request (Some kept) → kept ≡ request
  kept-is kept has = by_test (keeps_request request.kind) has.call
    where
      by_test : (b : Bool) → Some kept ≡ (if b then Some request else None) → kept ≡ request
      by_test true is = cc
      by_test false is = cc
