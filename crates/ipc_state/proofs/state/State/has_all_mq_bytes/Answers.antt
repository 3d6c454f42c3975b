use Rattle.std.proofs.Common.{◌≡◌, ◌<◌, ◌≤◌, ◌+◌, Bool, true, false, not, ℕ, Option, Some, refl, sym, ap, subst, ◌∙◌, arith}
use Rattle.std.specs.Prelude.{◌-◌, nat_lt}
use Rattle.std.specs.Bool.{Decides}
use Rattle.std.proofs.lemmas.Bool.Decides.{nat_tests}
use Rattle.ipc_limits.specs.declared.limits.Limits.{Limits}
use Rattle.ipc_limits.specs.Limits.{exceeds, queue_bytes_limit}
use Rattle.ipc_state.specs.Held.{Held}
use Rattle.ipc_state.specs.State.{mq_bytes}
use Rattle.ipc_state.proofs.state.State.has_all_mq_bytes.Goals as goal

-- what is left under a limit is enough where the sum does not exceed it
enough : (fits : Bool) (sum bytes most left : ℕ) → Decides fits (sum ≤ left) → left + bytes ≡ most → not fits ≡ nat_lt most (sum + bytes)
enough true sum bytes most left told is = let le : sum ≤ left = told.0 refl in sym (grind (arith, nat_tests))
enough false sum bytes most left told is = let not_le : sum ≤ left → ⊥ = λ le. (let no = told.1 le in cc) in sym (grind (arith, nat_tests))

pub returns-else-most-bytes : goal.returns-else-most-bytes
returns-else-most-bytes c =
    let s = c.args.self.now in
    let limit : queue_bytes_limit s.limits ≡ Some c.in-Some.most =
    ap (λ (m : Held). queue_bytes_limit m.limits) (sym c.self.view_is) ∙ (sym c.queue_bytes_limit.ensures ∙ c.in-Some.is) in
    let told : Decides c.count_at_most.result (mq_bytes s.state.mq ≤ c.in-Some.most - c.args.bytes) =
    subst (λ (m : Held). Decides c.count_at_most.result (mq_bytes m.state.mq ≤ c.in-Some.most - c.args.bytes)) c.self.view_is (
      λ yes. omega (arith, c.count_at_most.ensures.0 yes, c.from-most.ensures),
      λ le. c.count_at_most.ensures.1 (omega (arith, le, c.from-most.ensures)),
    ) in
    let few : c.args.bytes ≤ c.in-Some.most = omega (arith, c.if-most-bytes.false, c.from-most.ensures) in
    enough c.count_at_most.result (mq_bytes s.state.mq) c.args.bytes c.in-Some.most (c.in-Some.most - c.args.bytes) told (omega arith)
    ∙ ap (λ (o : Option ℕ). exceeds (mq_bytes s.state.mq + c.args.bytes) o) (sym limit)
