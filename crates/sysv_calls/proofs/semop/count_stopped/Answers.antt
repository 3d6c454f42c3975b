use Rattle.std.proofs.Common.{◌≡◌, ◌∙◌, ◌<◌, ◌≤◌, ◌+◌, Bool, cond, not, refl, ℕ, List, length, take, get_or, ap, sym, arith, rules, length-take-le}
use Rattle.std.specs.List.{filter}
use Rattle.std.proofs.lemmas.List.Filters.{length-filter_both, length-filter_more}
use Rattle.ipc_wire.specs.Request.{PlainKind}
use Rattle.ipc_state.specs.Waiting.{PlainWaiting}
use Rattle.sysv_calls.specs.Semop.{is_stopped}
use Rattle.sysv_calls.proofs.semop.count_stopped.Goals.{After-from-count}
use Rattle.sysv_calls.proofs.semop.count_stopped.Goals as goal

abbrev stops : After-from-count → PlainWaiting → Bool
stops c w = is_stopped c.args.state.now.limits c.args.state.now.state c.args.zero c.args.id.0 c.args.num w.pid.0 w.call.kind

-- one is counted, or none
counted : (c : After-from-count) → c.from-count.result ≡ cond (stops c
    (get_or c.args.state.now.state.wait c.loop-waiting.waiting-index c.waiting-item.result)) 1 0
counted c =
    let s = c.args.state.now in
    let byte : c.from-count.result ≡ cond c.is_stopped-is_one.result 1 0 = search rules in
    let is = c.is_stopped-is_one.ensures
    ∙ ap (λ (k : PlainKind). is_stopped s.limits s.state c.args.zero c.args.id.0 c.args.num c.waiting-item.result.pid.0 k) c.kind.ensures in
    let item : c.waiting-item.result ≡ get_or s.state.wait c.loop-waiting.waiting-index c.waiting-item.result =
    c.waiting-item.is ∙ ap (λ (l : List PlainWaiting). get_or l c.loop-waiting.waiting-index c.waiting-item.result) c.waits-waiting-items.ensures in
    byte ∙ ap (λ (b : Bool). cond b 1 0) (is ∙ ap (stops c) item)

pub overflow_add-count : goal.overflow_add-count
overflow_add-count c =
    let g = (goal.at.overflow_add-count c).After-from-count in
    let wait = c.args.state.now.state.wait in
    let i = c.loop-waiting.waiting-index in
    let before : i < length wait = omega (arith, c.loop-waiting-test.true, ap length c.waits-waiting-items.ensures) in
    let few = length-filter_both (stops g) (λ (w : PlainWaiting). not (stops g w)) (λ w. refl) (take i wait) in
    let long = length-take-le i wait (omega (arith, before)) in
    let one : c.from-count.result ≤ 1 = search rules in
    omega (arith, c.loop-waiting.invariant, few, long, one, before, c.requires)

pub loop-waiting-preserved : goal.loop-waiting-preserved
loop-waiting-preserved c =
    let g = (goal.at.loop-waiting-preserved c).After-from-count in
    let wait = c.args.state.now.state.wait in
    let i = c.loop-waiting.waiting-index in
    let before : i < length wait = omega (arith, c.loop-waiting-test.true, ap length c.waits-waiting-items.ensures) in
    ap (λ (n : ℕ). n + c.from-count.result) c.loop-waiting.invariant
    ∙ ap (λ (n : ℕ). length (filter (stops g) (take i wait)) + n) (counted g)
    ∙ sym (length-filter_more (stops g) wait i c.waiting-item.result before)
