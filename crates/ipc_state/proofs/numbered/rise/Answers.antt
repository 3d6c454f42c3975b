use Rattle.std.proofs.Common.{◌≡◌, ◌≤◌, ◌<◌, ℕ, List, ◌+◌, map, take, get_or, sym, subst, ap, ◌∙◌, arith}
use Rattle.std.specs.Bool.{Decides}
use Rattle.std.proofs.Math.Dec.{leb}
use Rattle.std.proofs.lemmas.List.{take_all}
use Rattle.ipc_base.specs.Table.{IsRising}
use Rattle.ipc_state.proofs.Numbering.{RiseTo, rise-next, rise-stuck, rise-decides}
use Rattle.ipc_state.proofs.numbered.rise.Goals as goal

pub returns-then-from-least : goal.returns-then-from-least
returns-then-from-least g c =
    let number = g.T.HasNumber.number_of in
    let n : c.number.result ≡ number (get_or c.args.items.now c.loop-item.item-index c.item-item.result) = c.number.ensures ∙ ap number c.item-item.is in
    let below : c.number.result < c.loop-item.least = omega (arith, c.if-from-least.true, c.from.ensures) in (
      λ no. cc,
      λ all. absurd (rise-stuck number c.args.low c.args.items.now c.loop-item.item-index c.item-item.result c.loop-item-test.true c.loop-item.least
          c.args.high c.loop-item.invariant (subst (λ (k : ℕ). k < c.loop-item.least) n below) all),
    )

pub loop-item-preserved : goal.loop-item-preserved
loop-item-preserved g c =
    let number = g.T.HasNumber.number_of in
    let xs = c.args.items.now in
    let i = c.loop-item.item-index in
    let n : c.number-in-loop-item.result ≡ number (get_or xs i c.item-item.result) = c.number-in-loop-item.ensures ∙ ap number c.item-item.is in
    let first : c.number.result ≡ number (get_or xs i c.item-item.result) = c.number.ensures ∙ ap number c.item-item.is in
    let above : c.loop-item.least ≤ c.number.result = omega (arith, c.if-from-least.false, c.from.ensures) in
    subst (RiseTo c.args.low (map number (take (i + 1) xs))) (ap (λ (k : ℕ). k + 1) (sym n ∙ sym c.from-least-in-loop-item.ensures))
    (rise-next number c.args.low xs i c.item-item.result c.loop-item-test.true c.loop-item.least c.loop-item.invariant
    (subst (λ (k : ℕ). c.loop-item.least ≤ k) first above))

pub returns : goal.returns
returns g c =
    let number = g.T.HasNumber.number_of in
    let xs = c.args.items.now in
    let done : RiseTo c.args.low (map number xs) c.loop-item.least =
    subst (λ (l : List _). RiseTo c.args.low (map number l) c.loop-item.least)
    (take_all c.loop-item.item-index xs c.loop-item-test.false) c.loop-item.invariant in
    subst (λ (k : ℕ). Decides (leb c.loop-item.least k) (IsRising c.args.low (map number xs) c.args.high)) (sym c.from-2.ensures)
    (rise-decides c.args.low _ c.loop-item.least c.args.high done)
