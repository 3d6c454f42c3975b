-- One more is turned over.
use Rattle.std.proofs.Common.{◌≤◌, ◌<◌, ◌++◌, false, ℕ, List, length, get_or, map, take, drop, ap, ◌∙◌, arith}
use Rattle.std.proofs.lemmas.List.{append-nil, drop_all, get_or_default, take_all}
use Rattle.std.proofs.lemmas.List.Edits.{map_over_more}
use Rattle.ipc_heap.specs.declared.uses.Use.{Use}
use Rattle.ipc_heap.specs.View.{turned}
use Rattle.ipc_heap.proofs.uses.turn_first.Goals as goal

pub loop-each-preserved : goal.loop-each-preserved
loop-each-preserved c =
    let unused : Use = record { saved = false; next = false } in
    let u : Use = get_or c.loop-each.each-items c.loop-each.each-index unused in
    let within : c.loop-each.each-index < length c.loop-each.each-items = omega arith in
    map_over_more turned (take c.args.count c.args.uses.now) c.loop-each.each-items c.loop-each.each-index u (omega arith) c.loop-each.invariant
    (get_or_default c.loop-each.each-items c.loop-each.each-index unused u within)

pub returns : goal.returns
returns c =
    let first : List Use = take c.args.count c.args.uses.now in
    let k : ℕ = c.loop-each.each-index in
    let end : length first ≤ k = omega (arith, c.loop-each-test.false) in
    ap (λ (l : List Use). l ++ drop c.args.count c.args.uses.now)
    (c.loop-each.invariant ∙ ap (λ (l : List Use). map turned l ++ drop k first) (take_all k first end)
    ∙ ap (λ (l : List Use). map turned first ++ l) (drop_all k first end) ∙ append-nil (map turned first))
