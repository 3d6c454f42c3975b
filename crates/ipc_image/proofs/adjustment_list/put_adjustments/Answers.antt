use Rattle.std.proofs.Common.{◌∙◌, ap, map, length, arith}
use Rattle.std.specs.List.{flat_map}
use Rattle.std.proofs.lemmas.List.{length-map, take_all}
use Rattle.ipc_state.specs.Tables.{item_row}
use Rattle.ipc_image.specs.Saved.{count_bytes, adjustment_bytes, adjustments_in}
use Rattle.ipc_image.specs.Window.{passed}
use Rattle.ipc_image.proofs.AdjustmentLists.{own_bytes, all-own}
use Rattle.ipc_image.proofs.Marks.{row-at}
use Rattle.ipc_image.proofs.Windows.{passed-next, passed-both}
use Rattle.ipc_image.proofs.adjustment_list.put_adjustments.Goals as goal

pub loop-item-preserved : goal.loop-item-preserved
loop-item-preserved c =
    let items = c.args.items.now in
    let p = item_row c.item-item.result in
    let here = row-at item_row items c.loop-item.item-index c.item-item.result c.loop-item-test.true c.item-item.is in
    c.put_own.ensures ∙ ap (passed (own_bytes p)) c.loop-item.invariant
    ∙ passed-next c.put_count.new.window own_bytes (map item_row items) c.loop-item.item-index p here

pub returns : goal.returns
returns c =
    let ps = map item_row c.args.items.now in
    let xs = adjustments_in ps in
    let all = take_all c.loop-item.item-index ps (omega (arith, c.loop-item-test.false, length-map c.args.items.now item_row)) in
    let begun = c.put_count.ensures ∙ ap (λ n. passed (count_bytes n) c.args.window.now) c.adjustment_count.ensures in
    c.loop-item.invariant ∙ ap (λ l. passed (flat_map own_bytes l) c.put_count.new.window) all
    ∙ ap (λ l. passed l c.put_count.new.window) (all-own ps) ∙ ap (passed (flat_map adjustment_bytes xs)) begun
    ∙ passed-both c.args.window.now (count_bytes (length xs)) (flat_map adjustment_bytes xs)
