use Rattle.std.proofs.Common.{◌∙◌, ap}
use Rattle.std.specs.List.{flat_map}
use Rattle.std.proofs.lemmas.List.{take_all}
use Rattle.ipc_state.specs.Tables.{item_row}
use Rattle.ipc_image.specs.Window.{passed}
use Rattle.ipc_image.proofs.AdjustmentLists.{row_bytes, own-rows, first-long}
use Rattle.ipc_image.proofs.Windows.{passed-more, passed-full}
use Rattle.ipc_image.proofs.adjustment_list.put_own.Goals as goal

pub loop-at-init : goal.loop-at-init
loop-at-init c =
    let first = c.passes_over_first-first in
    first.ensures.passed _ (first-long c.args.item.now.number c.rows-rows.result.now first.result first.ensures.within)

pub returns-then-is_full : goal.returns-then-is_full
returns-then-is_full c =
    let p = item_row c.args.item.now in
    let rows = c.rows-rows.result.now in
    let w = c.args.window.now in
    passed-full w (row_bytes p.0) rows c.loop-at.at c.loop-at.window c.loop-at.invariant (c.is_full.ensures c.if-is_full.true)
    ∙ ap (λ l. passed l w) (own-rows p rows c.rows-rows.ensures.rows)

pub loop-at-preserved : goal.loop-at-preserved
loop-at-preserved c =
    c.put_adjustment.ensures ∙ ap (passed _) c.loop-at.invariant
    ∙ passed-more c.args.window.now (row_bytes c.args.item.now.number) c.rows-rows.result.now c.loop-at.at _ c.loop-at-test.true

pub returns : goal.returns
returns c =
    let p = item_row c.args.item.now in
    let rows = c.rows-rows.result.now in
    let w = c.args.window.now in
    let all = take_all c.loop-at.at rows c.loop-at-test.false in
    c.loop-at.invariant ∙ ap (λ l. passed (flat_map (row_bytes p.0) l) w) all ∙ ap (λ l. passed l w) (own-rows p rows c.rows-rows.ensures.rows)
