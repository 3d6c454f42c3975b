use Rattle.std.proofs.Common.{List, ◌∙◌, ◌++◌, ◌+◌, map, take, ap, sym}
use Rattle.std.proofs.lemmas.Bool.{eq-eqb, eqb-true}
use Rattle.ipc_image.specs.declared.adjustments.Adjustment.{Adjustment}
use Rattle.ipc_image.specs.Relations.Adjustments.{plain_of}
use Rattle.ipc_image.proofs.Attaching.{left_at, too_few, front_is, next_are, all_are, of_items}
use Rattle.ipc_image.proofs.adjustments.are_adjustments.Goals as goal

pub returns-in_default : goal.returns-in_default
returns-in_default c = (
  λ false. cc,
  λ same.
      let left = left_at c.args.items.now c.loop-item.item-index c.item-item.result c.args.rows.now c.loop-item.left.now c.loop-item-test.true
      c.item-item.is c.loop-item.invariant same in
      absurd (too_few c.item-item.result c.rows-own.result.now c.loop-item.left.now _ c.rows-own.ensures.rows left c.in_default.ensures.cases),
)

pub returns-then-not-are_own : goal.returns-then-not-are_own
returns-then-not-are_own c = (
  λ false. cc,
  λ same.
      let left = left_at c.args.items.now c.loop-item.item-index c.item-item.result c.args.rows.now c.loop-item.left.now c.loop-item-test.true
      c.item-item.is c.loop-item.invariant same in
      let own = front_is c.item-item.result c.rows-own.result.now c.loop-item.left.now _ c.rows-own.ensures.rows left in
      let yes = c.are_own.ensures.1 (own ∙ ap (map plain_of) (sym c.in-Some.ensures.cases.1)) in
      let no_own = c.if-not-are_own.true in
      cc,
)

pub loop-item-preserved : goal.loop-item-preserved
loop-item-preserved c =
    let own = c.are_own.ensures.0 c.if-not-are_own.false ∙ ap (map plain_of) c.in-Some.ensures.cases.1 in
    next_are c.args.items.now c.loop-item.item-index c.item-item.result c.rows-own.result.now c.args.rows.now c.loop-item.left.now
    c.loop-item-test.true c.item-item.is c.rows-own.ensures.rows c.loop-item.invariant own
    ∙ ap (λ (l : List Adjustment). of_items (take (c.loop-item.item-index + 1) c.args.items.now) ++ map plain_of l) (sym c.in-Some.ensures.cases.2)

pub returns : goal.returns
returns c =
    let all = all_are c.args.items.now c.loop-item.item-index c.args.rows.now c.loop-item.left.now c.loop-item-test.false c.loop-item.invariant in
    (λ none. all.0 (eqb-true _ _ (sym c.is_empty.ensures ∙ none)), λ same. c.is_empty.ensures ∙ eq-eqb _ _ (all.1 same))
