use Rattle.std.proofs.Common.{◌≡◌, Bool, length, take, ap, ◌∙◌, arith}
use Rattle.std.specs.Prelude.{◌&&◌, ◌||◌, None}
use Rattle.std.specs.List.{list_any}
use Rattle.std.proofs.lemmas.List.{length-map, take_all}
use Rattle.std.proofs.lemmas.List.Folds.{list_any_more}
use Rattle.ipc_keys.specs.declared.check.NameKind.TheVariants as names
use Rattle.posix_mq.specs.Queue.{Queue as Mq}
use Rattle.ipc_state.specs.declared.numbered.Item.{Item}
use Rattle.ipc_state.specs.Named.{NamedEntry}
use Rattle.ipc_state.specs.Opening.{is_on, opened_as}
use Rattle.ipc_state.specs.Tables.{item_row}
use Rattle.ipc_state.specs.Touching.{is_made_by}
use Rattle.ipc_engine.specs.Changes.{is_marked}
use Rattle.ipc_engine.proofs.Marks.{and-swap, any-rows, or-more}
use Rattle.ipc_engine.proofs.changed.Changed.mark_queues.Goals as goal

pub mark_if-requires : goal.mark_if-requires
mark_if-requires c =
    let items = c.mqs-item-items.result.now in
    omega (
      arith,
      c.requires,
      c.loop-item.invariant.few,
      c.loop-item.invariant.capacity,
      c.loop-item-test.true,
      length-map items item_row,
      ap length c.mqs-item-items.ensures,
    )

pub loop-item-preserved : goal.loop-item-preserved
loop-item-preserved c =
    let items = c.mqs-item-items.result.now in
    record {
      marked = λ o.
          let test : Item (NamedEntry Mq) → Bool = λ e. is_on (opened_as names.Mq e.number) o && is_made_by c.args.pid None e.value.object.registration in
          or-more _ _ _ _ _ _ _ (c.mark_if.ensures.marked o) (c.loop-item.invariant.marked o)
          (ap (λ (b : Bool). b && is_on (opened_as names.Mq c.item-item.result.number) o)
          (c.is_made_by.ensures ∙ ap (is_made_by c.args.pid None) c.registration.ensures)
          ∙ (and-swap (is_made_by c.args.pid None c.item-item.result.value.object.registration) (is_on (opened_as names.Mq c.item-item.result.number) o)
          ∙ ap test c.item-item.is))
          (list_any_more test items c.loop-item.item-index c.item-item.result c.loop-item-test.true);
      few = omega (arith, c.loop-item.invariant.few, c.mark_if.ensures.few);
      capacity = c.mark_if.ensures.capacity ∙ c.loop-item.invariant.capacity;
    }

pub returns : goal.returns
returns c =
    let items = c.mqs-item-items.result.now in
    let all : take c.loop-item.item-index items ≡ items = take_all c.loop-item.item-index items c.loop-item-test.false in
    record {
      marked = λ o.
          c.loop-item.invariant.marked o
          ∙ ap (λ (b : Bool). is_marked c.args.self.now.marks.items o || b)
          (ap (list_any (λ (e : Item (NamedEntry Mq)). is_on (opened_as names.Mq e.number) o && is_made_by c.args.pid None e.value.object.registration)) all
          ∙ (any-rows item_row (λ e. is_on (opened_as names.Mq e.0) o && is_made_by c.args.pid None e.1.object.registration) items
          ∙ ap (list_any (λ e. is_on (opened_as names.Mq e.0) o && is_made_by c.args.pid None e.1.object.registration)) c.mqs-item-items.ensures));
      capacity = c.loop-item.invariant.capacity;
    }
