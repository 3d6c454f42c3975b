use Rattle.std.proofs.Common.{◌≡◌, ℕ, Bool, length, take, ap, ◌∙◌, arith}
use Rattle.std.specs.Prelude.{◌&&◌, ◌||◌}
use Rattle.std.specs.List.{list_any}
use Rattle.std.proofs.lemmas.List.{length-map, take_all}
use Rattle.std.proofs.lemmas.List.Folds.{list_any_more}
use Rattle.shm_segment.specs.SysSegment.{SysSegment}
use Rattle.ipc_state.specs.declared.numbered.Item.{Item}
use Rattle.ipc_state.specs.declared.parked.Object.{Object as PlainObject}
use Rattle.ipc_state.specs.declared.parked.ObjectKind.TheVariants as kinds
use Rattle.ipc_state.specs.Keyed.{KeyedEntry}
use Rattle.ipc_state.specs.Opening.{is_on, object_as}
use Rattle.ipc_state.specs.Tables.{item_row}
use Rattle.ipc_state.specs.Touching.{is_opened_by}
use Rattle.ipc_engine.specs.Changes.{is_marked}
use Rattle.ipc_engine.proofs.Marks.{and-swap, any-rows, or-more}
use Rattle.ipc_engine.proofs.changed.Changed.mark_segments.Goals as goal

pub mark_if-requires : goal.mark_if-requires
mark_if-requires c =
    let items = c.shms-item-items.result.now in
    omega (
      arith,
      c.requires,
      c.loop-item.invariant.few,
      c.loop-item.invariant.capacity,
      c.loop-item-test.true,
      length-map items item_row,
      ap length c.shms-item-items.ensures,
    )

pub loop-item-preserved : goal.loop-item-preserved
loop-item-preserved c =
    let items = c.shms-item-items.result.now in
    let s = c.args.state.now.state in
    record {
      marked = λ o.
          let test : Item (KeyedEntry SysSegment) → Bool =
          λ e. is_on (object_as kinds.Shm e.number) o && is_opened_by c.args.pid s.processes.entries (object_as kinds.Shm e.number) in
          let this = object_as kinds.Shm c.item-item.result.number in
          or-more _ _ _ _ _ _ _ (c.mark_if.ensures.marked o) (c.loop-item.invariant.marked o)
          (ap (λ (b : Bool). b && is_on this o) c.is_opened_by.ensures
          ∙ (and-swap (is_opened_by c.args.pid s.processes.entries this) (is_on this o)
          ∙ ap test c.item-item.is))
          (list_any_more test items c.loop-item.item-index c.item-item.result c.loop-item-test.true);
      few = omega (arith, c.loop-item.invariant.few, c.mark_if.ensures.few);
      capacity = c.mark_if.ensures.capacity ∙ c.loop-item.invariant.capacity;
    }

pub returns : goal.returns
returns c =
    let items = c.shms-item-items.result.now in
    let opens : PlainObject → ℕ × KeyedEntry SysSegment → Bool =
    λ o e. is_on (object_as kinds.Shm e.0) o && is_opened_by c.args.pid c.args.state.now.state.processes.entries (object_as kinds.Shm e.0) in
    let all : take c.loop-item.item-index items ≡ items = take_all c.loop-item.item-index items c.loop-item-test.false in
    record {
      marked = λ o.
          c.loop-item.invariant.marked o
          ∙ ap (λ (b : Bool). is_marked c.args.self.now.marks.items o || b)
          (ap (list_any (λ (e : Item (KeyedEntry SysSegment)). opens o (item_row e))) all
          ∙ (any-rows item_row (opens o) items ∙ ap (list_any (opens o)) c.shms-item-items.ensures));
      few = omega (
        arith,
        c.loop-item.invariant.few,
        length-map items item_row,
        ap length c.shms-item-items.ensures,
        c.loop-item-test.false,
        ap length all,
      );
      capacity = c.loop-item.invariant.capacity;
    }
