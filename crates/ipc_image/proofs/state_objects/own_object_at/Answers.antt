use Rattle.std.proofs.Common.{◌-◌, ℕ, ap, sym, subst, arith, length, get_or}
use Rattle.std.proofs.lemmas.List.{length-map}
use Rattle.ipc_base.specs.declared.objects.Mark.{Mark}
use Rattle.ipc_state.specs.State.{State}
use Rattle.ipc_image.specs.declared.format.Format.{Format}
use Rattle.ipc_state.specs.Tables.{item_row}
use Rattle.ipc_image.specs.Kind.{FitsIn}
use Rattle.ipc_image.specs.Saved.{queue_object, set_object, LaterObjects, later_in, later_objects, saved_in, FitsQueue, FitsSet}
use Rattle.ipc_image.specs.SavedParts.{FitsOwnObject, IsFound, IsMarkOfLater, IsMarkOfQueue, IsMarkOfSet, IsMarkOfOwnObject, MarkAt, Stands}
use Rattle.ipc_image.specs.SavedParts.{object_of, seen_later, seen_state}
use Rattle.ipc_image.proofs.Marks.{each-at, table-at, here, past}
use Rattle.ipc_image.proofs.LaterSizes.{later-counted}
use Rattle.ipc_image.proofs.SavedObjects.{seen_count, found-thing}
use Rattle.ipc_image.proofs.WholeState.{sets_and_later}
use Rattle.ipc_image.proofs.state_objects.own_object_at.Goals as goal

-- the marks of those of later kinds, and of the sets and them
abbrev last : State → ℕ → Mark → Type 0
last s = IsMarkOfLater (later_in s)

abbrev later : State → ℕ → Mark → Type 0
later s = MarkAt IsMarkOfSet (last s) s.semset.entries

pub returns-then-at-objects : goal.returns-then-at-objects
returns-then-at-objects c =
    let o = c.objects.inside in
    let s : State = seen_state o.numbers o.processes.now o.waits.now o.undo.now o.queues.now o.sets.now
    (seen_later o.numbers o.mqs.now o.sems.now o.segments.now o.shms.now) in
    let at : ℕ = c.args.i - 4 in
    let q = get_or o.queues.now at c.index-objects-at.result in
    let is = table-at item_row o.queues.now at c.index-objects-at.result c.if-at-objects.true in
    subst (λ (t : Format × State). IsFound t.0 t.1 c.args.i (queue_object t.0.marks (item_row q)) (IsMarkOfQueue t.0.marks (item_row q))
    (FitsIn FitsQueue (item_row q)))
    c.objects.view_is (found-thing o.form s c.objects.invariant.2 c.args.i c.requires.thing _ _ _
    (each-at (FitsIn FitsQueue) s.msg.entries at (item_row q) c.objects.invariant.1.queues is)
    (here (queue_object o.form.marks) (IsMarkOfQueue o.form.marks) (later s) s.msg.entries (sets_and_later s) at (item_row q) is))

pub returns-then-at-objects-2 : goal.returns-then-at-objects-2
returns-then-at-objects-2 c =
    let o = c.objects.inside in
    let s : State = seen_state o.numbers o.processes.now o.waits.now o.undo.now o.queues.now o.sets.now
    (seen_later o.numbers o.mqs.now o.sems.now o.segments.now o.shms.now) in
    let at : ℕ = c.args.i - 4 - length o.queues.now in
    let e = get_or o.sets.now at c.index-objects-at-then-at-objects-2.result in
    let is = table-at item_row o.sets.now at c.index-objects-at-then-at-objects-2.result c.if-at-objects-2.true in
    subst (λ (t : Format × State). IsFound t.0 t.1 c.args.i (set_object (item_row e)) (IsMarkOfSet (item_row e)) (FitsIn FitsSet (item_row e)))
    c.objects.view_is (found-thing o.form s c.objects.invariant.2 c.args.i c.requires.thing _ _ _
    (each-at (FitsIn FitsSet) s.semset.entries at (item_row e) c.objects.invariant.1.sets is)
    (past (queue_object o.form.marks) (IsMarkOfQueue o.form.marks) (later s) s.msg.entries (sets_and_later s) (c.args.i - 4) at _ _
    (omega (arith, length-map o.queues.now item_row, c.if-at-objects.false))
    (here set_object IsMarkOfSet (last s) s.semset.entries (later_objects (later_in s)) at (item_row e) is)))

pub later_at-requires : goal.later_at-requires
later_at-requires c =
    let o = c.objects.inside in
    let seen : LaterObjects = seen_later o.numbers o.mqs.now o.sems.now o.segments.now o.shms.now in
    omega (
      arith,
      ap (λ (t : Format × State). length (saved_in t.0 t.1)) c.objects.view_is,
      ap (λ (t : Format × State). length (later_objects (later_in t.1))) c.objects.view_is,
      seen_count o.form o.numbers o.processes.now o.waits.now o.undo.now o.queues.now o.sets.now seen,
      later-counted seen,
      c.requires.object,
      c.requires.thing,
      c.if-at-objects.false,
      c.if-at-objects-2.false,
    )

pub returns : goal.returns
returns c =
    let o = c.objects.inside in
    let s : State = seen_state o.numbers o.processes.now o.waits.now o.undo.now o.queues.now o.sets.now
    (seen_later o.numbers o.mqs.now o.sems.now o.segments.now o.shms.now) in
    let second : ℕ = c.args.i - 4 - length o.queues.now in
    let at : ℕ = second - length o.sets.now in
    let r = c.later_at.result in
    let stands = subst (λ (t : Format × State). Stands (later_objects (later_in t.1)) (IsMarkOfLater (later_in t.1)) at (object_of t.0.marks r)
    (IsMarkOfOwnObject t.0.marks r))
    (sym c.objects.view_is) c.later_at.ensures.stands in
    subst (λ (t : Format × State). IsFound t.0 t.1 c.args.i (object_of t.0.marks r) (IsMarkOfOwnObject t.0.marks r) (FitsOwnObject r))
    c.objects.view_is (found-thing o.form s c.objects.invariant.2 c.args.i c.requires.thing _ _ _ c.later_at.ensures.fits
    (past (queue_object o.form.marks) (IsMarkOfQueue o.form.marks) (later s) s.msg.entries (sets_and_later s) (c.args.i - 4) second _ _
    (omega (arith, length-map o.queues.now item_row, c.if-at-objects.false))
    (past set_object IsMarkOfSet (last s) s.semset.entries (later_objects (later_in s)) second at _ _
    (omega (arith, length-map o.sets.now item_row, c.if-at-objects-2.false)) stands)))
