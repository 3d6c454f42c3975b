use Rattle.std.proofs.Common.{◌≡◌, ◌<◌, ◌≤◌, ◌-◌, ℕ, List, ap, sym, subst, arith, length, get_or, map}
use Rattle.std.proofs.lemmas.List.{length-map}
use Rattle.ipc_base.specs.declared.objects.Mark.{Mark}
use Rattle.ipc_state.specs.State.{State}
use Rattle.ipc_image.specs.declared.format.Format.{Format}
use Rattle.ipc_state.specs.Tables.{item_row}
use Rattle.ipc_state.specs.declared.numbered.Item.{Item}
use Rattle.ipc_state.specs.declared.state.Numbers.{Numbers}
use Rattle.ipc_state.specs.Keyed.{KeyedEntry}
use Rattle.ipc_state.specs.Named.{NamedEntry}
use Rattle.posix_mq.specs.Queue.{Queue as Mq}
use Rattle.shm_segment.specs.Segment.{Segment}
use Rattle.shm_segment.specs.SysSegment.{SysSegment}
use Rattle.ipc_image.specs.Kind.{FitsIn}
use Rattle.ipc_image.specs.Saved.{mq_object, psem_object, pshm_object, shm_object, FitsMq, FitsPsem, FitsSegment, FitsShm}
use Rattle.ipc_image.specs.Saved.{LaterObjects, later_in, later_objects}
use Rattle.ipc_image.specs.SavedParts.{IsAnyMark, IsMarkOfMq, IsMarkOfLater, MarkAt, Stands, seen_later}
use Rattle.ipc_image.proofs.Marks.{each-at, table-at, here, here-last, past}
use Rattle.ipc_image.proofs.LaterObjects.{from_psems, from_pshms}
use Rattle.ipc_image.proofs.LaterSizes.{later-counted}
use Rattle.ipc_image.proofs.state_objects.later_at.Goals as goal

-- the marks of the last kind, of the last two, and of the last three
abbrev last : LaterObjects → ℕ → Mark → Type 0
last o = MarkAt IsAnyMark (λ at m. Unit {0}) o.shm.entries

abbrev after_psems : LaterObjects → ℕ → Mark → Type 0
after_psems o = MarkAt IsAnyMark (last o) o.pshm.entries

abbrev after_mqs : LaterObjects → ℕ → Mark → Type 0
after_mqs o = MarkAt IsAnyMark (after_psems o) o.psem.entries

-- this object stands there
abbrev Here : State → ℕ → ℕ × List ℕ → (Mark → Type 0) → Type 0
Here t at object IsOfIt = Stands (later_objects (later_in t)) (IsMarkOfLater (later_in t)) at object IsOfIt

pub returns-then-at-objects-clause-stands : goal.returns-then-at-objects-clause-stands
returns-then-at-objects-clause-stands c =
    let o = c.objects.inside in
    let n : LaterObjects = seen_later o.numbers o.mqs.now o.sems.now o.segments.now o.shms.now in
    let e = get_or o.mqs.now c.args.at c.index-objects-at.result in
    subst (λ (t : Format × State). Here t.1 c.args.at (mq_object (item_row e)) (IsMarkOfMq (item_row e))) c.objects.view_is
    (here mq_object IsMarkOfMq (after_mqs n) n.mq.entries (from_psems n) c.args.at (item_row e)
    (table-at item_row o.mqs.now c.args.at c.index-objects-at.result c.if-at-objects.true))

pub returns-then-at-objects-clause-fits : goal.returns-then-at-objects-clause-fits
returns-then-at-objects-clause-fits c =
    let o = c.objects.inside in
    each-at (FitsIn FitsMq) (map item_row o.mqs.now) c.args.at _ c.objects.invariant.1.later.mqs
    (table-at item_row o.mqs.now c.args.at c.index-objects-at.result c.if-at-objects.true)

pub returns-then-at-objects-2-clause-stands : goal.returns-then-at-objects-2-clause-stands
returns-then-at-objects-2-clause-stands c =
    let o = c.objects.inside in
    let n : LaterObjects = seen_later o.numbers o.mqs.now o.sems.now o.segments.now o.shms.now in
    let at : ℕ = c.args.at - length o.mqs.now in
    let e = get_or o.sems.now at c.index-objects-at-then-at-objects-2.result in
    subst (λ (t : Format × State). Here t.1 c.args.at (psem_object (item_row e)) (λ m. Unit {0})) c.objects.view_is
    (past mq_object IsMarkOfMq (after_mqs n) n.mq.entries (from_psems n) c.args.at at _ _
    (omega (arith, length-map o.mqs.now item_row, c.if-at-objects.false))
    (here psem_object IsAnyMark (after_psems n) n.psem.entries (from_pshms n) at (item_row e)
    (table-at item_row o.sems.now at c.index-objects-at-then-at-objects-2.result c.if-at-objects-2.true)))

pub returns-then-at-objects-2-clause-fits : goal.returns-then-at-objects-2-clause-fits
returns-then-at-objects-2-clause-fits c =
    let o = c.objects.inside in
    let at : ℕ = c.args.at - length o.mqs.now in
    each-at (FitsIn FitsPsem) (map item_row o.sems.now) at _ c.objects.invariant.1.later.psems
    (table-at item_row o.sems.now at c.index-objects-at-then-at-objects-2.result c.if-at-objects-2.true)

pub returns-then-at-objects-3-clause-stands : goal.returns-then-at-objects-3-clause-stands
returns-then-at-objects-3-clause-stands c =
    let o = c.objects.inside in
    let n : LaterObjects = seen_later o.numbers o.mqs.now o.sems.now o.segments.now o.shms.now in
    let second : ℕ = c.args.at - length o.mqs.now in
    let at : ℕ = second - length o.sems.now in
    let e = get_or o.segments.now at c.index-objects-at-then-at-objects-3.result in
    subst (λ (t : Format × State). Here t.1 c.args.at (pshm_object (item_row e)) (λ m. Unit {0})) c.objects.view_is
    (past mq_object IsMarkOfMq (after_mqs n) n.mq.entries (from_psems n) c.args.at second _ _
    (omega (arith, length-map o.mqs.now item_row, c.if-at-objects.false))
    (past psem_object IsAnyMark (after_psems n) n.psem.entries (from_pshms n) second at _ _
    (omega (arith, length-map o.sems.now item_row, c.if-at-objects-2.false))
    (here pshm_object IsAnyMark (last n) n.pshm.entries (map shm_object n.shm.entries) at (item_row e)
    (table-at item_row o.segments.now at c.index-objects-at-then-at-objects-3.result c.if-at-objects-3.true))))

pub returns-then-at-objects-3-clause-fits : goal.returns-then-at-objects-3-clause-fits
returns-then-at-objects-3-clause-fits c =
    let o = c.objects.inside in
    let at : ℕ = c.args.at - length o.mqs.now - length o.sems.now in
    each-at (FitsIn FitsSegment) (map item_row o.segments.now) at _ c.objects.invariant.1.later.segments
    (table-at item_row o.segments.now at c.index-objects-at-then-at-objects-3.result c.if-at-objects-3.true)

-- the last one is within the table of its kind
within : (n : Numbers) (ms : List (Item (NamedEntry Mq))) (ss : List (Item (NamedEntry ℕ))) (gs : List (Item (NamedEntry Segment)))
    (hs : List (Item (KeyedEntry SysSegment))) (t : State) (at : ℕ) → later_in t ≡ seen_later n ms ss gs hs → at < length (later_objects (later_in t))
    → length ms ≤ at → length ss ≤ at - length ms → length gs ≤ at - length ms - length ss
    → at - length ms - length ss - length gs < length hs
within n ms ss gs hs t at seen there mqs sems segments =
    omega (
      arith,
      ap (λ (o : LaterObjects). length (later_objects o)) seen,
      later-counted (seen_later n ms ss gs hs),
      length-map ms item_row,
      length-map ss item_row,
      length-map gs item_row,
      length-map hs item_row,
      there,
      mqs,
      sems,
      segments,
    )

pub bounds-objects-inside-at-2 : goal.bounds-objects-inside-at-2
bounds-objects-inside-at-2 c =
    let o = c.objects.inside in
    within o.numbers o.mqs.now o.sems.now o.segments.now o.shms.now c.args.objects.now.1 c.args.at
    (sym (ap (λ (t : Format × State). later_in t.1) c.objects.view_is)) c.requires
    (omega (arith, c.if-at-objects.false)) (omega (arith, c.if-at-objects-2.false)) (omega (arith, c.if-at-objects-3.false))

pub returns-clause-stands : goal.returns-clause-stands
returns-clause-stands c =
    let o = c.objects.inside in
    let n : LaterObjects = seen_later o.numbers o.mqs.now o.sems.now o.segments.now o.shms.now in
    let second : ℕ = c.args.at - length o.mqs.now in
    let third : ℕ = second - length o.sems.now in
    let at : ℕ = third - length o.segments.now in
    let e = get_or o.shms.now at c.index-objects-at-2.result in
    subst (λ (t : Format × State). Here t.1 c.args.at (shm_object (item_row e)) (λ m. Unit {0})) c.objects.view_is
    (past mq_object IsMarkOfMq (after_mqs n) n.mq.entries (from_psems n) c.args.at second _ _
    (omega (arith, length-map o.mqs.now item_row, c.if-at-objects.false))
    (past psem_object IsAnyMark (after_psems n) n.psem.entries (from_pshms n) second third _ _
    (omega (arith, length-map o.sems.now item_row, c.if-at-objects-2.false))
    (past pshm_object IsAnyMark (last n) n.pshm.entries (map shm_object n.shm.entries) third at _ _
    (omega (arith, length-map o.segments.now item_row, c.if-at-objects-3.false))
    (here-last shm_object IsAnyMark (λ at m. Unit {0}) n.shm.entries at (item_row e)
    (table-at item_row o.shms.now at c.index-objects-at-2.result (within o.numbers o.mqs.now o.sems.now o.segments.now o.shms.now c.args.objects.now.1
    c.args.at (sym (ap (λ (t : Format × State). later_in t.1) c.objects.view_is)) c.requires (omega (arith, c.if-at-objects.false))
    (omega (arith, c.if-at-objects-2.false))
    (omega (arith, c.if-at-objects-3.false))))))))

pub returns-clause-fits : goal.returns-clause-fits
returns-clause-fits c =
    let o = c.objects.inside in
    let at : ℕ = c.args.at - length o.mqs.now - length o.sems.now - length o.segments.now in
    each-at (FitsIn FitsShm) (map item_row o.shms.now) at _ c.objects.invariant.1.later.shms
    (table-at item_row o.shms.now at c.index-objects-at-2.result (within o.numbers o.mqs.now o.sems.now o.segments.now o.shms.now c.args.objects.now.1
    c.args.at (sym (ap (λ (t : Format × State). later_in t.1) c.objects.view_is)) c.requires (omega (arith, c.if-at-objects.false))
    (omega (arith, c.if-at-objects-2.false))
    (omega (arith, c.if-at-objects-3.false))))
