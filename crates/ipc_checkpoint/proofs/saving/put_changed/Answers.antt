-- One object after another is put in, or kept.
use Rattle.std.proofs.Common.{◌≡◌, ℕ, ◌+◌, ◌<◌, ◌≤◌, List, [], length, get_or, Some, ap, ◌∙◌, arith}
use Rattle.std.specs.Prelude.{◌≢◌, nat_eq, slice_get}
use Rattle.std.proofs.lemmas.List.Sums.{sum_by_more_le}
use Rattle.std.proofs.lemmas.List.{take_all}
use Rattle.std.proofs.lemmas.Option.{slice_get-get_or}
use Rattle.ipc_base.specs.Objects.{PlainObjects, object_sectors}
use Rattle.ipc_base.specs.Table.{value_at}
use Rattle.ipc_disk.specs.Counts.{Counts, counted, with_calls}
use Rattle.ipc_disk.specs.Standing.{sectors_for}
use Rattle.ipc_heap.specs.View.{free, map_of, sizes_of, with_object}
use Rattle.ipc_checkpoint.specs.Matches.{changed_sectors}
use Rattle.ipc_checkpoint.proofs.Putting.{device, if-some, put-kept, put-map, put-meanwhile, put-moment, put-more, put-none, put-others, put-sizes}
use Rattle.ipc_checkpoint.proofs.saving.put_changed.Given.{Over}
use Rattle.ipc_checkpoint.proofs.saving.put_changed.Goals as goal
use Rattle.ipc_checkpoint.proofs.saving.put_changed.Goals.{In-loop-i, then-not-is_kept+in_default, else-not-is_kept}

pub loop-i-init : goal.loop-i-init
loop-i-init g c =
    put-none c.objects_have_their_bytes.ensures.placed c.objects_have_their_bytes.ensures.bytes c.requires.no_others
    (g.met.D.SectorDisk.in_range c.args.disk.now) (λ image left. g.met.D.SectorDisk.only_now c.args.disk.now image left)

module _ (g : Over) (c : In-loop-i g) where
  abbrev os : PlainObjects
  os = g.O.Objects.objects c.args.objects.now

  abbrev object : ℕ × List ℕ
  object = get_or os c.loop-i.i (0, [])

  at : slice_get os c.loop-i.i ≡ Some object
  at = slice_get-get_or os c.loop-i.i (0, []) (omega (arith, c.loop-i-test.true, c.count-i-end.ensures.count))

pub put-requires-clause-laid_out : goal.put-requires-clause-laid_out
put-requires-clause-laid_out g c =
    let so_far = c.loop-i.invariant in
    rw (so_far.same.sectors, so_far.stays.next_root, so_far.stays.range) c.requires.laid_out

pub loop-i-preserved : goal.loop-i-preserved
loop-i-preserved g c =
    let m = (goal.at.loop-i-preserved g c).In-loop-i in
    let now = g.D.SectorDisk.medium c.loop-i.disk in
    let o : ℕ × List ℕ = object g m in
    elim c.if-not-is_kept.branch [
      | then-not-is_kept+in_default w ↦
          rw (w.heap-is, w.disk-is)
          (put-more c.count-i-end.ensures.objects c.loop-i.invariant (at g m) w.put.ensures.any_moment w.put.ensures.others w.put.ensures.stays
          w.objects_have_their_bytes-then-not-is_kept.ensures.placed w.objects_have_their_bytes-then-not-is_kept.ensures.bytes
          (if-some (λ p. sizes_of w.put.new.self ≡ with_object (sizes_of c.loop-i.heap) p.0 (length p.1)) _ o (at g m) w.in_default.ensures.sizes)
          w.in_default.ensures.matches
          (λ saved here. if-some (λ p. map_of w.put.new.self (g.D.SectorDisk.medium w.put.new.disk) ≡ with_object (map_of c.loop-i.heap now) p.0 p.1) _ o
          (at g m)
          (w.in_default.ensures.map saved here))
          w.put.ensures.same (g.met.D.SectorDisk.in_range c.args.disk.now)
          (if-some (λ p. free c.loop-i.heap ≤ free w.put.new.self + sectors_for (length p.1)) _ o (at g m) w.in_default.ensures.spends)
          (if-some (λ p. g.D.SectorDisk.counts w.put.new.disk ≡ with_calls (sectors_for (length p.1)) 0 (g.D.SectorDisk.counts c.loop-i.disk)) _ o (at g m)
          w.in_default.ensures.counts)
          (λ off. if-some (λ p. value_at nat_eq (sizes_of c.loop-i.heap) p.0 ≢ Some (length p.1)) _ o (at g m)
          (c.is_kept.ensures.other w.if-not-is_kept.true off)))
      | else-not-is_kept w ↦
          let kept = c.is_kept.ensures.kept w.if-not-is_kept.false in
          rw (w.heap-is, w.disk-is)
          (put-kept c.count-i-end.ensures.objects c.loop-i.invariant (at g m) kept.0
          (if-some (λ p. value_at nat_eq (sizes_of c.loop-i.heap) p.0 ≡ Some (length p.1)) _ o (at g m) kept.1))
    ]

pub returns-in-Err-clause-any_moment : goal.returns-in-Err-clause-any_moment
returns-in-Err-clause-any_moment g c =
    put-moment c.count-i-end.ensures.objects c.loop-i.invariant (at g (goal.at.returns-in-Err-clause-any_moment g c).In-loop-i) c.put.ensures.any_moment
    c.put.ensures.others

pub returns-in-Err-clause-meanwhile : goal.returns-in-Err-clause-meanwhile
returns-in-Err-clause-meanwhile g c =
    put-meanwhile c.count-i-end.ensures.objects c.loop-i.invariant (at g (goal.at.returns-in-Err-clause-meanwhile g c).In-loop-i) c.put.ensures.any_moment
    c.put.ensures.others

pub returns-in-Err-clause-others : goal.returns-in-Err-clause-others
returns-in-Err-clause-others g c =
    put-others c.count-i-end.ensures.objects c.loop-i.invariant (at g (goal.at.returns-in-Err-clause-others g c).In-loop-i) c.put.ensures.any_moment
    c.put.ensures.others

pub returns-in-Err-clause-counts : goal.returns-in-Err-clause-counts
returns-in-Err-clause-counts g c =
    let m = (goal.at.returns-in-Err-clause-counts g c).In-loop-i in
    let so_far = c.loop-i.invariant in
    let size : ℕ × List ℕ → ℕ = λ p. sectors_for (length p.1) in
    let more = sum_by_more_le size (os g m) c.loop-i.i (0, []) (omega (arith, c.loop-i-test.true, c.count-i-end.ensures.count)) in
    let failed = device c.in-Err.field-0 (λ full.
    let short : free c.loop-i.heap < sectors_for (length (object g m).1) =
    if-some (λ p. free c.loop-i.heap < sectors_for (length p.1)) _ (object g m) (at g m) (c.in-Err.ensures.full full) in
    omega (arith, short, so_far.spent_free, so_far.spent_most, more, c.requires.room)) in
    record {
      err = c.in-Err.ensures.fault.failure failed ∙ ap (λ (n : Counts). counted n.failures 1) so_far.spent_counts;
      ok = tt;
    }

pub returns-clause-sizes : goal.returns-clause-sizes
returns-clause-sizes g c =
    put-sizes c.count-i-end.ensures.objects c.loop-i.invariant (omega (arith, c.loop-i-test.false, c.count-i-end.ensures.count))

pub returns-clause-map : goal.returns-clause-map
returns-clause-map g c =
    put-map c.count-i-end.ensures.objects c.loop-i.invariant (omega (arith, c.loop-i-test.false, c.count-i-end.ensures.count))

pub returns-clause-spends : goal.returns-clause-spends
returns-clause-spends g c =
    let os = g.O.Objects.objects c.args.objects.now in
    let all = take_all c.loop-i.i os (omega (arith, c.loop-i-test.false, c.count-i-end.ensures.count)) in
    omega (arith, c.loop-i.invariant.spent_free, c.loop-i.invariant.spent_most, ap (λ (l : PlainObjects). object_sectors l) all)

pub returns-clause-writes : goal.returns-clause-writes
returns-clause-writes g c = λ saved begins were.
    let os = g.O.Objects.objects c.args.objects.now in
    let differs = g.O.Objects.differs c.args.objects.now in
    let all = take_all c.loop-i.i os (omega (arith, c.loop-i-test.false, c.count-i-end.ensures.count)) in
    c.loop-i.invariant.spent_counts
    ∙ ap (λ (n : ℕ). with_calls n 0 (g.D.SectorDisk.counts c.args.disk.now))
    (c.loop-i.invariant.spent_changed saved begins were ∙ ap (λ (l : PlainObjects). changed_sectors differs l) all)
