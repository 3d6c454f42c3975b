-- Each object is written after those before it.
use Rattle.std.proofs.Common.{◌≡◌, ℕ, ◌+◌, ◌/◌, ◌<◌, ◌≤◌, List, [], length, refl, inl, inr, ⊎_elim, map, sym, ap, subst, ◌∙◌, take, arith}
use Rattle.std.specs.Prelude.{flat_map}
use Rattle.std.specs.List.{range_with_len}
use Rattle.std.proofs.lemmas.List.{take_all, take_more}
use Rattle.std.proofs.lemmas.List.Sums.{sum_by_more, sum_by_more_le}
use Rattle.ipc_base.specs.Objects.{PlainObjects, object_sectors}
use Rattle.ipc_disk.specs.declared.range.Range.{Range}
use Rattle.ipc_disk.specs.Counts.{with_calls}
use Rattle.ipc_disk.specs.Range.{IsOutside}
use Rattle.ipc_disk.specs.Since.{SameAt}
use Rattle.ipc_disk.specs.Standing.{sector_at, sectors_for}
use Rattle.ipc_disk.proofs.CallerLemmas.{IsSameDisk-then, LeavesAlone-fewer, LeavesAlone-join}
use Rattle.ipc_heap.specs.Heap.{object_on}
use Rattle.ipc_heap.specs.Relations.Table.{object_at, placed_after}
use Rattle.ipc_heap.proofs.Runs.{stand-more}
use Rattle.ipc_heap.proofs.Writes.{Wrote, wrote-none, wrote-then}
use Rattle.ipc_heap.proofs.objects.write_objects.Given.{Over}
use Rattle.ipc_heap.proofs.objects.write_objects.Goals as goal
use Rattle.ipc_heap.proofs.objects.write_objects.Goals.{In-loop-i, After-loop-i}

pub loop-i-init : goal.loop-i-init
loop-i-init g c = record {
  place = omega arith;
  wrote = wrote-none g.D.SectorDisk.size g.D.SectorDisk.medium g.D.SectorDisk.counts _ c.args.disk.now (g.met.D.SectorDisk.in_range c.args.disk.now)
      (λ image left. g.met.D.SectorDisk.only_now c.args.disk.now image left);
  stand = λ honest. refl;
}

-- one of the objects, and the sectors of the whole and of this one
module _ (g : Over) (c : In-loop-i g) where
  abbrev os : PlainObjects
  os = g.O.Objects.objects c.args.objects.now

  abbrev whole : Range
  whole = record { first = c.args.first; count = object_sectors os }

  abbrev o : ℕ × List ℕ
  o = object_at os c.loop-i.i

  abbrev part : Range
  part = record { first = c.loop-i.at; count = sectors_for (length o.1) }

  less : c.loop-i.i < length os
  less = omega (arith, c.loop-i-test.true, c.count-i-end.ensures.count)

  most : object_sectors (take c.loop-i.i os) + sectors_for (length o.1) ≤ object_sectors os
  most = sum_by_more_le (λ (x : ℕ × List ℕ). (length x.1 + 511) / 512) os c.loop-i.i (0, []) less

  sub : (i : ℕ) → IsOutside whole i → IsOutside part i
  sub i out = ⊎_elim (λ low. inl (omega (arith, low, c.loop-i.invariant.place))) (λ high. inr (omega (arith, high, c.loop-i.invariant.place, most))) out

pub write_from-requires-clause-within : goal.write_from-requires-clause-within
write_from-requires-clause-within g c =
    omega (
      arith,
      most g (goal.at.write_from-requires-clause-within g c).In-loop-i,
      c.loop-i.invariant.place,
      c.requires,
      c.loop-i.invariant.wrote.same.sectors,
    )

pub returns-in_err-at-clause-others : goal.returns-in_err-at-clause-others
returns-in_err-at-clause-others g c = λ honest.
    let m = (goal.at.returns-in_err-at-clause-others g c).In-loop-i in
    let run = c.loop-i.invariant.wrote.others honest in
    LeavesAlone-join (IsOutside (whole g m)) _ _ _ run
    (LeavesAlone-fewer (IsOutside (whole g m)) (IsOutside (part g m)) _ _ (sub g m) (c.write_from.ensures.others run.honest))

pub returns-in_err-at-clause-same : goal.returns-in_err-at-clause-same
returns-in_err-at-clause-same g c = IsSameDisk-then c.loop-i.invariant.wrote.same c.write_from.ensures.same

pub loop-i-preserved : goal.loop-i-preserved
loop-i-preserved g c =
    let m = (goal.at.loop-i-preserved g c).In-loop-i in
    let old = g.D.SectorDisk.medium c.loop-i.disk in
    let new = g.D.SectorDisk.medium c.write_from.new.disk in
    let more = sum_by_more (λ (x : ℕ × List ℕ). (length x.1 + 511) / 512) (os g m) c.loop-i.i (0, []) (less g m) in
    record {
      place = omega (arith, c.in_ok-at.ensures.beyond, c.loop-i.invariant.place, more);
      wrote = subst (λ (n : ℕ).
          Wrote g.D.SectorDisk.size g.D.SectorDisk.medium g.D.SectorDisk.counts (IsOutside (whole g m)) n c.args.disk.now c.write_from.new.disk) (sym more)
          (wrote-then (g.met.D.SectorDisk.in_range c.args.disk.now) c.loop-i.invariant.wrote c.write_from.new.disk _ (sub g m) c.write_from.ensures.same
          c.in_ok-at.ensures.counts.ok c.write_from.ensures.others);
      stand = λ honest.
          let mid = (c.loop-i.invariant.wrote.others honest).honest in
          let place = c.loop-i.invariant.place in
          subst (λ (l : PlainObjects). map (object_on new.contents) (placed_after c.args.first l) ≡ l) (sym (take_more (os g m) c.loop-i.i (0, []) (less g m)))
          (stand-more c.args.first (take c.loop-i.i (os g m)) (o g m) old.contents new.contents
          (subst (λ (n : ℕ). SameAt (IsOutside (record { first = n; count = sectors_for (length (o g m).1) })) old.contents new.contents) place
          (c.write_from.ensures.others mid).contents) (c.loop-i.invariant.stand honest)
          (subst (λ (n : ℕ). take (length (o g m).1) (flat_map (sector_at new.contents) (range_with_len n (sectors_for (length (o g m).1)))) ≡ (o g m).1) place
          (c.in_ok-at.ensures.written mid)));
    }

module _ (g : Over) (c : After-loop-i g) where
  -- none is left
  all : take c.loop-i.i (g.O.Objects.objects c.args.objects.now) ≡ g.O.Objects.objects c.args.objects.now
  all = take_all c.loop-i.i (g.O.Objects.objects c.args.objects.now) (omega (arith, c.loop-i-test.false, c.count-i-end.ensures.count))

pub returns-clause-beyond : goal.returns-clause-beyond
returns-clause-beyond g c =
    c.loop-i.invariant.place ∙ ap (λ (l : PlainObjects). c.args.first + object_sectors l) (all g (goal.at.returns-clause-beyond g c).After-loop-i)

pub returns-clause-written : goal.returns-clause-written
returns-clause-written g c = λ honest.
    subst (λ (l : PlainObjects). map (object_on (g.D.SectorDisk.medium c.loop-i.disk).contents) (placed_after c.args.first l) ≡ l)
    (all g (goal.at.returns-clause-written g c).After-loop-i) (c.loop-i.invariant.stand honest)

pub returns-clause-others : goal.returns-clause-others
returns-clause-others g c = c.loop-i.invariant.wrote.others

pub returns-clause-counts : goal.returns-clause-counts
returns-clause-counts g c = record {
  err = tt;
  ok = c.loop-i.invariant.wrote.count
      ∙ ap (λ (l : PlainObjects). with_calls (object_sectors l) 0 (g.D.SectorDisk.counts c.args.disk.now))
      (all g (goal.at.returns-clause-counts g c).After-loop-i);
}
