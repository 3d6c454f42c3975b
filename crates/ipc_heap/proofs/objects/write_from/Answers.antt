-- Each write adds a sector of the object, the next one.
use Rattle.std.proofs.Common.{◌≡◌, ℕ, ◌+◌, ◌*◌, ◌<◌, List, [], ◌++◌, ◌∷◌, length, ⊎_elim, sym, ap, subst, ◌∙◌, arith}
use Rattle.std.specs.List.{range_with_len}
use Rattle.std.proofs.lemmas.List.{get_or_default}
use Rattle.std.proofs.lemmas.List.FromFn.{length-range_with_len}
use Rattle.ipc_base.specs.Objects.{window}
use Rattle.ipc_disk.specs.declared.range.Range.{Range}
use Rattle.ipc_disk.specs.Counts.{with_calls}
use Rattle.ipc_disk.specs.Range.{IsOutside}
use Rattle.ipc_disk.specs.Standing.{sector_at, sectors_for}
use Rattle.ipc_disk.proofs.CallerLemmas.{IsSameDisk-then, IsSameDisk-call, LeavesAlone-writes}
use Rattle.ipc_heap.specs.Relations.Table.{object_at, padded_part}
use Rattle.ipc_heap.proofs.Parts.{parts-join}
use Rattle.ipc_heap.proofs.Placed.{mapped-at}
use Rattle.ipc_heap.proofs.Runs.{run-push, run-within}
use Rattle.ipc_heap.proofs.Writes.{ObjectSector, StandsIn, stands-push, wrote-none, wrote-more}
use Rattle.ipc_heap.proofs.objects.write_from.Given.{Over}
use Rattle.ipc_heap.proofs.objects.write_from.Goals as goal
use Rattle.ipc_heap.proofs.objects.write_from.Goals.{After-div_ceil-count}

-- the object's bytes, and the sectors that they take
module _ (g : Over) (c : After-div_ceil-count g) where
  abbrev bytes : List ℕ
  bytes = (object_at (g.O.Objects.objects c.args.objects.now) c.args.i).1

  abbrev range : Range
  range = record { first = c.args.first; count = sectors_for (length bytes) }

  count : c.div_ceil-count.result ≡ sectors_for (length bytes)
  count =
      let long = mapped-at (λ (o : ℕ × List ℕ). length o.1) (g.O.Objects.objects c.args.objects.now) c.args.i (0, []) c.len.result
      c.requires.object c.len.ensures in
      omega (arith, c.div_ceil-count.ensures, long)

pub loop-k-init : goal.loop-k-init
loop-k-init g c = record {
  wrote = wrote-none g.D.SectorDisk.size g.D.SectorDisk.medium g.D.SectorDisk.counts _ c.args.disk.now (g.met.D.SectorDisk.in_range c.args.disk.now)
      (λ image left. g.met.D.SectorDisk.only_now c.args.disk.now image left);
  stands = λ honest k less. absurd (omega (arith, less));
  mark = c.start-mark.ensures;
}

pub overflow_cast-result : goal.overflow_cast-result
overflow_cast-result g c =
    let m = (goal.at.overflow_cast-result g c).After-div_ceil-count in
    omega (arith, count g m, c.requires.within, g.met.D.SectorDisk.fits c.args.disk.now)

pub overflow_add-result : goal.overflow_add-result
overflow_add-result g c =
    let m = (goal.at.overflow_add-result g c).After-div_ceil-count in
    omega (arith, count g m, c.requires.within, g.met.D.SectorDisk.fits c.args.disk.now)

pub write-requires : goal.write-requires
write-requires g c =
    let m = (goal.at.write-requires g c).After-div_ceil-count in
    omega (arith, count g m, c.requires.within, c.loop-k-test.true, c.loop-k.invariant.wrote.same.sectors)

pub returns-in_err-write-clause-others : goal.returns-in_err-write-clause-others
returns-in_err-write-clause-others g c =
    let m = (goal.at.returns-in_err-write-clause-others g c).After-div_ceil-count in
    λ honest. LeavesAlone-writes (IsOutside (range g m)) _ _ _ (c.args.first + c.loop-k.k) c.bytes.new.into (c.loop-k.invariant.wrote.others honest)
    (λ out. ⊎_elim (λ low. omega (arith, low)) (λ high. omega (arith, high, count g m, c.loop-k-test.true)) out) c.write.ensures.medium

pub returns-in_err-write-clause-same : goal.returns-in_err-write-clause-same
returns-in_err-write-clause-same g c = IsSameDisk-then c.loop-k.invariant.wrote.same (IsSameDisk-call c.write.ensures.call c.write.ensures.medium.time)

pub loop-k-preserved : goal.loop-k-preserved
loop-k-preserved g c =
    let m = (goal.at.loop-k-preserved g c).After-div_ceil-count in
    let at : ℕ = c.args.first + c.loop-k.k in
    let sector = mapped-at (λ (o : ℕ × List ℕ). window (512 * c.loop-k.k) o.1) (g.O.Objects.objects c.args.objects.now) c.args.i (0, []) c.bytes.new.into
    c.requires.object c.bytes.ensures.bytes in
    record {
      wrote = wrote-more (g.met.D.SectorDisk.in_range c.args.disk.now) c.loop-k.invariant.wrote c.write.new.self
          (λ out. ⊎_elim (λ low. omega (arith, low)) (λ high. omega (arith, high, count g m, c.loop-k-test.true)) out) c.write.ensures.medium
          c.write.ensures.call.sectors c.in_ok-write.ensures.call.ok;
      stands = λ honest.
          let mid = (c.loop-k.invariant.wrote.others honest).honest in
          let old = g.D.SectorDisk.medium c.loop-k.disk in
          let within : at < length old.contents =
          omega (
            arith,
            (g.met.D.SectorDisk.shaped c.loop-k.disk old.contents mid.reads).count,
            c.loop-k.invariant.wrote.same.sectors,
            c.requires.within,
            count g m,
            c.loop-k-test.true,
          ) in
          subst (λ (l : List ℕ). StandsIn (ObjectSector (bytes g m)) l (g.D.SectorDisk.medium c.write.new.self).contents)
          (sym (run-push c.args.first c.loop-k.k)) (subst (StandsIn (ObjectSector (bytes g m)) (range_with_len c.args.first c.loop-k.k ++ at ∷ []))
          (sym (c.in_ok-write.ensures.written mid))
          (stands-push (ObjectSector (bytes g m)) (range_with_len c.args.first c.loop-k.k) at c.bytes.new.into old.contents
          (λ there. let inside = run-within c.args.first c.loop-k.k at there in omega (arith, inside)) within
          (sym sector ∙ ap (λ (n : ℕ). padded_part 512 n (bytes g m)) (sym (length-range_with_len c.args.first c.loop-k.k)))
          (c.loop-k.invariant.stands honest)));
      mark = c.bytes.ensures.mark;
    }

pub returns-clause-beyond : goal.returns-clause-beyond
returns-clause-beyond g c =
    let m = (goal.at.returns-clause-beyond g c).After-div_ceil-count in
    omega (arith, count g m)

pub returns-clause-written : goal.returns-clause-written
returns-clause-written g c =
    let m = (goal.at.returns-clause-written g c).After-div_ceil-count in
    λ honest.
    let all : c.loop-k.k ≡ sectors_for (length (bytes g m)) = omega (arith, c.loop-k-test.false, c.loop-k.auto.k-end, count g m) in
    let run : List ℕ = range_with_len c.args.first (sectors_for (length (bytes g m))) in
    let stands : StandsIn (ObjectSector (bytes g m)) run (g.D.SectorDisk.medium c.loop-k.disk).contents =
    subst (λ (n : ℕ). StandsIn (ObjectSector (bytes g m)) (range_with_len c.args.first n) (g.D.SectorDisk.medium c.loop-k.disk).contents) all
    (c.loop-k.invariant.stands honest) in
    parts-join 512 (sector_at (g.D.SectorDisk.medium c.loop-k.disk).contents) run (bytes g m)
    (λ j d less. ap (sector_at (g.D.SectorDisk.medium c.loop-k.disk).contents) (get_or_default run j d 0 less) ∙ stands j less)
    (omega (arith, length-range_with_len c.args.first (sectors_for (length (bytes g m)))))

pub returns-clause-others : goal.returns-clause-others
returns-clause-others g c = c.loop-k.invariant.wrote.others

pub returns-clause-counts : goal.returns-clause-counts
returns-clause-counts g c =
    let m = (goal.at.returns-clause-counts g c).After-div_ceil-count in
    let all : c.loop-k.k ≡ sectors_for (length (bytes g m)) = omega (arith, c.loop-k-test.false, c.loop-k.auto.k-end, count g m) in
    record { err = tt; ok = c.loop-k.invariant.wrote.count ∙ ap (λ (n : ℕ). with_calls n 0 (g.D.SectorDisk.counts c.args.disk.now)) all }
