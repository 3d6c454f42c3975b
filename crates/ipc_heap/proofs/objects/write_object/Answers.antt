-- Each write adds a sector of the object, which was free.
use Rattle.std.proofs.Common.{◌≡◌, ℕ, ◌+◌, ◌*◌, List, [], length, refl, sym, ap, ◌∙◌, arith, vec_capacity}
use Rattle.ipc_base.specs.Objects.{window}
use Rattle.ipc_disk.specs.Counts.{with_calls}
use Rattle.ipc_disk.specs.Standing.{sectors_for}
use Rattle.ipc_disk.proofs.CallerLemmas.{LeavesAlone-writes}
use Rattle.ipc_heap.specs.View.{is_free}
use Rattle.ipc_heap.specs.Relations.Table.{object_at}
use Rattle.ipc_heap.specs.Relations.Uses.{IsNotFree}
use Rattle.ipc_heap.proofs.Placed.{mapped-at}
use Rattle.ipc_heap.proofs.Sectors.{count-none}
use Rattle.ipc_heap.proofs.Writes.{object-none, object-added, object-stands, taken-open, taken-inside, pushed-words, pushed-taken, room-now, object-more}
use Rattle.ipc_heap.proofs.objects.write_object.Goals as goal

pub loop-k-init : goal.loop-k-init
loop-k-init g c = record {
  so_far = object-none g.D.SectorDisk.size g.D.SectorDisk.medium g.D.SectorDisk.counts c.args.range
      (object_at (g.O.Objects.objects c.args.objects.now) c.args.i).1 c.args.disk.now
      c.args.uses.now c.args.words.now.items (g.met.D.SectorDisk.in_range c.args.disk.now)
      (λ image left. g.met.D.SectorDisk.only_now c.args.disk.now image left);
  capacity = refl;
  mark = c.start-mark.ensures;
}

pub returns-in_default-clause-full : goal.returns-in_default-clause-full
returns-in_default-clause-full g c = λ full.
    let long = mapped-at (λ (o : ℕ × List ℕ). length o.1) (g.O.Objects.objects c.args.objects.now) c.args.i
    (0, []) c.len.result c.requires.object c.len.ensures in
    omega (
      arith,
      count-none is_free c.loop-k.uses c.in_default.ensures.none.0,
      c.loop-k.invariant.so_far.taken.left,
      c.loop-k.invariant.so_far.long,
      c.loop-k-test.true,
      c.div_ceil-k-end.ensures,
      long,
    )

pub overflow_cast-at : goal.overflow_cast-at
overflow_cast-at g c =
    omega (arith, taken-inside c.loop-k.invariant.so_far c.in-Some.ensures.taken c.requires.uses, c.requires.within, g.met.D.SectorDisk.fits c.args.disk.now)

pub overflow_add-at : goal.overflow_add-at
overflow_add-at g c =
    omega (arith, taken-inside c.loop-k.invariant.so_far c.in-Some.ensures.taken c.requires.uses, c.requires.within, g.met.D.SectorDisk.fits c.args.disk.now)

pub push_reserved-requires : goal.push_reserved-requires
push_reserved-requires g c =
    omega (
      arith,
      room-now c.loop-k.invariant.so_far c.in-Some.ensures.taken c.requires.uses (vec_capacity c.args.words.now) c.requires.room,
      c.loop-k.invariant.capacity,
      c.loop-k.words.ok.0,
    )

pub write-requires : goal.write-requires
write-requires g c =
    omega (
      arith,
      taken-inside c.loop-k.invariant.so_far c.in-Some.ensures.taken c.requires.uses,
      c.requires.within,
      c.loop-k.invariant.so_far.wrote.same.sectors,
    )

pub returns-in_err-write-clause-added : goal.returns-in_err-write-clause-added
returns-in_err-write-clause-added g c =
    pushed-words c.loop-k.invariant.so_far c.in-Some.ensures.taken c.requires.uses c.push_reserved.new.self.items c.push_reserved.ensures.items

pub returns-in_err-write-clause-taken : goal.returns-in_err-write-clause-taken
returns-in_err-write-clause-taken g c =
    pushed-taken c.loop-k.invariant.so_far c.in-Some.ensures.taken c.requires.uses c.push_reserved.new.self.items c.push_reserved.ensures.items

pub returns-in_err-write-clause-others : goal.returns-in_err-write-clause-others
returns-in_err-write-clause-others g c = λ honest.
    LeavesAlone-writes (IsNotFree c.args.range c.args.uses.now) _ _ _ (c.args.range.first + c.in-Some.free) c.bytes.new.into
    (c.loop-k.invariant.so_far.wrote.others honest) (taken-open c.loop-k.invariant.so_far c.in-Some.ensures.taken c.requires.uses) c.write.ensures.medium

pub loop-k-preserved : goal.loop-k-preserved
loop-k-preserved g c =
    let bytes : List ℕ = (object_at (g.O.Objects.objects c.args.objects.now) c.args.i).1 in
    let sector = mapped-at (λ (o : ℕ × List ℕ). window (512 * c.loop-k.k) o.1) (g.O.Objects.objects c.args.objects.now) c.args.i (0, []) c.bytes.new.into
    c.requires.object c.bytes.ensures.bytes in
    record {
      so_far = object-more c.loop-k.invariant.so_far c.in-Some.ensures.taken c.requires.uses
          c.write.new.self c.bytes.new.into c.push_reserved.new.self.items (g.met.D.SectorDisk.in_range c.args.disk.now)
          c.write.ensures.medium c.write.ensures.call.sectors c.in_ok-write.ensures.call.ok c.push_reserved.ensures.items c.in_ok-write.ensures.written
          (λ here. omega (
            arith,
            (g.met.D.SectorDisk.shaped c.loop-k.disk _ here.reads).count,
            c.loop-k.invariant.so_far.wrote.same.sectors,
            c.requires.within,
            taken-inside c.loop-k.invariant.so_far c.in-Some.ensures.taken c.requires.uses,
          ))
          (sym sector);
      capacity = c.push_reserved.ensures.capacity ∙ c.loop-k.invariant.capacity;
      mark = c.bytes.ensures.mark;
    }

pub returns-clause-all : goal.returns-clause-all
returns-clause-all g c =
    let long = mapped-at (λ (o : ℕ × List ℕ). length o.1) (g.O.Objects.objects c.args.objects.now) c.args.i
    (0, []) c.len.result c.requires.object c.len.ensures in
    ap length (object-added c.loop-k.invariant.so_far) ∙ c.loop-k.invariant.so_far.long
    ∙ (omega (arith, c.loop-k-test.false, c.loop-k.auto.k-end, c.div_ceil-k-end.ensures, long))

pub returns-clause-written : goal.returns-clause-written
returns-clause-written g c = λ honest.
    let long = mapped-at (λ (o : ℕ × List ℕ). length o.1) (g.O.Objects.objects c.args.objects.now) c.args.i
    (0, []) c.len.result c.requires.object c.len.ensures in
    object-stands c.loop-k.invariant.so_far honest (omega (arith, c.loop-k-test.false, c.loop-k.auto.k-end, c.div_ceil-k-end.ensures, long))

pub returns-clause-counts : goal.returns-clause-counts
returns-clause-counts g c =
    let long = mapped-at (λ (o : ℕ × List ℕ). length o.1) (g.O.Objects.objects c.args.objects.now) c.args.i
    (0, []) c.len.result c.requires.object c.len.ensures in
    let all : c.loop-k.k ≡ sectors_for (length (object_at (g.O.Objects.objects c.args.objects.now) c.args.i).1) =
    omega (arith, c.loop-k-test.false, c.loop-k.auto.k-end, c.div_ceil-k-end.ensures, long) in
    c.loop-k.invariant.so_far.wrote.count ∙ ap (λ (n : ℕ). with_calls n 0 (g.D.SectorDisk.counts c.args.disk.now)) all
