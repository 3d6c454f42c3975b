-- Its bytes, piece by piece.
use Rattle.std.proofs.Common.{◌≡◌, ℕ, ◌*◌, ◌≤◌, List, ◌++◌, length, map, take, Option, Some, sym, ap, subst, ◌∙◌, arith}
use Rattle.std.specs.Prelude.{nat_eq, is_some, option_map}
use Rattle.std.proofs.lemmas.List.{length-append, length-take, take_all}
use Rattle.ipc_base.specs.Objects.{window}
use Rattle.ipc_base.specs.Table.{value_at}
use Rattle.ipc_disk.specs.Medium.{Image, IsHonest}
use Rattle.ipc_disk.proofs.CallerLemmas.{OnlyReads-ok, OnlyReads-start, OnlyReads-then}
use Rattle.ipc_heap.specs.Heap.{IsLaidOut, object_on}
use Rattle.ipc_heap.specs.View.{map_of, sizes_of}
use Rattle.ipc_checkpoint.proofs.Loads.{bytes-of, not_failed, piece-more, seen-known}
use Rattle.ipc_checkpoint.proofs.loading.read_object.Given.{Over}
use Rattle.ipc_checkpoint.proofs.loading.read_object.Goals as goal
use Rattle.ipc_checkpoint.proofs.loading.read_object.Goals.{After-objects_have_their_bytes}

-- the bytes that an honest disk has
known : (g : Over) (c : After-objects_have_their_bytes g) → IsHonest (g.D.SectorDisk.medium c.args.disk.now)
    → (b : List ℕ) × (value_at nat_eq (map_of c.args.heap.now (g.D.SectorDisk.medium c.args.disk.now)) c.args.number ≡ Some b) × (length b ≡ c.args.len)
known g c honest =
    bytes-of (map_of c.args.heap.now (g.D.SectorDisk.medium c.args.disk.now)) (sizes_of c.args.heap.now) c.args.number c.args.len
    (c.objects_have_their_bytes.ensures.bytes honest) c.requires.object

pub read-requires-clause-laid_out : goal.read-requires-clause-laid_out
read-requires-clause-laid_out g c =
    subst (λ (n : ℕ). IsLaidOut c.args.heap.now.range c.args.heap.now.next_root n) (sym c.loop-k.invariant.reads.same.sectors) c.requires.laid_out

pub read-requires-clause-object : goal.read-requires-clause-object
read-requires-clause-object g c =
    seen-known (λ p. (object_on (g.D.SectorDisk.medium c.loop-k.disk).contents p).1) (λ p. p.len) c.args.heap.now.placed c.args.number
    ∙ ap (λ (o : Option ℕ). is_some o) c.requires.object

pub loop-k-init : goal.loop-k-init
loop-k-init g c = record {
  long = omega (arith, c.in_ok-bytes.ensures.len, ap length c.in_ok-bytes.ensures.items);
  bytes = λ honest b found. c.in_ok-bytes.ensures.items;
  reads = OnlyReads-start c.args.disk.now;
}

pub loop-k-preserved : goal.loop-k-preserved
loop-k-preserved g c =
    let so_far = c.loop-k.invariant in
    let old = g.D.SectorDisk.medium c.args.disk.now in
    let now = g.D.SectorDisk.medium c.loop-k.disk in
    let piece : List ℕ = take c.min-count.result c.read.new.into in
    let items : c.extend_from_slice.new.self.items ≡ c.loop-k.bytes.items ++ piece = c.in_ok-extend_from_slice.ensures.items in
    record {
      long = omega (
        arith,
        ap length items,
        length-append c.loop-k.bytes.items piece,
        length-take c.min-count.result c.read.new.into,
        c.read.array_long,
        c.min-count.ensures,
        so_far.long,
        c.loop-k-test.true,
        c.div_ceil-k-end.ensures,
      );
      bytes = λ honest b found.
          let all = known g (goal.at.loop-k-preserved g c).After-objects_have_their_bytes honest in
          let same : Some b ≡ Some all.0 = sym found ∙ all.1 in
          let is : b ≡ all.0 = cc in
          let long : length b ≡ c.args.len = ap length is ∙ all.2 in
          let images : now.contents ≡ old.contents = (so_far.reads.stays honest).contents honest in
          let there : value_at nat_eq (map_of c.args.heap.now now) c.args.number ≡ Some b =
          ap (λ (i : Image). value_at nat_eq (map (object_on i) c.args.heap.now.placed) c.args.number) images ∙ found in
          let seen : Some (window (512 * c.loop-k.k) b) ≡ Some c.read.new.into =
          sym (ap (λ (o : Option (List ℕ)). option_map (window (512 * c.loop-k.k)) o) there) ∙ c.in_ok-read.ensures.bytes (so_far.reads.same.honest.0 honest) in
          let into : c.read.new.into ≡ window (512 * c.loop-k.k) b = cc in
          items ∙ piece-more b c.read.new.into c.loop-k.bytes.items c.loop-k.k c.min-count.result (so_far.bytes honest b found) into
          (omega (arith, c.min-count.ensures, long));
      reads = OnlyReads-then so_far.reads (OnlyReads-ok (not_failed c.read.result c.in_ok-read.field-0 c.in_ok-read.was) c.read.ensures.reads);
    }

pub returns-clause-long : goal.returns-clause-long
returns-clause-long g c = omega (arith, c.loop-k.invariant.long, c.loop-k-test.false, c.div_ceil-k-end.ensures)

pub returns-clause-bytes : goal.returns-clause-bytes
returns-clause-bytes g c = λ honest.
    let all = known g (goal.at.returns-clause-bytes g c).After-objects_have_their_bytes honest in
    let end : length all.0 ≤ 512 * c.loop-k.k = omega (arith, all.2, c.loop-k-test.false, c.div_ceil-k-end.ensures) in
    all.1 ∙ ap (λ (l : List ℕ). Some l) (sym (c.loop-k.invariant.bytes honest all.0 all.1 ∙ take_all (512 * c.loop-k.k) all.0 end))
