-- One object after another.
use Rattle.std.proofs.Common.{◌≡◌, ℕ, ◌^◌, ◌<◌, List, ◌++◌, ◌∷◌, [], length, get_or, map, Some, sym, ap, subst, ◌∙◌, arith}
use Rattle.std.specs.Prelude.{nat_eq, slice_get}
use Rattle.std.proofs.lemmas.List.{length-map, take_all}
use Rattle.std.proofs.lemmas.Option.{slice_get-map}
use Rattle.ipc_base.specs.Table.{IsRising, keys_of, seen_as, value_at}
use Rattle.ipc_disk.specs.Medium.{Image}
use Rattle.ipc_disk.proofs.CallerLemmas.{OnlyReads-ok, OnlyReads-start, OnlyReads-then}
use Rattle.ipc_heap.specs.Heap.{IsLaidOut, Placed, object_on}
use Rattle.ipc_heap.specs.View.{map_of, sizes_of}
use Rattle.ipc_checkpoint.proofs.Keeping.{nowhere, seen-at, seen-none}
use Rattle.ipc_checkpoint.proofs.Loads.{count-now, keys-seen, not_failed_as, number-next, objects-more, size-at, sizes-more}
use Rattle.ipc_checkpoint.proofs.loading.read_objects.Given.{Over}
use Rattle.ipc_checkpoint.proofs.loading.read_objects.Goals as goal
use Rattle.ipc_checkpoint.proofs.loading.read_objects.Goals.{In-Some}

module _ (g : Over) (c : In-Some g) where
  abbrev sizes : List (ℕ × ℕ)
  sizes = sizes_of c.args.heap.now

  rising : IsRising 0 (keys_of sizes) (2 ^ 64)
  rising =
      subst (λ (ks : List ℕ). IsRising 0 ks (2 ^ 64)) (sym (keys-seen (λ p. p.len) c.args.heap.now.placed)) c.objects_have_their_bytes.ensures.placed.numbers

  at : slice_get sizes c.loop-number.i ≡ Some (c.in-Some.number, c.in-Some.len)
  at = slice_get-map (λ p. (p.number, p.len)) c.args.heap.now.placed c.loop-number.i ∙ sym c.in-Some.ensures

  seen : (c.loop-number.i < length c.args.heap.now.placed)
      × (◌≡◌ {A = ℕ × ℕ} ((get_or c.args.heap.now.placed c.loop-number.i nowhere).number, (get_or c.args.heap.now.placed c.loop-number.i nowhere).len)
      (c.in-Some.number, c.in-Some.len))
  seen = seen-at (λ p. (p.number, p.len)) c.args.heap.now.placed c.loop-number.i nowhere (c.in-Some.number, c.in-Some.len) (sym c.in-Some.ensures)

pub loop-number-init : goal.loop-number-init
loop-number-init g c = record {
  sizes = ap (seen_as (λ b. length b)) c.new-objects.ensures;
  objects = λ honest. c.new-objects.ensures;
  reads = OnlyReads-start c.args.disk.now;
  few = omega arith;
}

pub read_object-requires-clause-laid_out : goal.read_object-requires-clause-laid_out
read_object-requires-clause-laid_out g c =
    subst (λ (n : ℕ). IsLaidOut c.args.heap.now.range c.args.heap.now.next_root n) (sym c.loop-number.invariant.reads.same.sectors) c.requires.laid_out

pub read_object-requires-clause-object : goal.read_object-requires-clause-object
read_object-requires-clause-object g c =
    let m = (goal.at.read_object-requires-clause-object g c).In-Some in
    size-at (sizes g m) (rising g m) c.loop-number.objects c.loop-number.i c.in-Some.number c.in-Some.len c.loop-number.invariant.sizes (at g m)

pub push-requires-clause-next : goal.push-requires-clause-next
push-requires-clause-next g c =
    let m = (goal.at.push-requires-clause-next g c).In-Some in
    number-next (sizes g m) (rising g m) c.loop-number.objects c.loop-number.i c.in-Some.number c.in-Some.len c.loop-number.invariant.sizes (at g m)

pub push-requires-clause-some : goal.push-requires-clause-some
push-requires-clause-some g c =
    let m = (goal.at.push-requires-clause-some g c).In-Some in
    let here = c.objects_have_their_bytes.ensures.placed.sizes c.loop-number.i nowhere (seen g m).0 in
    omega (arith, here.0, ap (λ (e : ℕ × ℕ). e.1) (seen g m).1, ap length c.deref.ensures.value, c.in_ok-bytes.ensures.long)

pub push-requires-clause-count : goal.push-requires-clause-count
push-requires-clause-count g c =
    let m = (goal.at.push-requires-clause-count g c).In-Some in
    let count = count-now (sizes g m) (rising g m) c.loop-number.objects c.loop-number.i c.in-Some.number c.in-Some.len
    c.loop-number.invariant.sizes (at g m) in
    omega (arith, count, (seen g m).0, c.count-count.ensures, c.count-count.type_inv)

pub loop-number-preserved : goal.loop-number-preserved
loop-number-preserved g c =
    let m = (goal.at.loop-number-preserved g c).In-Some in
    let so_far = c.loop-number.invariant in
    let old = g.D.SectorDisk.medium c.args.disk.now in
    let bytes : List ℕ = c.deref.result.now in
    let long : length bytes ≡ c.in-Some.len = ap length c.deref.ensures.value ∙ c.in_ok-bytes.ensures.long in
    let pushed : c.push.new.self ≡ c.loop-number.objects ++ (c.in-Some.number, bytes) ∷ [] = c.in_ok-push.ensures.ok in
    record {
      sizes = ap (seen_as (λ b. length b)) pushed
          ∙ sizes-more (sizes g m) (rising g m) c.loop-number.objects c.loop-number.i c.in-Some.number c.in-Some.len so_far.sizes (at g m) bytes long;
      objects = λ honest.
          let images : (g.D.SectorDisk.medium c.loop-number.disk).contents ≡ old.contents = (so_far.reads.stays honest).contents honest in
          let found : value_at nat_eq (map_of c.args.heap.now old) c.in-Some.number ≡ Some bytes =
          ap (λ (i : Image). value_at nat_eq (map (object_on i) c.args.heap.now.placed) c.in-Some.number) (sym images)
          ∙ c.in_ok-bytes.ensures.bytes (so_far.reads.same.honest.0 honest) ∙ ap (λ (l : List ℕ). Some l) (sym c.deref.ensures.value) in
          pushed
          ∙ objects-more (sizes g m) (rising g m) c.loop-number.objects c.loop-number.i c.in-Some.number c.in-Some.len so_far.sizes (at g m) bytes long
          (map_of c.args.heap.now old) (c.objects_have_their_bytes.ensures.bytes honest) (so_far.objects honest) found;
      reads = OnlyReads-then so_far.reads
          (OnlyReads-ok (not_failed_as c.read_object.result c.in_ok-bytes.bytes _ c.in_ok-bytes.was) c.read_object.ensures.reads);
      few = omega (arith, (seen g m).0);
    }

pub returns-clause-sizes : goal.returns-clause-sizes
returns-clause-sizes g c =
    let end = seen-none (λ p. (p.number, p.len)) c.args.heap.now.placed c.loop-number.i (sym c.in_default.ensures) in
    let size : Placed → ℕ × ℕ = λ p. (p.number, p.len) in
    c.loop-number.invariant.sizes
    ∙ take_all c.loop-number.i (sizes_of c.args.heap.now) (omega (arith, end, length-map c.args.heap.now.placed size))

pub returns-clause-objects : goal.returns-clause-objects
returns-clause-objects g c = λ honest.
    let end = seen-none (λ p. (p.number, p.len)) c.args.heap.now.placed c.loop-number.i (sym c.in_default.ensures) in
    let i : Image = (g.D.SectorDisk.medium c.args.disk.now).contents in
    c.loop-number.invariant.objects honest
    ∙ take_all c.loop-number.i (map_of c.args.heap.now (g.D.SectorDisk.medium c.args.disk.now))
    (omega (arith, end, length-map c.args.heap.now.placed (object_on i)))
