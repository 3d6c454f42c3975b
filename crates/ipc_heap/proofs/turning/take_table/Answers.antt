-- One sector more is taken.
use Rattle.std.proofs.Common.{◌+◌, List, ℕ, length, ap, sym, subst, ◌∙◌, arith}
use Rattle.std.proofs.lemmas.List.{length_push}
use Rattle.std.proofs.lemmas.Option.{slice_get_within}
use Rattle.ipc_heap.specs.View.{is_free}
use Rattle.ipc_heap.specs.Relations.Uses.{AreTaken}
use Rattle.ipc_heap.proofs.Sectors.{count-none, taken-none, taken-push}
use Rattle.ipc_heap.proofs.turning.take_table.Goals as goal

pub loop-init : goal.loop-init
loop-init c = record {
  taken = subst (λ (l : List ℕ). AreTaken c.args.first c.args.uses.now l c.args.uses.now) (sym c.clear.ensures.items) (taken-none c.args.first c.args.uses.now);
  long = omega (arith, ap length c.clear.ensures.items);
  capacity = c.clear.ensures.capacity;
}

pub returns-in_default-clause-full : goal.returns-in_default-clause-full
returns-in_default-clause-full c = λ short.
    omega (arith, count-none is_free c.loop.uses c.in_default.ensures.none.0, c.loop.invariant.taken.left, c.loop.invariant.long, c.loop-test.true)

pub overflow_cast-i : goal.overflow_cast-i
overflow_cast-i c =
    let one = c.in-Some.ensures.taken in
    omega (arith, slice_get_within c.loop.uses c.in-Some.i one.was one.there, c.loop.invariant.taken.long, c.requires.fits)

pub overflow_add-first : goal.overflow_add-first
overflow_add-first c =
    let one = c.in-Some.ensures.taken in
    omega (arith, slice_get_within c.loop.uses c.in-Some.i one.was one.there, c.loop.invariant.taken.long, c.requires.fits)

pub loop-preserved : goal.loop-preserved
loop-preserved c = record {
  taken = subst (λ (l : List ℕ). AreTaken c.args.first c.args.uses.now l c.take.new.self) (sym c.push_reserved.ensures.items)
      (taken-push c.args.first c.args.uses.now c.loop.uses c.take.new.self c.loop.table.items c.loop.invariant.taken
      c.in-Some.i c.in-Some.ensures.taken);
  long = ap length c.push_reserved.ensures.items ∙ length_push c.loop.table.items (c.args.first + c.in-Some.i) ∙ omega (arith, c.loop.invariant.long);
  capacity = c.push_reserved.ensures.capacity ∙ c.loop.invariant.capacity;
}
