-- The words of the i-th object.
use Rattle.std.proofs.Common.{◌≡◌, ℕ, ◌+◌, ◌<◌, List, length, get_or, take, Some, refl, sym, ◌∙◌, ap, arith}
use Rattle.ipc_heap.specs.View.{HeapView}
use Rattle.ipc_heap.specs.Relations.Words.{wide_at, object_len_at, AreWords}
use Rattle.ipc_heap.proofs.Placed.{words_for}
use Rattle.ipc_heap.proofs.Stands.{IsObjectAt, nowhere, object-at, words-heap, seen-at}
use Rattle.ipc_heap.proofs.heap.Heap.object_at.Goals as goal
use Rattle.ipc_heap.proofs.heap.Heap.object_at.Goals.{In-loop}

pub loop-init : goal.loop-init
loop-init c =
    let words : List ℕ = c.self.inside.words.items in
    let are : AreWords words c.args.self.now.placed = words-heap c.self.invariant (ap (λ (h : HeapView). h.placed) c.self.view_is) in
    let less : c.args.i < length c.args.self.now.placed =
    omega (arith, c.index.ensures, ap (λ (l : List ℕ). get_or l 0 c.index.result.now) are.are, c.if-i-index.false) in
    record {
      are = are;
      less = less;
      at = refl;
      room = λ le. omega (arith, (object-at words c.args.self.now.placed 0 1 are (omega (arith, less)) refl).within);
    }

-- the object that is passed over
here : (c : In-loop) → IsObjectAt c.self.inside.words.items c.args.self.now.placed c.loop.counter c.loop.at
here c = object-at _ _ _ _ c.loop.invariant.are (omega (arith, c.loop.invariant.less, c.loop-test.true)) c.loop.invariant.at

pub overflow_add-at : goal.overflow_add-at
overflow_add-at c =
    omega (
      arith,
      (here (goal.at.overflow_add-at c).In-loop).within,
      c.object_len-at.ensures,
      ap (λ (l : List ℕ). object_len_at l c.loop.at) c.deref.ensures.value,
    )

pub loop-preserved : goal.loop-preserved
loop-preserved c =
    let words : List ℕ = c.self.inside.words.items in
    let so_far = c.loop.invariant in
    let next : c.loop.at + c.object_len-at.result ≡ 1 + words_for (take (c.loop.counter + 1) c.args.self.now.placed) =
    ap (λ (n : ℕ). c.loop.at + n) (c.object_len-at.ensures ∙ ap (λ (l : List ℕ). object_len_at l c.loop.at) c.deref.ensures.value)
    ∙ (here (goal.at.loop-preserved c).In-loop).next in
    record {
      are = so_far.are;
      less = so_far.less;
      at = next;
      room = λ le. omega (arith, (object-at words c.args.self.now.placed (c.loop.counter + 1) _ so_far.are (omega (arith, le, so_far.less)) next).within);
    }

pub returns : goal.returns
returns c =
    let so_far = c.loop.invariant in
    let placed = c.args.self.now.placed in
    let same : c.loop.counter ≡ c.args.i = omega (arith, c.loop.auto.counter-end, c.loop-test.false) in
    let at = object-at c.self.inside.words.items placed c.args.i c.loop.at so_far.are so_far.less
    (so_far.at ∙ ap (λ (n : ℕ). 1 + words_for (take n placed)) same) in
    ap (λ (n : ℕ). Some (n, c.u64_at-2.result)) (c.u64_at.ensures ∙ ap (λ (l : List ℕ). wide_at l c.loop.at) c.deref-2.ensures.value ∙ at.number)
    ∙ ap (λ (n : ℕ). Some ((get_or placed c.args.i nowhere).number, n))
    (c.u64_at-2.ensures ∙ ap (λ (l : List ℕ). wide_at l (c.loop.at + 2)) c.deref-3.ensures.value ∙ at.len)
    ∙ sym (seen-at placed c.args.i so_far.less)
