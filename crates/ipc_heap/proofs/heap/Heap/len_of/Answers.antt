-- The object of the number, if it is there.
use Rattle.std.proofs.Common.{◌≡◌, ◌+◌, ◌<◌, ℕ, List, length, Some, None, sym, ap, ◌∙◌, subst, arith}
use Rattle.ipc_heap.specs.declared.words.Place.{Place}
use Rattle.ipc_heap.specs.View.{HeapView}
use Rattle.ipc_heap.specs.Relations.Found.{seen_at}
use Rattle.ipc_heap.specs.Relations.Words.{wide_at, AreWords, IsPlace, placed_in}
use Rattle.ipc_heap.proofs.Changes.{words-of}
use Rattle.ipc_heap.proofs.Stands.{len-found}
use Rattle.ipc_heap.proofs.heap.Heap.len_of.Goals as goal
use Rattle.ipc_heap.proofs.heap.Heap.len_of.Goals.{After-place_of-place}

pub place_of-place-requires : goal.place_of-place-requires
place_of-place-requires c = subst (λ (l : List ℕ). AreWords l (placed_in l)) (sym c.deref.ensures.value) (words-of c.self.invariant)

module _ (c : After-place_of-place) where
  abbrev words : List ℕ
  words = c.self.inside.words.items

  abbrev place : Place
  place = c.place_of-place.result

  same : seen_at (λ p. p.len) (placed_in words) c.args.object ≡ seen_at (λ p. p.len) c.args.self.now.placed c.args.object
  same = ap (λ (v : HeapView). seen_at (λ p. p.len) v.placed c.args.object) c.self.view_is

  found : (place.len ≡ 0 → None ≡ seen_at (λ p. p.len) (placed_in words) c.args.object)
      × (0 < place.len → (place.at + 3 < length words) × (Some (wide_at words (place.at + 2)) ≡ seen_at (λ p. p.len) (placed_in words) c.args.object))
  found =
      len-found words (placed_in words) c.args.object place (words-of c.self.invariant)
      (subst (λ (l : List ℕ). IsPlace (placed_in l) c.args.object place) c.deref.ensures.value c.place_of-place.ensures)

pub returns-then-place-eq0 : goal.returns-then-place-eq0
returns-then-place-eq0 c =
    let m = (goal.at.returns-then-place-eq0 c).After-place_of-place in (found m).0 c.if-place-eq0.true ∙ same m

pub u64_at-requires : goal.u64_at-requires
u64_at-requires c =
    let m = (goal.at.u64_at-requires c).After-place_of-place in
    omega (arith, ((found m).1 (omega (arith, c.if-place-eq0.false))).0, ap length c.deref-2.ensures.value)

pub returns : goal.returns
returns c =
    let m = (goal.at.returns c).After-place_of-place in
    ap (λ (n : ℕ). Some n) (c.u64_at.ensures ∙ ap (λ (l : List ℕ). wide_at l (c.place_of-place.result.at + 2)) c.deref-2.ensures.value)
    ∙ ((found m).1 (omega (arith, c.if-place-eq0.false))).1 ∙ same m
