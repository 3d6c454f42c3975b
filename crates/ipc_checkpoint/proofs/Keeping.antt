-- What some objects lack is taken out of a heap, one after another.
use Rattle.std.proofs.Common.{◌≡◌, ℕ, zero, suc, ◌+◌, ◌<◌, ◌≤◌, Bool, true, false, List, [], ◌∷◌, length, get_or, map, take, Some, None}
use Rattle.std.proofs.Common.{refl, sym, ap, subst, ◌∙◌, arith}
use Rattle.std.specs.Prelude.{All, option_map, slice_get}
use Rattle.std.specs.List.{filter}
use Rattle.std.proofs.lemmas.List.{take_all, take_more}
use Rattle.std.proofs.lemmas.List.Elements.{All-append, All-cons, All-nil}
use Rattle.ipc_disk.specs.declared.range.Range.{Range}
use Rattle.ipc_heap.specs.Heap.{Placed}
use Rattle.ipc_heap.specs.Matches.{AreNext, Keeps, Removes}
use Rattle.ipc_heap.specs.View.{HeapView, StaysInPlace, free}
use Rattle.ipc_checkpoint.proofs.Tables.{IsKeptOne, all-kept, left-fewer, left-first, left-most, left-same}

-- no object
abbrev pub nowhere : Placed
nowhere = record { number = 0; len = 0; sectors = [] }

-- what is seen of an element that is there
pub seen-at : {X Y : Type 0} (f : X → Y) (xs : List X) (i : ℕ) (d : X) (y : Y) → option_map f (slice_get xs i) ≡ Some y
    → (i < length xs) × (f (get_or xs i d) ≡ y)
seen-at f [] i d y is = cc
seen-at f (x ∷ xs) zero d y is = (omega arith, cc)
seen-at f (x ∷ xs) (suc i) d y is = let rest = seen-at f xs i d y is in (omega (arith, rest.0), rest.1)

pub seen-none : {X Y : Type 0} (f : X → Y) (xs : List X) (i : ℕ) → option_map f (slice_get xs i) ≡ None → length xs ≤ i
seen-none f [] i is = omega arith
seen-none f (x ∷ xs) zero is = cc
seen-none f (x ∷ xs) (suc i) is = omega (arith, seen-none f xs i is)

-- it lies where it lay after calls, and after others
pub stays-then : {a b c : HeapView} → StaysInPlace a b → StaysInPlace b c → StaysInPlace a c
stays-then first next = record {
  range = next.range ∙ first.range;
  root = next.root ∙ first.root;
  next_root = next.next_root ∙ first.next_root;
  epoch = next.epoch ∙ first.epoch;
  table = next.table ∙ first.table;
}

-- so what is said of where it lies now is said of where it lay
pub in-place : {a b : HeapView} (P : Range → ℕ → ℕ → ℕ → Type 0) → StaysInPlace a b → P b.range b.root b.next_root b.epoch
    → P a.range a.root a.next_root a.epoch
in-place P stays here = rw (stays.range, stays.root, stays.next_root, stays.epoch) at here

module _ (kept : ℕ → Bool) where
  -- the first i objects are kept, and of the others none was taken out that is
  pub record KeepsSoFar (i : ℕ) (old new : HeapView) : Type 0 where
    pub stays : StaysInPlace old new
    pub placed : filter (λ p. kept p.number) new.placed ≡ filter (λ p. kept p.number) old.placed
    pub first : All (IsKeptOne kept) (take i new.placed)
    pub few : length new.placed ≤ length old.placed
    pub saved : map (λ u. u.saved) new.uses ≡ map (λ u. u.saved) old.uses
    pub next : AreNext old → AreNext new
    pub free : free old ≤ free new

  pub keeps-none : (heap : HeapView) → KeepsSoFar 0 heap heap
  keeps-none heap = record {
    stays = record { range = refl; root = refl; next_root = refl; epoch = refl; table = refl };
    placed = refl;
    first = All-nil (IsKeptOne kept);
    few = omega arith;
    saved = refl;
    next = λ before. before;
    free = omega arith;
  }

  module _ (i : ℕ) (old mid : HeapView) (so_far : KeepsSoFar i old mid) (number : ℕ) (d : Placed) (less : i < length mid.placed)
      (is : (get_or mid.placed i d).number ≡ number) where
    pub keeps-more : kept number ≡ true → KeepsSoFar (i + 1) old mid
    keeps-more on = record {
      stays = so_far.stays;
      placed = so_far.placed;
      first = subst (All (IsKeptOne kept)) (sym (take_more mid.placed i d less))
          (All-append (IsKeptOne kept) (take i mid.placed) (get_or mid.placed i d ∷ []) so_far.first
          (All-cons (IsKeptOne kept) (get_or mid.placed i d) [] (ap kept is ∙ on) (All-nil (IsKeptOne kept))));
      few = so_far.few;
      saved = so_far.saved;
      next = so_far.next;
      free = so_far.free;
    }

    pub keeps-less : (new : HeapView) → kept number ≡ false → Removes number mid new → free mid ≤ free new
        → KeepsSoFar i old new × (length new.placed < length mid.placed)
    keeps-less new off removes more = (
      record {
        stays = stays-then so_far.stays removes.stays;
        placed = ap (λ (l : List Placed). filter (λ p. kept p.number) l) removes.placed ∙ left-same kept number off mid.placed ∙ so_far.placed;
        first = subst (λ (l : List Placed). All (IsKeptOne kept) (take i l)) (sym removes.placed) (left-first kept number off i mid.placed so_far.first);
        few = omega (arith, ap length removes.placed, left-most kept number mid.placed, so_far.few);
        saved = removes.saved ∙ so_far.saved;
        next = λ before. removes.next (so_far.next before);
        free = omega (arith, so_far.free, more);
      },
      omega (arith, ap length removes.placed, left-fewer kept number i mid.placed d less is),
    )

  pub keeps-all : (i : ℕ) (old new : HeapView) → KeepsSoFar i old new → length new.placed ≤ i → Keeps kept old new
  keeps-all i old new so_far all = record {
    stays = so_far.stays;
    placed = sym (all-kept kept new.placed (subst (All (IsKeptOne kept)) (take_all i new.placed all) so_far.first)) ∙ so_far.placed;
    saved = so_far.saved;
    next = so_far.next;
  }
