-- The adjustments of all processes as a list: those of one process by its rows, their bytes piece by piece, how many
-- they are, and that each has its place.
use Rattle.std.proofs.Common.{◌≡◌, ℕ, ℤ, FitsSigned, ◌+◌, ◌*◌, ◌^◌, ◌<◌, ◌≤◌, List, [], ◌∷◌, ◌++◌, length, map, take, get_or, refl, sym, ap, subst, ◌∙◌, arith}
use Rattle.std.specs.Prelude.{All}
use Rattle.std.specs.FinMap as fin
use Rattle.std.specs.FinMap.{len-entries}
use Rattle.std.specs.List.{flat_map}
use Rattle.std.proofs.lemmas.List.{length-map, length-append, length-take}
use Rattle.std.proofs.lemmas.List.Concat.{flat_map-cons}
use Rattle.std.proofs.lemmas.List.Elements.{All-append, All-head, All-map, All-nil, All-tail, All-weaker}
use Rattle.std.proofs.lemmas.List.Folds.{flat_map-map}
use Rattle.std.proofs.lemmas.Simd.{map-map}
use Rattle.std.proofs.lemmas.Int.{ints}
use Rattle.std.proofs.Math.Facts.{Fits-of_z}
use Rattle.std.proofs.Math.Nat.{suc-mul}
use Rattle.std.specs.Int.{w16}
use Rattle.std.proofs.lemmas.Grind.{flat_map-append}
use Rattle.ipc_base.specs.Table.{EachValue}
use Rattle.sem_undo.specs.Undo.{Undo, entry_of, IsKept}
use Rattle.sem_undo.specs.declared.undo.UndoRow.{UndoRow}
use Rattle.ipc_state.specs.declared.numbered.Item.{Item}
use Rattle.ipc_state.specs.Tables.{item_row}
use Rattle.ipc_image.specs.Saved.{adjustment_bytes, adjustments_of, adjustments_in, FitsAdjustment}
use Rattle.ipc_image.specs.SavedParts.{of_process, first_bytes}
use Rattle.ipc_image.proofs.Marks.{row-at, first-next, first-fit, length-each}

-- what is kept has its place in two bytes
in-two : (a : ℤ) → IsKept a → FitsSigned w16 a
in-two a kept = let within = kept.1 in grind (arith, ints)

-- the bytes of a row of a process, and of all those of one process
abbrev pub row_bytes : ℕ → UndoRow → List ℕ
row_bytes pid row = adjustment_bytes (of_process pid row)

abbrev pub own_bytes : ℕ × Undo → List ℕ
own_bytes p = flat_map adjustment_bytes (adjustments_of p)

-- the first of them have 12 bytes each
pub first-long : (pid : ℕ) (rows : List UndoRow) (n : ℕ) → n ≤ length rows → length (first_bytes (row_bytes pid) n rows) ≡ 12 * n
first-long pid rows n within = omega (arith, length-each (row_bytes pid) 12 (λ x. refl) (take n rows), length-take n rows)

-- ---- those of one process

module _ (p : ℕ × Undo) (rows : List UndoRow) (are : map entry_of rows ≡ fin.entries p.1) where
  pub own-are : map (of_process p.0) rows ≡ adjustments_of p
  own-are = sym (map-map (λ a. (p.0, a)) entry_of rows) ∙ ap (map (λ a. (p.0, a))) are

  pub own-count : length (adjustments_of p) ≡ length rows
  own-count = omega (arith, ap length own-are, length-map rows (of_process p.0))

  pub own-rows : flat_map (row_bytes p.0) rows ≡ own_bytes p
  own-rows = sym (flat_map-map adjustment_bytes (of_process p.0) rows) ∙ ap (flat_map adjustment_bytes) own-are

  -- each has its place, if each row has
  pub own-fit : p.0 < 2 ^ 32 → All (λ r. IsKept r.adjustment × (r.set.0 < 2 ^ 32) × (r.num < 2 ^ 16)) rows → All FitsAdjustment (adjustments_of p)
  own-fit pid each =
      subst (All FitsAdjustment) own-are (All-map FitsAdjustment (of_process p.0) rows
      (All-weaker (λ (r : UndoRow). IsKept r.adjustment × (r.set.0 < 2 ^ 32) × (r.num < 2 ^ 16)) (λ r. FitsAdjustment (of_process p.0 r))
      (λ r h. (h.0, (pid, (h.1, (h.2, ((Fits-of_z (in-two r.adjustment h.0)).fits, tt)))))) rows each))

-- ---- piece by piece

pub all-own : (ps : List (ℕ × Undo)) → flat_map own_bytes ps ≡ flat_map adjustment_bytes (adjustments_in ps)
all-own [] = refl
all-own (p ∷ ps) =
    flat_map-cons own_bytes p ps ∙ ap (λ (l : List ℕ). own_bytes p ++ l) (all-own ps)
    ∙ sym (flat_map-append adjustment_bytes (adjustments_of p) (adjustments_in ps))
    ∙ ap (flat_map adjustment_bytes) (sym (flat_map-cons adjustments_of p ps))

-- ---- how many

-- those of one process more, by its rows
module _ (items : List (Item Undo)) (at : ℕ) (item : Item Undo) (rows : List UndoRow) where
  abbrev count : ℕ → ℕ
  count n = length (flat_map adjustments_of (take n (map item_row items)))

  pub count-next : at < length items → item ≡ get_or items at item → map entry_of rows ≡ fin.entries item.value
      → (count (at + 1) ≡ count at + length rows) × (count (at + 1) ≤ length (adjustments_in (map item_row items)))
  count-next within is are =
      let ps : List (ℕ × Undo) = map item_row items in
      let next = first-next adjustments_of ps at (item_row item) (row-at item_row items at item within is) in
      (omega (arith, next, own-count (item_row item) rows are), first-fit adjustments_of ps (at + 1))

-- no process has more than so many
pub few-in : (most : ℕ) (ps : List (ℕ × Undo)) → EachValue (λ (u : Undo). fin.len u ≤ most) ps → length (adjustments_in ps) ≤ length ps * most
few-in most [] few = omega arith
few-in most (p ∷ ps) few =
    let own : length (adjustments_of p) ≡ fin.len p.1 = length-map (fin.entries p.1) (λ a. (p.0, a)) ∙ sym (len-entries p.1) in
    let all = ap length (flat_map-cons adjustments_of p ps) ∙ length-append (adjustments_of p) (adjustments_in ps) in
    omega (arith, own, all, few.0, few-in most ps few.1, suc-mul (length ps) most)

-- ---- each has its place

pub each-fit : (ps : List (ℕ × Undo)) → All (λ p. All FitsAdjustment (adjustments_of p)) ps → All FitsAdjustment (adjustments_in ps)
each-fit [] each = All-nil _
each-fit (p ∷ ps) each =
    let Fit : ℕ × Undo → Type 0 = λ q. All FitsAdjustment (adjustments_of q) in
    subst (All FitsAdjustment) (sym (flat_map-cons adjustments_of p ps))
    (All-append FitsAdjustment (adjustments_of p) (adjustments_in ps) (All-head Fit p ps each) (each-fit ps (All-tail Fit p ps each)))
