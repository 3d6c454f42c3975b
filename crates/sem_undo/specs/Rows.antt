-- How the adjustments stand in memory. A reader of the definitions alone needs none of it.
use Rattle.std.specs.Prelude.{◌≡◌, ◌<◌, ◌≤◌, ℕ, suc, ℤ, T, List, All, map, length, take, drop, slice_index_or}
use Rattle.std.specs.declared.cmp.Ordering.{Ordering}
use Rattle.std.specs.declared.cmp.Ordering.TheVariants.{Less, Greater}
use Rattle.std.specs.FinMap.{is_sorted}
use Rattle.sem_undo.specs.declared.undo.UndoRow.{UndoRow}
use Rattle.sem_undo.specs.Undo.{Key, key_cmp, entry_of, IsKept}

-- rows as entries
abbrev pub entries_of : List UndoRow → List (Key × ℤ)
entries_of rows = map entry_of rows

-- the rows rise, and each is kept
pub record AreRows (entries : List (Key × ℤ)) : Type 0 where
  pub rising : T (is_sorted key_cmp entries)
  pub kept : All (λ e. IsKept e.1) entries

-- a key stands between two lists
pub record IsBetween {K X : Type 0} (R : K → K → Ordering) (k : K) (front back : List (K × X)) : Type 0 where
  pub before : All (λ e. R k e.0 ≡ Greater) front
  pub after : All (λ e. R k e.0 ≡ Less) back

-- the element at a place has the key, and those before and after it have others
pub record IsAt {K X Y : Type 0} (R : K → K → Ordering) (entry : Y → K × X) (k : K) (ys : List Y) (i : ℕ) : Type 0 where
  pub within : i < length ys
  pub key : (d : Y) → (entry (slice_index_or ys i d)).0 ≡ k
  pub between : IsBetween R k (map entry (take i ys)) (map entry (drop (suc i) ys))

-- no element has the key, and a place is where it would be
pub record IsGap {K X Y : Type 0} (R : K → K → Ordering) (entry : Y → K × X) (k : K) (ys : List Y)
    (i : ℕ) : Type 0 where
  pub within : i ≤ length ys
  pub between : IsBetween R k (map entry (take i ys)) (map entry (drop i ys))
