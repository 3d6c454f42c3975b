-- What a contract sees: values in the order in which they came, and how many have a place.
use Rattle.std.specs.Prelude.{◌≡◌, ◌≢◌, ℕ, ◌<◌, List, length, filter_map, option_map, Some, slice_index_or}
use Rattle.slab.specs.Slab.{Slab, get, slab_len}

-- the rank of a value, and its slot
pub record Row : Type 0 where
  pub rank : ℕ
  pub slot : ℕ

-- the rows by arrival, and for how many there are places
pub record Rows : Type 0 where
  pub rows : List Row
  pub places : ℕ

-- the values by arrival, and for how many there are places
pub record Arrived (T : Type 0) : Type 0 where
  pub items : List T
  pub places : ℕ

module _ {T : Type 0} where
  -- the values in the slots of these rows
  abbrev pub values_at : Slab T → List Row → List T
  values_at slots rows = filter_map (λ row. get slots row.slot) rows

  -- each row names a slot of its own with a value of its rank, and there are no other values
  pub record AreKept (rank : T → ℕ) (slots : Slab T) (rows : List Row) : Type 0 where
    pub there : (k : ℕ) (d : Row) → k < length rows
        → option_map rank (get slots (slice_index_or rows k d).slot) ≡ Some (slice_index_or rows k d).rank
    pub apart : (i j : ℕ) (d : Row) → i < j → j < length rows
        → (slice_index_or rows i d).slot ≢ (slice_index_or rows j d).slot
    pub count : slab_len slots ≡ length rows
