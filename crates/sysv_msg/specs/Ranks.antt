-- The ranks of message types: they rise with the types, from 0 for the least one that eight bytes hold.
use Rattle.std.specs.Prelude.{ℕ, suc, ◌+◌, ◌-◌, ◌^◌, ◌≤◌, ◌<◌, ℤ, pos, negsuc, ◌≤ℤ◌, List, length, slice_index_or}

abbrev pub rank_of : ℤ → ℕ
rank_of (pos n) = n + 2 ^ 63
rank_of (negsuc n) = 2 ^ 63 - suc n

-- no type is below the one before it
abbrev pub DoNotFall : List ℤ → Type 0
DoNotFall types = (i j : ℕ) (d : ℤ) → i ≤ j → j < length types → slice_index_or types i d ≤ℤ slice_index_or types j d
