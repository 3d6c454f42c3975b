-- Bytes, and numbers of four bytes side by side.
use Rattle.std.proofs.Common.{ℕ, ◌<◌, List, get_or}
use Rattle.std.specs.Int.{w32, to_be_bytes}
use Rattle.std.specs.List.{flat_map}

-- the numbers, each in four bytes
abbrev pub spelled : List ℕ → List ℕ
spelled numbers = flat_map (to_be_bytes w32) numbers

abbrev pub AreBelow : ℕ → List ℕ → Type 0
AreBelow most numbers = (i : ℕ) → get_or numbers i 0 < most
