-- A window of 512 bytes onto a text that passes by, piece after piece, and is nowhere as a whole.
use Rattle.std.specs.Prelude.{ℕ, ◌-◌, List, [], ◌++◌, length, take, drop}

-- how many bytes are still to pass before the window begins, the bytes that it shows so far, and for
-- how many more it has room
pub record Shown : Type 0 where
  pub before : ℕ
  pub bytes : List ℕ
  pub room : ℕ

-- nothing has passed; the window begins at this place
abbrev pub at_place : ℕ → Shown
at_place place = record { before = place; bytes = []; room = 512 }

-- a piece that stands in the window is shown as far as there is room
abbrev pub showing : List ℕ → Shown → Shown
showing piece w = record w { bytes = w.bytes ++ take w.room piece; room = w.room - length piece }

-- a piece more has passed
abbrev pub passed : List ℕ → Shown → Shown
passed piece w = showing (drop w.before piece) (record w { before = w.before - length piece })
