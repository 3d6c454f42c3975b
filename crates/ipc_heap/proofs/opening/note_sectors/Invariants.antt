use Rattle.std.proofs.Common.{◌≡◌, ◌+◌, ◌++◌, ℕ, List, length, take, drop}
use Rattle.ipc_heap.specs.Relations.Opening.{AreNoted}
use Rattle.ipc_heap.proofs.opening.note_sectors.Given as goal

-- so many of the object's sectors are noted
abbrev pub invariant-loop-k : goal.invariant-loop-k
invariant-loop-k l = record {
  all : length l.uses ≡ l.range.count;
  noted : (used : List ℕ) → AreNoted l.range used l.table l.fn.uses
      → AreNoted l.range (used ++ take l.k (drop (l.at + 4) l.words)) l.table l.uses;
}
