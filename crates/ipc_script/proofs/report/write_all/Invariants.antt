use Rattle.std.proofs.Common.{◌≡◌, List, ℕ, ◌++◌, length}
use Rattle.std.specs.Io.KnownBytes.{Appends}
use Rattle.ipc_script.proofs.report.write_all.Given as goal

-- what is written, and what is left to write, are the bytes
abbrev pub invariant-pieces : goal.invariant-pieces
invariant-pieces g l =
    (done : List ℕ) × (done ++ l.rest ≡ l.bytes) × Appends (g.W.Write.contents l.fn.writer) (g.W.Write.contents l.writer) done

-- what is left to write
abbrev pub decreases-pieces : goal.decreases-pieces
decreases-pieces g l = length l.rest
