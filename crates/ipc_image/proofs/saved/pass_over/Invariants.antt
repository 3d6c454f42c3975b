use Rattle.std.proofs.Common.{length, ◌-◌, ◌≡◌}
use Rattle.ipc_image.specs.SavedParts.{first_bytes, IsMarkIn}
use Rattle.ipc_image.specs.Window.{Shown, passed}
use Rattle.ipc_image.proofs.saved.pass_over.Given as goal

-- those of the mark have passed
abbrev pub invariant-loop-mark : goal.invariant-loop-mark
invariant-loop-mark g l = let t = g.L.Listed in record {
  mark : IsMarkIn t.bytes (t.items l.items) l.mark;
  passed : (begun : Shown)
      → l.initial.window ≡ passed (first_bytes t.bytes l.initial.mark.parts (t.items l.items)) begun
      → l.window ≡ passed (first_bytes t.bytes l.mark.parts (t.items l.items)) begun;
}

abbrev pub decreases-loop-mark : goal.decreases-loop-mark
decreases-loop-mark g l = length (g.L.Listed.items l.items) - l.mark.parts
