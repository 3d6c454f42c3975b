use Rattle.std.proofs.Common.{◌≡◌}
use Rattle.ipc_image.specs.SavedParts.{first_bytes}
use Rattle.ipc_image.specs.Window.{Shown, passed}
use Rattle.ipc_image.proofs.saved.put_from.Given as goal

-- those before this one have passed
abbrev pub invariant-loop-at : goal.invariant-loop-at
invariant-loop-at g l = let t = g.L.Listed in
    (begun : Shown) → l.initial.window ≡ passed (first_bytes t.bytes l.first (t.items l.items)) begun
    → l.window ≡ passed (first_bytes t.bytes l.at (t.items l.items)) begun
