use Rattle.std.proofs.Common.{◌≡◌, length}
use Rattle.ipc_image.specs.SavedParts.{first_bytes}
use Rattle.ipc_image.proofs.saved.list_len.Given as goal

-- the bytes of those before this one
abbrev pub invariant-loop-at : goal.invariant-loop-at
invariant-loop-at g l = let t = g.L.Listed in l.len ≡ length (first_bytes t.bytes l.at (t.items l.items))
