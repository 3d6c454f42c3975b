-- The words after the first four are the sectors.
use Rattle.std.proofs.Common.{◌≤◌, ℕ, ◌/◌, ◌%◌, ◌^◌, List, length, sym, arith}
use Rattle.ipc_disk.specs.Standing.{sectors_for}
use Rattle.ipc_heap.specs.Relations.Table.{object_at}
use Rattle.ipc_heap.proofs.Runs.{word-later}
use Rattle.ipc_heap.proofs.objects.word_of.Goals as goal

pub returns-in_default : goal.returns-in_default
returns-in_default g c =
    let o : ℕ × List ℕ = object_at (g.O.Objects.objects c.args.objects.now) c.args.k in
    let low : 4 ≤ c.args.i = omega arith in
    sym (word-later c.args.first (sectors_for (length o.1)) c.args.i (o.0 / 2 ^ 32) (o.0 % 2 ^ 32) (length o.1 / 2 ^ 32)
    (length o.1 % 2 ^ 32) low c.requires.there)
