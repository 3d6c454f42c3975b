-- The sectors after the objects.
use Rattle.std.proofs.Common.{ℕ, length, sym, arith}
use Rattle.std.proofs.lemmas.List.FromFn.{length-range_with_len, get_or-range_with_len}
use Rattle.ipc_heap.specs.Heap.{table_sectors_for, table_words}
use Rattle.ipc_heap.specs.Relations.Table.{placed_after}
use Rattle.ipc_heap.proofs.objects.LaidTable.sector.Goals as goal

pub overflow_cast-result : goal.overflow_cast-result
overflow_cast-result g c =
    let n : ℕ = table_sectors_for (length (table_words (placed_after c.args.self.now.first (g.O.Objects.objects c.args.self.now.objects.now)))) in
    omega (arith, c.requires.there, length-range_with_len c.args.self.now.beyond n, c.requires.sound.fit)

pub overflow_add-result : goal.overflow_add-result
overflow_add-result g c =
    let n : ℕ = table_sectors_for (length (table_words (placed_after c.args.self.now.first (g.O.Objects.objects c.args.self.now.objects.now)))) in
    omega (arith, c.requires.there, length-range_with_len c.args.self.now.beyond n, c.requires.sound.fit)

pub returns : goal.returns
returns g c =
    let n : ℕ = table_sectors_for (length (table_words (placed_after c.args.self.now.first (g.O.Objects.objects c.args.self.now.objects.now)))) in
    sym (get_or-range_with_len c.args.self.now.beyond n c.args.j 0 (omega (arith, c.requires.there, length-range_with_len c.args.self.now.beyond n)))
