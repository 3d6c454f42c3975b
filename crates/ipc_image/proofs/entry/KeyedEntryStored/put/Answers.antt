use Rattle.std.proofs.Common.{ap, arith, ◌∙◌}
use Rattle.std.proofs.lemmas.List.{length-append}
use Rattle.ipc_base.specs.Numbers.{fields_bytes}
use Rattle.ipc_image.specs.Saved.{head_sizes, head_numbers, counted_bytes}
use Rattle.ipc_image.specs.Window.{passed}
use Rattle.ipc_image.proofs.Windows.{passed-three}
use Rattle.ipc_image.proofs.entry.KeyedEntryStored.put.Goals as goal

pub put_parts-requires-clause-short : goal.put_parts-requires-clause-short
put_parts-requires-clause-short g c =
    let t = g.T.Kind in
    let x = c.args.self.now.object in
    omega (arith, length-append (fields_bytes t.sizes (t.numbers x)) (counted_bytes t.part_bytes (t.parts x)), c.requires.short)

pub returns-clause-passed : goal.returns-clause-passed
returns-clause-passed g c =
    let t = g.T.Kind in
    let e = c.args.self.now in
    let x = e.object in
    c.put_parts.ensures.passed ∙ ap (passed (counted_bytes t.part_bytes (t.parts x))) (c.put_numbers.ensures
    ∙ ap (passed (fields_bytes t.sizes (t.numbers x))) c.put_head.ensures)
    ∙ passed-three c.args.window.now (fields_bytes head_sizes (head_numbers e.bound e.perm)) (fields_bytes t.sizes (t.numbers x))
    (counted_bytes t.part_bytes (t.parts x))
