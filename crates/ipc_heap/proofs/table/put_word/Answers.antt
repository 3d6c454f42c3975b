-- The word is in its place.
use Rattle.std.proofs.Common.{arith}
use Rattle.ipc_heap.proofs.Parts.{word-put}
use Rattle.ipc_heap.proofs.table.put_word.Goals as goal

pub returns : goal.returns
returns c =
    word-put c.args.sector.now c.write_u32.new.buf c.args.i c.args.word c.told-sector c.requires (omega arith) c.write_u32.ensures
