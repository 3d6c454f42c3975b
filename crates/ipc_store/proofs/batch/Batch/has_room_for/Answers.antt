use Rattle.std.proofs.Common.{sym, arith}
use Rattle.ipc_store.proofs.Batches.{filled-length}
use Rattle.ipc_store.proofs.batch.Batch.has_room_for.Goals as goal

pub returns : goal.returns
returns c =
    let whole = filled-length c.self.inside.bytes.items c.self.inside.len c.self.inside.count c.self.invariant in
    rw (sym c.self.view_is) (search arith)
