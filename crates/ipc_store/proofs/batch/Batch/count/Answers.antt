use Rattle.std.proofs.Common.{sym, arith}
use Rattle.ipc_store.proofs.Batches.{filled-length}
use Rattle.ipc_store.proofs.batch.Batch.count.Goals as goal

pub returns-clause-some : goal.returns-clause-some
returns-clause-some c =
    let whole = filled-length c.self.inside.bytes.items c.self.inside.len c.self.inside.count c.self.invariant in
    rw (sym c.self.view_is) (omega (arith, c.self.invariant.least, whole))
