use Rattle.std.proofs.Common.{sym, arith}
use Rattle.ipc_store.proofs.Batches.{filled-length, filled-bytes}
use Rattle.ipc_store.proofs.batch.Batch.bytes.Goals as goal

pub returns-clause-bytes : goal.returns-clause-bytes
returns-clause-bytes c =
    rw (sym c.self.view_is, c.deref.ensures.value) (filled-bytes c.self.inside.bytes.items c.self.inside.len c.self.inside.count c.self.invariant)

pub returns-clause-size : goal.returns-clause-size
returns-clause-size c =
    let whole = filled-length c.self.inside.bytes.items c.self.inside.len c.self.inside.count c.self.invariant in
    rw (sym c.self.view_is) (omega (arith, c.self.invariant.within, whole))
