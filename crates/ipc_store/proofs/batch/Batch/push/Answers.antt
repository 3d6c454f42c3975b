use Rattle.std.proofs.Common.{length, ap, arith}
use Rattle.ipc_store.proofs.Batches.{filled-length, lent}
use Rattle.ipc_store.proofs.batch.Batch.push.Goals as goal

pub put_record-self-inside-requires-clause-room : goal.put_record-self-inside-requires-clause-room
put_record-self-inside-requires-clause-room c =
    let whole = filled-length c.self.inside.bytes.items c.self.inside.len c.self.inside.count c.self.invariant in
    omega (arith, whole, c.requires.room, ap (λ v. length v.records) c.self.view_is)

pub invariant_of-self : goal.invariant_of-self
invariant_of-self c =
    let p = c.put_record-self-inside.ensures in
    let back = lent c.self.inside.bytes.len c.put_record-self-inside.new.bytes c.self.inside.bytes.items (omega (arith, p.size, c.self.invariant.size)) in
    rw back (record {
      size = p.size;
      least = omega (arith, p.least, c.self.invariant.least);
      none = λ zero. absurd (omega (arith, zero));
      within = p.most;
      field = p.field;
    })
