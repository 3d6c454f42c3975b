use Rattle.std.proofs.Common.{FitsSigned, Option, ◌∙◌, Some, sym, arith, rules}
use Rattle.std.specs.Int.{w16}
use Rattle.std.proofs.lemmas.Int.{to_z-of_z}
use Rattle.ipc_wire.specs.declared.sem_bufs.SemBuf.{SemBuf}
use Rattle.ipc_wire.proofs.SixNumbers.{operation_at, operations_count}
use Rattle.ipc_wire.proofs.sem_bufs.SemBufs.at.Goals as goal

pub returns : goal.returns
returns c =
    let bytes = c.args.self.now.bytes.now in
    let fit : FitsSigned w16 c.from_be_bytes-2.result = search rules in
    let op = to_z-of_z w16 c.from_be_bytes-2.result fit ∙ c.from_be_bytes-2.ensures in
    operation_at bytes c.args.place (omega (arith, c.requires, operations_count bytes))
    ∙ (λ i. let o : Option SemBuf = Some (record { num = sym c.from_be_bytes.ensures i; op = sym op i; flags = sym c.from_be_bytes-3.ensures i }) in o)
