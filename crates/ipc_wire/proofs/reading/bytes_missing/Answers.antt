use Rattle.std.proofs.Common.{◌∙◌, length, take, sym, ap, arith}
use Rattle.std.specs.Int.{w32, from_be_bytes}
use Rattle.ipc_wire.proofs.Frames.{waiting_long}
use Rattle.ipc_wire.proofs.reading.bytes_missing.Goals as goal

pub overflow_sub-result : goal.overflow_sub-result
overflow_sub-result c =
    let read = c.in-Some.ensures in
    let bounds = waiting_long c.args.bytes.now c.in-Some.length (omega (arith, read.0, ap length c.new-cursor.ensures))
    (ap (λ bytes. from_be_bytes w32 (take 4 bytes)) (sym c.new-cursor.ensures) ∙ sym read.1) c.requires in
    omega (arith, bounds.0)

pub returns-in-Some-clause-some : goal.returns-in-Some-clause-some
returns-in-Some-clause-some c =
    let read = c.in-Some.ensures in
    let bounds = waiting_long c.args.bytes.now c.in-Some.length (omega (arith, read.0, ap length c.new-cursor.ensures))
    (ap (λ bytes. from_be_bytes w32 (take 4 bytes)) (sym c.new-cursor.ensures) ∙ sym read.1) c.requires in
    omega (arith, bounds.0)

pub returns-in-Some-clause-bounded : goal.returns-in-Some-clause-bounded
returns-in-Some-clause-bounded c =
    let read = c.in-Some.ensures in
    let bounds = waiting_long c.args.bytes.now c.in-Some.length (omega (arith, read.0, ap length c.new-cursor.ensures))
    (ap (λ bytes. from_be_bytes w32 (take 4 bytes)) (sym c.new-cursor.ensures) ∙ sym read.1) c.requires in
    omega (arith, bounds.0, bounds.1)
