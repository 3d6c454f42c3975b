use Rattle.std.proofs.Common.{◌≡◌, length, arith, rules}
use Rattle.ipc_image.proofs.Numbers.{AreBelow}
use Rattle.ipc_image.proofs.EventRecords.{Got, interrupt_found, interrupt_only}
use Rattle.ipc_image.proofs.records.read_interrupt.Goals as goal

pub returns-clause-some : goal.returns-clause-some
returns-clause-some c =
    let fits : AreBelow 256 c.args.bytes.now = λ i. omega (arith, c.type_inv.bytes i) in
    let first : Got c.args.bytes.now c.u32.new.self c.in_ok-u32.field-0 = rw c.new-cursor.ensures at c.in_ok-u32.ensures in
    let empty : length c.u32-2.new.self ≡ 0 = search rules in
    interrupt_found c.args.moment.0 c.args.bytes.now c.u32.new.self c.u32-2.new.self c.in_ok-u32.field-0 c.in_ok-serial.serial
    fits first c.in_ok-serial.ensures empty

pub returns-clause-only : goal.returns-clause-only
returns-clause-only c =
    let first : Got c.args.bytes.now c.u32.new.self c.in_ok-u32.field-0 = rw c.new-cursor.ensures at c.in_ok-u32.ensures in
    interrupt_only c.args.moment.0 c.args.bytes.now c.u32.new.self c.u32-2.new.self c.in_ok-u32.field-0 c.in_ok-serial.serial
    first c.in_ok-serial.ensures
