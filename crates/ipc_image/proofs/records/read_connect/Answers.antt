use Rattle.std.proofs.Common.{◌≡◌, length, arith, rules}
use Rattle.ipc_image.proofs.Numbers.{AreBelow}
use Rattle.ipc_image.proofs.EventRecords.{Got, connect_found, connect_only}
use Rattle.ipc_image.proofs.records.read_connect.Goals as goal

pub returns-clause-some : goal.returns-clause-some
returns-clause-some c =
    let fits : AreBelow 256 c.args.bytes.now = λ i. omega (arith, c.type_inv.bytes i) in
    let first : Got c.args.bytes.now c.u32.new.self c.in_ok-serial.serial = rw c.new-cursor.ensures at c.in_ok-serial.ensures in
    let empty : length c.u32-3.new.self ≡ 0 = search rules in
    connect_found c.args.moment.0 c.args.bytes.now c.u32.new.self c.u32-2.new.self c.u32-3.new.self c.in_ok-serial.serial c.in_ok-uid.uid c.in_ok-gid.gid
    fits first c.in_ok-uid.ensures c.in_ok-gid.ensures empty

pub returns-clause-only : goal.returns-clause-only
returns-clause-only c =
    let first : Got c.args.bytes.now c.u32.new.self c.in_ok-serial.serial = rw c.new-cursor.ensures at c.in_ok-serial.ensures in
    connect_only c.args.moment.0 c.args.bytes.now c.u32.new.self c.u32-2.new.self c.u32-3.new.self c.in_ok-serial.serial c.in_ok-uid.uid c.in_ok-gid.gid
    first c.in_ok-uid.ensures c.in_ok-gid.ensures
