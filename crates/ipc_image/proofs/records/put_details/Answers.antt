use Rattle.std.proofs.Common.{◌≤◌, ◌+◌, ◌++◌, List, ℕ, length, arith}
use Rattle.std.specs.Int.{w32, to_be_bytes}
use Rattle.ipc_base.specs.Fields.{Puts}
use Rattle.ipc_base.proofs.CallerLemmas.{puts_room, puts_more}
use Rattle.ipc_wire.specs.View.{plain_request}
use Rattle.ipc_wire.specs.Spelling.{request_bytes}
use Rattle.ipc_image.proofs.records.put_details.Goals as goal

pub returns-in-Connect-clause-bytes : goal.returns-in-Connect-clause-bytes
returns-in-Connect-clause-bytes c =
    let at : ℕ = c.args.put.now in
    let old : List ℕ = c.args.out.now in
    let room : at + 12 ≤ length old = rw c.in-Connect.is at c.requires in
    let serial : List ℕ = to_be_bytes w32 c.in-Connect.serial in
    let uid : List ℕ = to_be_bytes w32 c.in-Connect.cred.uid in
    let gid : List ℕ = to_be_bytes w32 c.in-Connect.cred.gid in
    let a = puts_room serial at c.u32.new.self old c.u32.new.buffer c.u32.result c.u32.ensures (omega (arith, room)) in
    let b = puts_more serial uid at c.u32.new.self c.u32-in-Connect.new.self old c.u32.new.buffer c.u32-in-Connect.new.buffer
    c.u32-in-Connect.result a c.u32-in-Connect.ensures
    (omega (arith, room)) in
    rw c.in-Connect.is (puts_more (serial ++ uid) gid at c.u32-in-Connect.new.self c.u32-in-Connect-2.new.self old
    c.u32-in-Connect.new.buffer c.u32-in-Connect-2.new.buffer
    c.u32-in-Connect-2.result b c.u32-in-Connect-2.ensures (omega (arith, room)))

pub returns-in-Call-clause-bytes : goal.returns-in-Call-clause-bytes
returns-in-Call-clause-bytes c =
    let at : ℕ = c.args.put.now in
    let old : List ℕ = c.args.out.now in
    let pid : List ℕ = to_be_bytes w32 c.in-Call.pid.0 in
    let request : List ℕ = request_bytes (plain_request c.in-Call.request) in
    let room : at + length (pid ++ request) ≤ length old = rw c.in-Call.is at c.requires in
    let a = puts_room pid at c.u32-in-Call.new.self old c.u32-in-Call.new.buffer c.u32-in-Call.result c.u32-in-Call.ensures (omega (arith, room)) in
    let b : Puts request c.u32-in-Call.new.self c.bytes-in-Call.new.self c.u32-in-Call.new.buffer c.bytes-in-Call.new.buffer c.bytes-in-Call.result =
    rw c.bytes.ensures at c.bytes-in-Call.ensures in
    rw c.in-Call.is (puts_more pid request at c.u32-in-Call.new.self c.bytes-in-Call.new.self old c.u32-in-Call.new.buffer c.bytes-in-Call.new.buffer
    c.bytes-in-Call.result a b room)

pub returns-in-Interrupt-clause-bytes : goal.returns-in-Interrupt-clause-bytes
returns-in-Interrupt-clause-bytes c =
    let at : ℕ = c.args.put.now in
    let old : List ℕ = c.args.out.now in
    let room : at + 8 ≤ length old = rw c.in-Interrupt.is at c.requires in
    let pid : List ℕ = to_be_bytes w32 c.in-Interrupt.pid.0 in
    let serial : List ℕ = to_be_bytes w32 c.in-Interrupt.serial in
    let a = puts_room pid at c.u32-in-Interrupt.new.self old c.u32-in-Interrupt.new.buffer c.u32-in-Interrupt.result c.u32-in-Interrupt.ensures
    (omega (arith, room)) in
    rw c.in-Interrupt.is (puts_more pid serial at c.u32-in-Interrupt.new.self c.u32-in-Interrupt-2.new.self old
    c.u32-in-Interrupt.new.buffer c.u32-in-Interrupt-2.new.buffer
    c.u32-in-Interrupt-2.result a c.u32-in-Interrupt-2.ensures (omega (arith, room)))
