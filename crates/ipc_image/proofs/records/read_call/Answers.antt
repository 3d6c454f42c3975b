use Rattle.std.proofs.Common.{◌∙◌, arith}
use Rattle.ipc_wire.specs.View.{plain_request}
use Rattle.ipc_image.proofs.Numbers.{AreBelow}
use Rattle.ipc_image.proofs.EventRecords.{Got, call_found, call_only}
use Rattle.ipc_image.proofs.records.read_call.Goals as goal

pub returns-clause-some : goal.returns-clause-some
returns-clause-some c =
    let fits : AreBelow 256 c.args.bytes.now = λ i. omega (arith, c.type_inv.bytes i) in
    let first : Got c.args.bytes.now c.u32.new.self c.in_ok-u32.field-0 = rw c.new-cursor.ensures at c.in_ok-u32.ensures in
    let found = c.in_ok-request.ensures.some in
    call_found c.args.moment.0 c.args.bytes.now c.u32.new.self c.in_ok-u32.field-0 (plain_request c.in_ok-request.request) fits first
    found.0 (rw c.rest.ensures at found.1)

pub returns-clause-only : goal.returns-clause-only
returns-clause-only c =
    let first : Got c.args.bytes.now c.u32.new.self c.in_ok-u32.field-0 = rw c.new-cursor.ensures at c.in_ok-u32.ensures in
    call_only c.args.moment.0 c.args.bytes.now c.u32.new.self c.in_ok-u32.field-0 (plain_request c.in_ok-request.request) first
    (λ r has is. c.in_ok-request.ensures.only r has (c.rest.ensures ∙ is))
