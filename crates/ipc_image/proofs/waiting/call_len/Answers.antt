-- A request that has a frame is short.
use Rattle.std.proofs.Common.{◌∙◌, length, ap, arith}
use Rattle.ipc_wire.specs.Request.{PlainKind}
use Rattle.ipc_wire.specs.Spelling.{request_bytes}
use Rattle.ipc_image.proofs.waiting.call_len.Goals as goal

pub overflow_cast-result : goal.overflow_cast-result
overflow_cast-result c =
    let serial = c.args.call.now.serial in
    let exact = c.request_len.ensures serial ∙ ap (λ (k : PlainKind). length (request_bytes (record { serial = serial; kind = k }))) c.lend.ensures.kind in
    omega (arith, exact, c.lend.ensures.frame.short)

pub returns : goal.returns
returns c =
    let serial = c.args.call.now.serial in
    c.request_len.ensures serial ∙ ap (λ (k : PlainKind). length (request_bytes (record { serial = serial; kind = k }))) c.lend.ensures.kind
