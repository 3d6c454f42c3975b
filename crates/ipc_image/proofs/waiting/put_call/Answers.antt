use Rattle.std.proofs.Common.{ℕ, List, [], ◌∷◌, ◌++◌, ◌<◌, ◌∙◌, ap, arith}
use Rattle.ipc_base.specs.declared.field.Field.TheVariants as Field
use Rattle.ipc_base.specs.Numbers.{record_bytes}
use Rattle.ipc_wire.specs.Request.{PlainKind, PlainRequest, plain_kind}
use Rattle.ipc_wire.specs.Spelling.{request_bytes}
use Rattle.ipc_image.specs.Window.{passed}
use Rattle.ipc_image.proofs.WaitingCalls.{call_spelled}
use Rattle.ipc_image.proofs.Windows.{passed-both}
use Rattle.ipc_image.proofs.waiting.put_call.Goals as goal

pub returns : goal.returns
returns c =
    let parts = c.request_parts-parts.result in
    let is = c.request_parts-parts.ensures in
    let w = c.args.window.now in
    let head : List ℕ = record_bytes (Field.U32 c.serial.result ∷ Field.U8 parts.opcode ∷ []) in
    let asked : PlainRequest = record { serial = c.serial.result; kind = plain_kind c.lend.result } in
    let byte : parts.opcode < 256 = omega arith in
    c.put.ensures ∙ ap (passed parts.rest.now) c.put_row.ensures
    ∙ passed-both w (head ++ c.as_slice.result.now) parts.rest.now
    ∙ ap (λ (l : List ℕ). passed ((head ++ l) ++ parts.rest.now) w) c.as_slice.ensures
    ∙ ap (λ (l : List ℕ). passed l w) (call_spelled asked parts.opcode byte parts.fields parts.rest.now is.opcode is.fields)
    ∙ ap (λ (k : PlainKind). passed (request_bytes (record { serial = c.serial.result; kind = k })) w) c.lend.ensures.kind
    ∙ ap (λ (n : ℕ). passed (request_bytes (record { serial = n; kind = c.args.call.now.kind })) w) c.serial.ensures
