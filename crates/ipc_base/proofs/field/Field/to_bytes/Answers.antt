use Rattle.std.proofs.Common.{◌≡◌, ◌+◌, ℕ, List, length, take, drop, replicate, ap, ◌∙◌, arith}
use Rattle.std.proofs.lemmas.List.{take_at}
use Rattle.ipc_base.specs.Numbers.{field_bytes}
use Rattle.ipc_base.proofs.Numbers.{field-short}
use Rattle.ipc_base.proofs.Puts.{puts_room}
use Rattle.ipc_base.proofs.field.Field.to_bytes.Goals as goal

pub returns : goal.returns
returns c =
    let field : List ℕ = field_bytes c.args.self in
    let zeros : List ℕ = replicate 8 0 in
    let put = puts_room field 0 c.field.new.self zeros c.field.new.buffer c.field.result (rw c.new-put.ensures at c.field.ensures)
    (omega (arith, field-short c.args.self)) in
    let end : length field ≡ c.at.result = omega (arith, put.1, c.at.ensures) in
    ap (take c.at.result) put.2 ∙ take_at field (drop (0 + length field) zeros) c.at.result end
