use Rattle.std.proofs.Common.{List, ℕ, arith}
use Rattle.std.specs.Prelude.{option_map}
use Rattle.ipc_engine.specs.View.{plain_event}
use Rattle.ipc_image.specs.RecordParts.{IsText, IsOf}
use Rattle.ipc_image.proofs.Numbers.{AreBelow}
use Rattle.ipc_image.proofs.EventRecords.{GotByte, if_found, text_found}
use Rattle.ipc_image.proofs.records.read_text.Goals as goal

pub returns-clause-some : goal.returns-clause-some
returns-clause-some c =
    let text : List ℕ = c.args.text.now in
    let fits : AreBelow 256 text = λ i. omega (arith, c.type_inv.text i) in
    let kind : ℕ = c.in_ok-kind.kind in
    let moment : ℕ = c.in_ok-u64.field-0 in
    let first : GotByte text c.u8.new.self kind = rw c.new-cursor.ensures at c.in_ok-kind.ensures in
    if_found (option_map plain_event c.read_details.result) (IsOf kind moment c.u64.new.self) (IsText text)
    (text_found text c.u8.new.self c.u64.new.self kind moment fits first c.in_ok-u64.ensures) (rw c.rest.ensures at c.read_details.ensures.some)
