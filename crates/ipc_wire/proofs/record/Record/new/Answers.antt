use Rattle.std.proofs.Common.{◌≡◌, length, rules}
use Rattle.ipc_base.specs.Numbers.{field_bytes}
use Rattle.ipc_base.proofs.CallerLemmas.{puts_next}
use Rattle.ipc_wire.proofs.record.Record.new.Goals as goal

pub loop-field-preserved : goal.loop-field-preserved
loop-field-preserved c =
    let size : length c.loop-field.bytes ≡ 68 = search rules in
    let inside = c.loop-field-test.true in
    let next = puts_next field_bytes c.args.fields.now c.loop-field.field-index c.loop-field.put c.field.new.self _ c.loop-field.bytes c.field.new.buffer
    c.field.result inside c.loop-field.invariant.place c.loop-field.invariant.bytes
    (rw size c.requires) c.field.ensures in
    record { place = next.0; bytes = next.1 }
