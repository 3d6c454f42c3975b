use Rattle.ipc_base.specs.Numbers.{field_bytes}
use Rattle.ipc_base.proofs.CallerLemmas.{puts_more}
use Rattle.ipc_wire.proofs.writing.put_field.Goals as goal

pub returns-then-field-clause-bytes : goal.returns-then-field-clause-bytes
returns-then-field-clause-bytes c =
    puts_more (field_bytes c.args.field) c.args.rest.now c.args.put.now c.field.new.self c.bytes.new.self c.args.out.now c.field.new.buffer
    c.bytes.new.buffer c.bytes.result (rw c.if-field.true at c.field.ensures) c.bytes.ensures c.requires
