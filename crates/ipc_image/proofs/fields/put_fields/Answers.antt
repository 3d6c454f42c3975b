use Rattle.std.proofs.Common.{◌∙◌, ap}
use Rattle.ipc_base.specs.Numbers.{field_bytes}
use Rattle.ipc_image.specs.Window.{passed}
use Rattle.ipc_image.proofs.Windows.{passed-more}
use Rattle.ipc_image.proofs.fields.put_fields.Goals as goal

pub loop-field-preserved : goal.loop-field-preserved
loop-field-preserved c =
    c.put_field.ensures ∙ ap (passed _) c.loop-field.invariant
    ∙ passed-more c.args.window.now field_bytes c.args.fields.now c.loop-field.field-index _ c.loop-field-test.true
