use Rattle.std.proofs.Common.{◌∙◌, ap}
use Rattle.ipc_base.specs.Numbers.{record_bytes}
use Rattle.ipc_image.specs.Window.{passed}
use Rattle.ipc_image.proofs.Windows.{passed-both}
use Rattle.ipc_image.proofs.fields.put_row.Goals as goal

pub returns : goal.returns
returns c =
    c.put.ensures ∙ ap (passed c.args.text.now) c.put_fields.ensures ∙ passed-both c.args.window.now (record_bytes c.args.fields.now) c.args.text.now
