use Rattle.std.proofs.Common.{◌≡◌, take}
use Rattle.ipc_base.specs.Numbers.{record_bytes}
use Rattle.ipc_image.specs.Window.{passed}
use Rattle.ipc_image.proofs.fields.put_fields.Given as goal

-- as many fields have passed as turns
abbrev pub invariant-loop-field : goal.invariant-loop-field
invariant-loop-field l = l.window ≡ passed (record_bytes (take l.field-index l.fields)) l.initial.window
