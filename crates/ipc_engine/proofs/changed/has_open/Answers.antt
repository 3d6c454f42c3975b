use Rattle.std.proofs.Common.{ap, ◌∙◌}
use Rattle.std.specs.List.{list_any}
use Rattle.ipc_state.specs.Descriptors.{descriptor_row}
use Rattle.ipc_state.specs.Opening.{is_on}
use Rattle.ipc_engine.proofs.Marks.{any-rows}
use Rattle.ipc_engine.proofs.changed.has_open.Goals as goal

pub returns : goal.returns
returns c =
    c.some_is_on.ensures ∙ any-rows descriptor_row (λ d. is_on c.args.this d.1.on) c.rows.result.now
    ∙ ap (list_any (λ d. is_on c.args.this d.1.on)) c.rows.ensures
