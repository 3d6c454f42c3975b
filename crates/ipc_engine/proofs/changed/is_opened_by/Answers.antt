use Rattle.std.proofs.Common.{ap, ◌∙◌}
use Rattle.std.specs.Prelude.{◌&&◌}
use Rattle.std.specs.List.{list_any}
use Rattle.ipc_state.specs.Opening.{is_on, is_or_any}
use Rattle.ipc_state.specs.Tables.{item_row}
use Rattle.ipc_state.specs.Touching.{is_opened_by}
use Rattle.ipc_engine.proofs.Marks.{any-rows}
use Rattle.ipc_engine.proofs.changed.is_opened_by.Goals as goal

pub returns : goal.returns
returns c =
    c.some_opens.ensures
    ∙ any-rows item_row (λ p. is_or_any c.args.pid p.0 && list_any (λ d. is_on c.args.this d.1.on) p.1.descriptors) c.processes.result.now
    ∙ ap (λ ps. is_opened_by c.args.pid ps c.args.this) c.processes.ensures
