use Rattle.std.proofs.Common.{ap, ◌∙◌}
use Rattle.std.specs.Prelude.{◌&&◌}
use Rattle.std.specs.List.{list_any}
use Rattle.ipc_state.specs.Opening.{is_or_any}
use Rattle.ipc_state.specs.Tables.{item_row}
use Rattle.ipc_state.specs.Touching.{is_adjusted_in}
use Rattle.ipc_engine.proofs.Marks.{any-rows}
use Rattle.ipc_engine.proofs.changed.is_adjusted.Goals as goal

pub returns : goal.returns
returns c =
    c.some_adjust.ensures ∙ any-rows item_row (λ p. is_or_any c.args.pid p.0 && is_adjusted_in c.args.set p.1) c.adjustments.result.now
    ∙ ap (list_any (λ p. is_or_any c.args.pid p.0 && is_adjusted_in c.args.set p.1)) c.adjustments.ensures
