use Rattle.std.proofs.Common.{◌∙◌}
use Rattle.std.specs.List.{list_any}
use Rattle.ipc_state.specs.Opening.{is_on}
use Rattle.ipc_state.specs.Tables.{item_row}
use Rattle.ipc_state.proofs.SoundMqs.{any-seen}
use Rattle.ipc_state.proofs.holding.is_open.Goals as goal

pub returns : goal.returns
returns c =
    c.some_opens.ensures ∙ any-seen (λ p. list_any (λ d. is_on c.args.this d.1.on) p.1.descriptors) item_row c.args.processes.now
