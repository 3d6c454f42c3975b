use Rattle.std.proofs.Common.{ap, ◌∙◌}
use Rattle.std.specs.List.{list_any}
use Rattle.ipc_state.specs.Descriptors.{descriptor_row}
use Rattle.ipc_state.specs.Opening.{is_on}
use Rattle.ipc_state.proofs.SoundMqs.{any-seen}
use Rattle.ipc_state.proofs.holding.opens.Goals as goal

pub returns : goal.returns
returns c =
    c.open_it.ensures ∙ any-seen (λ d. is_on c.args.this d.1.on) descriptor_row c.rows.result.now
    ∙ ap (list_any (λ d. is_on c.args.this d.1.on)) c.rows.ensures
