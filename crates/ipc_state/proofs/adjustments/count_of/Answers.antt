use Rattle.std.proofs.Common.{◌≡◌, ◌∙◌, ℤ, List, length, sym, ap}
use Rattle.std.specs.FinMap.{len-entries}
use Rattle.std.proofs.lemmas.List.{length-map}
use Rattle.sem_undo.specs.Undo.{Key, entry_of}
use Rattle.ipc_state.proofs.adjustments.count_of.Goals as goal

pub returns-clause-count : goal.returns-clause-count
returns-clause-count c =
    sym (length-map c.rows.result.now entry_of) ∙ ap (λ (es : List (Key × ℤ)). length es) c.rows.ensures.rows ∙ sym (len-entries c.args.undo.now)
