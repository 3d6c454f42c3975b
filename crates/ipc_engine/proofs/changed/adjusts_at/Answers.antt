use Rattle.std.proofs.Common.{ap, ◌∙◌}
use Rattle.std.specs.Prelude.{nat_eq}
use Rattle.std.specs.List.{list_any}
use Rattle.sem_undo.specs.Undo.{entry_of}
use Rattle.ipc_engine.proofs.Marks.{any-rows}
use Rattle.ipc_engine.proofs.changed.adjusts_at.Goals as goal

pub returns : goal.returns
returns c =
    c.some_is_at.ensures ∙ any-rows entry_of (λ a. nat_eq a.0.0 c.args.set) c.rows.result.now
    ∙ ap (list_any (λ a. nat_eq a.0.0 c.args.set)) c.rows.ensures.rows
