use Rattle.std.proofs.Common.{ap, ◌∙◌}
use Rattle.std.specs.Map.{lookup}
use Rattle.ipc_keys.specs.Directory.{shown, has_place}
use Rattle.ipc_keys.proofs.Directories.{of_names, get-seen}
use Rattle.ipc_keys.proofs.names.NameDir.new.Goals as goal

pub returns-clause-found : goal.returns-clause-found
returns-clause-found c key =
    ap shown (get-seen of_names c.new.result.numbers.entries key ∙ ap (lookup (of_names.names key)) c.new.ensures)

pub returns-clause-vacant : goal.returns-clause-vacant
returns-clause-vacant c key =
    ap has_place (get-seen of_names c.new.result.numbers.entries key ∙ ap (lookup (of_names.names key)) c.new.ensures)
