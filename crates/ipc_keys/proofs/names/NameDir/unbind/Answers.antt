use Rattle.std.proofs.Common.{refl, ap}
use Rattle.ipc_keys.specs.Directory.{shown, has_place}
use Rattle.ipc_keys.proofs.Directories.{of_names, changed, SameAt-others}
use Rattle.ipc_keys.proofs.names.NameDir.unbind.Goals as goal

pub returns-clause-found : goal.returns-clause-found
returns-clause-found c =
    let change = changed of_names _ _ _ _ _ _ c.self.view_is refl c.unbind.ensures in
    ap shown change.at

pub returns-clause-vacant : goal.returns-clause-vacant
returns-clause-vacant c =
    let change = changed of_names _ _ _ _ _ _ c.self.view_is refl c.unbind.ensures in
    ap has_place change.at

pub returns-clause-others : goal.returns-clause-others
returns-clause-others c =
    SameAt-others (changed of_names _ _ _ _ _ _ c.self.view_is refl c.unbind.ensures)
