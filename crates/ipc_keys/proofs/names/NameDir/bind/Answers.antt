use Rattle.std.proofs.Common.{refl, ap, ◌∙◌}
use Rattle.ipc_keys.specs.Directory.{shown, has_place}
use Rattle.ipc_keys.proofs.Directories.{of_names, lookup-old, changed, vacant_place, SameAt-others, shown-above, taken-above}
use Rattle.ipc_keys.proofs.names.NameDir.bind.Goals as goal

pub bind-requires : goal.bind-requires
bind-requires c =
    lookup-old of_names c.self.inside.directory.numbers.entries _ _ _ c.self.view_is refl ∙ vacant_place _ c.requires.vacant

pub returns-clause-found : goal.returns-clause-found
returns-clause-found c =
    let change = changed of_names _ _ _ _ _ _ c.self.view_is refl c.bind.ensures in
    ap shown change.at ∙ shown-above _ c.requires.number

pub returns-clause-vacant : goal.returns-clause-vacant
returns-clause-vacant c =
    let change = changed of_names _ _ _ _ _ _ c.self.view_is refl c.bind.ensures in
    ap has_place change.at ∙ taken-above _ c.requires.number

pub returns-clause-others : goal.returns-clause-others
returns-clause-others c =
    SameAt-others (changed of_names _ _ _ _ _ _ c.self.view_is refl c.bind.ensures)
