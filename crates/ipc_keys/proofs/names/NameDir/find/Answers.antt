use Rattle.std.proofs.Common.{refl, ap, ◌∙◌}
use Rattle.ipc_keys.specs.Directory.{shown}
use Rattle.ipc_keys.proofs.Directories.{of_names, lookup-old}
use Rattle.ipc_keys.proofs.names.NameDir.find.Goals as goal

pub returns : goal.returns
returns c =
    c.find.ensures ∙ ap shown (lookup-old of_names c.self.inside.directory.numbers.entries _ _ _ c.self.view_is refl)
