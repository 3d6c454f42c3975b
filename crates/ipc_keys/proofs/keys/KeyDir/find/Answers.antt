use Rattle.std.proofs.Common.{w32, ap, ◌∙◌}
use Rattle.std.proofs.lemmas.Int.{to_z-of_z}
use Rattle.ipc_keys.specs.Directory.{shown}
use Rattle.ipc_keys.proofs.Directories.{of_integers, lookup-old}
use Rattle.ipc_keys.proofs.keys.KeyDir.find.Goals as goal

pub returns : goal.returns
returns c =
    let key = to_z-of_z w32 c.args.key c.ranges.key in
    c.find.ensures ∙ ap shown (lookup-old of_integers c.self.inside.directory.numbers.entries _ _ _ c.self.view_is key)
