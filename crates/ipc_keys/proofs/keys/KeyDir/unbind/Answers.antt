use Rattle.std.proofs.Common.{w32, ap}
use Rattle.std.proofs.lemmas.Int.{to_z-of_z}
use Rattle.ipc_keys.specs.Directory.{shown, has_place}
use Rattle.ipc_keys.proofs.Directories.{of_integers, changed, SameAt-others}
use Rattle.ipc_keys.proofs.keys.KeyDir.unbind.Goals as goal

pub returns-clause-found : goal.returns-clause-found
returns-clause-found c =
    let key = to_z-of_z w32 c.args.key c.ranges.key in
    let change = changed of_integers _ _ _ _ _ _ c.self.view_is key c.unbind.ensures in
    ap shown change.at

pub returns-clause-vacant : goal.returns-clause-vacant
returns-clause-vacant c =
    let key = to_z-of_z w32 c.args.key c.ranges.key in
    let change = changed of_integers _ _ _ _ _ _ c.self.view_is key c.unbind.ensures in
    ap has_place change.at

pub returns-clause-others : goal.returns-clause-others
returns-clause-others c =
    let key = to_z-of_z w32 c.args.key c.ranges.key in
    SameAt-others (changed of_integers _ _ _ _ _ _ c.self.view_is key c.unbind.ensures)
