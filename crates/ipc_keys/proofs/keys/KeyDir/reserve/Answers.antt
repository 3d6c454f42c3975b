use Rattle.std.proofs.Common.{w32, ap, ◌∙◌}
use Rattle.std.proofs.lemmas.Int.{to_z-of_z}
use Rattle.ipc_keys.specs.Directory.{shown}
use Rattle.ipc_keys.proofs.Directories.{of_integers, lookup-old, vacant_place, reserved-found, reserved-vacant, reserved-others}
use Rattle.ipc_keys.proofs.keys.KeyDir.reserve.Goals as goal

pub reserve-requires : goal.reserve-requires
reserve-requires c =
    let key = to_z-of_z w32 c.args.key c.ranges.key in
    ap shown (lookup-old of_integers c.self.inside.directory.numbers.entries _ _ _ c.self.view_is key) ∙ c.requires

pub returns-clause-found : goal.returns-clause-found
returns-clause-found c =
    let key = to_z-of_z w32 c.args.key c.ranges.key in
    reserved-found of_integers _ _ _ _ _ c.reserve.result c.self.view_is key c.reserve.ensures.ok c.reserve.ensures.err c.requires

pub returns-clause-vacant : goal.returns-clause-vacant
returns-clause-vacant c =
    let key = to_z-of_z w32 c.args.key c.ranges.key in
    reserved-vacant of_integers _ _ _ _ _ c.reserve.result c.self.view_is key c.reserve.ensures.ok

pub returns-clause-others : goal.returns-clause-others
returns-clause-others c =
    let key = to_z-of_z w32 c.args.key c.ranges.key in
    reserved-others of_integers _ _ _ _ _ c.reserve.result c.self.view_is key c.reserve.ensures.ok c.reserve.ensures.err

pub returns-clause-succeeds : goal.returns-clause-succeeds
returns-clause-succeeds c vacant =
    let key = to_z-of_z w32 c.args.key c.ranges.key in
    c.reserve.ensures.succeeds
    (lookup-old of_integers c.self.inside.directory.numbers.entries _ _ _ c.self.view_is key ∙ vacant_place _ vacant)
