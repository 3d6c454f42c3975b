use Rattle.std.proofs.Common.{refl, ap, ◌∙◌}
use Rattle.ipc_keys.specs.Directory.{shown}
use Rattle.ipc_keys.proofs.Directories.{of_names, lookup-old, vacant_place, reserved-found, reserved-vacant, reserved-others}
use Rattle.ipc_keys.proofs.names.NameDir.reserve.Goals as goal

pub reserve-requires : goal.reserve-requires
reserve-requires c =
    ap shown (lookup-old of_names c.self.inside.directory.numbers.entries _ _ _ c.self.view_is refl) ∙ c.requires

pub returns-clause-found : goal.returns-clause-found
returns-clause-found c =
    reserved-found of_names _ _ _ _ _ c.reserve.result c.self.view_is refl c.reserve.ensures.ok c.reserve.ensures.err c.requires

pub returns-clause-vacant : goal.returns-clause-vacant
returns-clause-vacant c =
    reserved-vacant of_names _ _ _ _ _ c.reserve.result c.self.view_is refl c.reserve.ensures.ok

pub returns-clause-others : goal.returns-clause-others
returns-clause-others c =
    reserved-others of_names _ _ _ _ _ c.reserve.result c.self.view_is refl c.reserve.ensures.ok c.reserve.ensures.err

pub returns-clause-succeeds : goal.returns-clause-succeeds
returns-clause-succeeds c vacant =
    c.reserve.ensures.succeeds
    (lookup-old of_names c.self.inside.directory.numbers.entries _ _ _ c.self.view_is refl ∙ vacant_place _ vacant)
