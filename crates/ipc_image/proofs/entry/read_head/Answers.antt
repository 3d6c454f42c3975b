use Rattle.std.proofs.Common.{rules}
use Rattle.std.specs.Prelude.{FitsSigned}
use Rattle.std.specs.Int.{w32}
use Rattle.std.proofs.Math.Facts.{Fits-of_z}
use Rattle.ipc_image.proofs.entry.read_head.Goals as goal

pub returns-clause-head : goal.returns-clause-head
returns-clause-head g c =
    let typed : FitsSigned w32 c.args.entry.now.bound = search rules in
    ((Fits-of_z typed).fits, c.read_perm.ensures)
