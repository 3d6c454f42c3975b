use Rattle.std.proofs.Common.{subst, ◌∙◌}
use Rattle.ipc_state.specs.Directory.{Agrees, number_at}
use Rattle.ipc_state.specs.Named.{named}
use Rattle.ipc_state.specs.Tables.{HeldObjects}
use Rattle.ipc_state.proofs.Directories.{positive-names}
use Rattle.ipc_state.proofs.EntryKeys.{by_bound, of_names}
use Rattle.ipc_state.proofs.objects.ObjectTable+Name+T.of_name.Goals as goal

pub returns : goal.returns
returns g c positive =
    let agree = subst (λ (h : HeldObjects _ _). Agrees (number_at c.self.inside.directory) (named h.objects)) c.self.view_is c.self.invariant.0 in
    c.number_at.ensures
    ∙ agree (positive-names (by_bound of_names) c.args.self.now.objects.entries positive) c.args.name.now
