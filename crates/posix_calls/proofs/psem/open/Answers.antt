use Rattle.std.proofs.Common.{ℕ, sym, subst}
use Rattle.ipc_keys.specs.declared.check.NameKind.TheVariants as names
use Rattle.ipc_state.specs.declared.parked.ObjectKind.TheVariants as kinds
use Rattle.ipc_state.specs.Directory.{ArePositive}
use Rattle.ipc_state.specs.Named.{Named}
use Rattle.ipc_state.proofs.CallerLemmas.{kind-positive}
use Rattle.posix_calls.proofs.psem.open.Goals as goal

pub lookup-requires : goal.lookup-requires
lookup-requires c =
    subst (λ (o : Named ℕ). ArePositive o.entries) (sym c.psems.ensures.objects)
    (kind-positive c.args.state.now.limits c.args.state.now.state (kinds.Named names.Psem) c.requires.sound)
