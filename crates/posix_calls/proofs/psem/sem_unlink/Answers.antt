use Rattle.std.proofs.Common.{ℕ, sym, subst}
use Rattle.ipc_keys.specs.declared.check.NameKind.TheVariants as names
use Rattle.ipc_state.specs.declared.parked.ObjectKind.TheVariants as kinds
use Rattle.ipc_state.specs.Directory.{ArePositive}
use Rattle.ipc_state.specs.Named.{Named}
use Rattle.ipc_state.proofs.CallerLemmas.{kind-bounds, kind-positive}
use Rattle.posix_calls.proofs.psem.sem_unlink.Goals as goal

pub unlinkable-requires : goal.unlinkable-requires
unlinkable-requires c =
    subst (λ (o : Named ℕ). ArePositive o.entries) (sym c.psems.ensures.objects)
    (kind-positive c.args.state.now.limits c.args.state.now.state (kinds.Named names.Psem) c.requires.sound)

pub unlink_psem-requires-clause-named : goal.unlink_psem-requires-clause-named
unlink_psem-requires-clause-named c = kind-bounds c.args.state.now.limits c.args.state.now.state (kinds.Named names.Psem) c.requires.sound
