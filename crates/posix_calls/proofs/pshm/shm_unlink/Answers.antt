use Rattle.std.proofs.Common.{sym, subst}
use Rattle.shm_segment.specs.Segment.{Segment}
use Rattle.ipc_keys.specs.declared.check.NameKind.TheVariants as names
use Rattle.ipc_state.specs.declared.parked.ObjectKind.TheVariants as kinds
use Rattle.ipc_state.specs.Directory.{ArePositive}
use Rattle.ipc_state.specs.Named.{Named}
use Rattle.ipc_state.proofs.CallerLemmas.{kind-bounds, kind-positive}
use Rattle.posix_calls.proofs.pshm.shm_unlink.Goals as goal

pub unlinkable-requires : goal.unlinkable-requires
unlinkable-requires c =
    subst (λ (o : Named Segment). ArePositive o.entries) (sym c.pshms.ensures.objects)
    (kind-positive c.args.state.now.limits c.args.state.now.state (kinds.Named names.Pshm) c.requires.sound)

pub unlink_pshm-requires-clause-named : goal.unlink_pshm-requires-clause-named
unlink_pshm-requires-clause-named c = kind-bounds c.args.state.now.limits c.args.state.now.state (kinds.Named names.Pshm) c.requires.sound
