use Rattle.std.proofs.Common.{sym, subst}
use Rattle.posix_mq.specs.Queue.{Queue as Mq}
use Rattle.ipc_keys.specs.declared.check.NameKind.TheVariants as names
use Rattle.ipc_state.specs.declared.parked.ObjectKind.TheVariants as kinds
use Rattle.ipc_state.specs.Directory.{ArePositive}
use Rattle.ipc_state.specs.Named.{Named}
use Rattle.ipc_state.proofs.CallerLemmas.{kind-positive}
use Rattle.posix_calls.proofs.opening.open.Goals as goal

pub lookup-requires : goal.lookup-requires
lookup-requires c =
    subst (λ (o : Named Mq). ArePositive o.entries) (sym c.named_mqs.ensures)
    (kind-positive c.args.state.now.limits c.args.state.now.state (kinds.Named names.Mq) c.requires.sound)
