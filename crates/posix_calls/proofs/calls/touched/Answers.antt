use Rattle.std.proofs.Common.{sym, subst}
use Rattle.posix_mq.specs.Queue.{Queue as Mq}
use Rattle.shm_segment.specs.Segment.{Segment}
use Rattle.std.proofs.Common.{ℕ}
use Rattle.ipc_keys.specs.declared.check.NameKind.TheVariants as names
use Rattle.ipc_state.specs.declared.parked.ObjectKind.TheVariants as kinds
use Rattle.ipc_state.specs.Directory.{ArePositive}
use Rattle.ipc_state.specs.Named.{Named}
use Rattle.ipc_state.proofs.CallerLemmas.{kind-positive}
use Rattle.posix_calls.proofs.calls.touched.Goals as goal

pub made-requires : goal.made-requires
made-requires c =
    subst (λ (o : Named Mq). ArePositive o.entries) (sym c.named_mqs.ensures)
    (kind-positive c.args.state.now.limits c.args.state.now.state (kinds.Named names.Mq) c.requires.sound)

pub made-requires-in-SemOpen : goal.made-requires-in-SemOpen
made-requires-in-SemOpen c =
    subst (λ (o : Named ℕ). ArePositive o.entries) (sym c.psems.ensures.objects)
    (kind-positive c.args.state.now.limits c.args.state.now.state (kinds.Named names.Psem) c.requires.sound)

pub made_or_cut-requires : goal.made_or_cut-requires
made_or_cut-requires c =
    subst (λ (o : Named Segment). ArePositive o.entries) (sym c.pshms.ensures.objects)
    (kind-positive c.args.state.now.limits c.args.state.now.state (kinds.Named names.Pshm) c.requires.sound)

pub named-requires : goal.named-requires
named-requires c =
    subst (λ (o : Named Mq). ArePositive o.entries) (sym c.named_mqs-in-MqUnlink.ensures)
    (kind-positive c.args.state.now.limits c.args.state.now.state (kinds.Named names.Mq) c.requires.sound)

pub named-requires-in-SemUnlink : goal.named-requires-in-SemUnlink
named-requires-in-SemUnlink c =
    subst (λ (o : Named ℕ). ArePositive o.entries) (sym c.psems-in-SemUnlink.ensures.objects)
    (kind-positive c.args.state.now.limits c.args.state.now.state (kinds.Named names.Psem) c.requires.sound)

pub named-requires-in-ShmUnlink : goal.named-requires-in-ShmUnlink
named-requires-in-ShmUnlink c =
    subst (λ (o : Named Segment). ArePositive o.entries) (sym c.pshms-in-ShmUnlink.ensures.objects)
    (kind-positive c.args.state.now.limits c.args.state.now.state (kinds.Named names.Pshm) c.requires.sound)
