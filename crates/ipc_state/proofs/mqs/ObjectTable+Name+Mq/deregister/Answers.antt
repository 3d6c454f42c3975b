use Rattle.std.proofs.Common.{ℕ, List, refl, ap, ◌∙◌}
use Rattle.posix_mq.specs.Queue.{Queue as Mq}
use Rattle.ipc_state.specs.Named.{NamedEntry, Named, named}
use Rattle.ipc_state.specs.Directory.{number_at}
use Rattle.ipc_state.specs.Opening.{is_by}
use Rattle.ipc_state.specs.Tables.{numbered_of}
use Rattle.ipc_state.proofs.EntryKeys.{of_names}
use Rattle.ipc_state.proofs.Ready.{ready-same}
use Rattle.ipc_state.proofs.SoundMqs.{agrees-again, named-deregistered}
use Rattle.ipc_state.proofs.mqs.ObjectTable+Name+Mq.deregister.Goals as goal

pub invariant_of-self : goal.invariant_of-self
invariant_of-self c =
    let old = c.self.inside in
    let with_entries : List (ℕ × NamedEntry Mq) → Named Mq = λ es. record { next = old.objects.next; entries = es } in (
      agrees-again (number_at old.directory) _ (named (numbered_of old.objects))
          (λ name. ap (λ (es : List (ℕ × NamedEntry Mq)). named (with_entries es) name) c.deregister.ensures.rows
          ∙ named-deregistered (is_by c.args.pid c.args.fd) (numbered_of old.objects) name) c.self.invariant.0,
      ready-same of_names (λ _. refl) (λ is. c.deregister.ensures.room ∙ is) c.self.invariant.1,
    )
