use Rattle.std.proofs.Common.{◌≡◌, ◌∙◌, ◌+◌, ℕ, List, length, ap, sym, arith}
use Rattle.ipc_wire.specs.View.{plain_request}
use Rattle.ipc_engine.specs.View.{plain_event}
use Rattle.ipc_image.specs.Records.{details}
use Rattle.ipc_image.proofs.EventRecords.{length_record, length_call}
use Rattle.ipc_image.proofs.records.record_len.Goals.{in-Connect, in-Call, in-Interrupt, in-Exit, in-Tick, in-Restart}
use Rattle.ipc_image.proofs.records.record_len.Goals as goal

pub returns-clause-exact : goal.returns-clause-exact
returns-clause-exact c =
    let said : c.match-event.result ≡ length (details (plain_event c.args.event.now)) =
    elim c.match-event.branch [
      | in-Connect w ↦ w.result-is ∙ ap (λ e. length (details (plain_event e))) (sym w.in-Connect.is)
      | in-Call w ↦
          w.result-is ∙ ap (λ (l : List ℕ). 4 + length l) w.bytes.ensures
          ∙ length_call w.in-Call.pid.0 (plain_request w.in-Call.request) w.in-Call.moment.0
          ∙ ap (λ e. length (details (plain_event e))) (sym w.in-Call.is)
      | in-Interrupt w ↦ w.result-is ∙ ap (λ e. length (details (plain_event e))) (sym w.in-Interrupt.is)
      | in-Exit w ↦ w.result-is ∙ ap (λ e. length (details (plain_event e))) (sym w.in-Exit.is)
      | in-Tick w ↦ w.result-is ∙ ap (λ e. length (details (plain_event e))) (sym w.in-Tick.is)
      | in-Restart w ↦ w.result-is ∙ ap (λ e. length (details (plain_event e))) (sym w.in-Restart.is)
    ] in
    omega (arith, said, length_record (plain_event c.args.event.now))
