use Rattle.std.proofs.Common.{◌≡◌, ◌++◌, ◌∷◌, [], map, ap, ◌∙◌, Some}
use Rattle.ipc_state.specs.State.{start}
use Rattle.ipc_engine.specs.Step.{Step, expired}
use Rattle.ipc_engine.specs.View.{plain_outcome}
use Rattle.ipc_engine.proofs.Buffers.{pushed}
use Rattle.ipc_engine.proofs.deadlines.end_late.Goals.{After-push}
use Rattle.ipc_engine.proofs.deadlines.end_late.Goals as goal

answered : (c : After-push) → map plain_outcome c.push.new.outcomes.items ≡ map plain_outcome c.args.outcomes.now.items ++ expired c.args.waiting ∷ []
answered c =
    let w = c.args.waiting in
    let replied_or_joined : record { pid = w.pid.0; serial = c.serial.result; errno = Some c.expiry-errno.result; body = (expired w).body } ∷ []
    ≡ expired w ∷ [] =
    (λ i. record { pid = w.pid.0; serial = c.serial.ensures i; errno = Some (c.expiry-errno.ensures i); body = (expired w).body } ∷ []) in
    pushed c.args.outcomes.now.items c.push.new.outcomes.items c.reply_to.result (expired w ∷ []) c.push.ensures.items
    (ap (λ (t : Step). t.outcomes) (c.reply_to.ensures.reply start) ∙ replied_or_joined)

pub returns-clause-outcomes : goal.returns-clause-outcomes
returns-clause-outcomes c = answered (goal.at.returns-clause-outcomes c).After-push
