use Rattle.std.proofs.Common.{ℕ, List, [], ◌∷◌, ◌++◌, sym, ap, ◌∙◌}
use Rattle.std.specs.Prelude.{Err}
use Rattle.ipc_state.specs.Waiting.{PlainWaiting}
use Rattle.ipc_image.proofs.WaitingCalls.{text_is, made_is}
use Rattle.ipc_image.proofs.waiting.WaitingAwaitedParkedSaved.take.Goals as goal

pub returns-in_err-call-clause-damaged : goal.returns-in_err-call-clause-damaged
returns-in_err-call-clause-damaged c is w rest fit same =
    let cut = c.in-Some.cut in
    let found = c.in-Some.ensures.some in
    let why = rw is at c.from_residual.ensures in
    c.in_err-call.ensures.damaged (ap (λ e. Err e) (sym why.1)) w fit
    (text_is cut.pid cut.deadline cut.text.now found.0 cut.rest.now rest w fit (sym found.1 ∙ same))

pub returns-clause-ok : goal.returns-clause-ok
returns-clause-ok c =
    let cut = c.in-Some.cut in
    let found = c.in-Some.ensures.some in
    let call = c.in_ok-call.ensures.ok in
    let made = made_is cut.pid cut.deadline cut.text.now c.awaited.result c.deadline_from.result c.in_ok-call.call found.0 c.deadline_from.ensures
    call.0 call.1 c.awaited.ensures.on in
    let w : PlainWaiting = record { pid = record { 0 = cut.pid }; on = c.awaited.result; deadline = c.deadline_from.result; call = c.in_ok-call.call } in (
      w,
      made.0,
      found.1 ∙ ap (λ (l : List ℕ). l ++ cut.rest.now) made.1,
      c.push_reserved.ensures.items ∙ ap (λ (before : List PlainWaiting). before ++ w ∷ []) c.reserve.ensures.items,
    )
