use Rattle.std.proofs.Common.{sym, ◌∙◌, ap, not, is_some}
use Rattle.std.specs.List.{position}
use Rattle.std.specs.Option.{option_copied}
use Rattle.ipc_wait.specs.Waits.{is_due}
use Rattle.ipc_wait.specs.Relations.{is_pid}
use Rattle.ipc_wait.proofs.CallerLemmas.{waiting_call_of-none, waiting_call_of-passes}
use Rattle.ipc_wait.proofs.Index.{index-missing}
use Rattle.ipc_wait.proofs.list.WaitList.waits_past.Goals as goal

pub returns-in_default : goal.returns-in_default
returns-in_default g c =
    let calls = c.self.inside.calls.items in
    let missing = index-missing calls c.self.inside.pids.items c.args.pid c.self.invariant.2
    (ap (position (is_pid c.args.pid)) (sym c.deref.ensures.value) ∙ sym c.place_in.ensures ∙ c.in_default.is) in
    rw (← c.self.view_is) (sym (ap is_some (waiting_call_of-none (λ w. not (is_due c.args.now w)) c.args.pid calls missing)))

pub returns-in-Some-call_among : goal.returns-in-Some-call_among
returns-in-Some-call_among g c =
    let found = sym (rw c.deref-2.ensures.value at c.call_among.ensures) ∙ ap option_copied c.in-Some-call_among.is in
    rw (← c.self.view_is) (ap not c.is_due.ensures ∙ sym (waiting_call_of-passes (λ w. not (is_due c.args.now w)) c.args.pid c.self.inside.calls.items
    c.in-Some-call_among.waiting.now c.self.invariant.1 found))

pub returns-in-None : goal.returns-in-None
returns-in-None g c =
    let none = sym (rw c.deref-2.ensures.value at c.call_among.ensures) ∙ ap option_copied c.in-None.is in
    rw (← c.self.view_is) (sym (ap is_some (waiting_call_of-none (λ w. not (is_due c.args.now w)) c.args.pid c.self.inside.calls.items none)))
