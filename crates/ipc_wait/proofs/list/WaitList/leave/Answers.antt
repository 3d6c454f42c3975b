use Rattle.std.proofs.Common.{◌≡◌, None, sym, ap, ◌∙◌}
use Rattle.std.specs.List.{position}
use Rattle.ipc_wait.specs.Waits.{waiting_call_of, next_deadline, is_of}
use Rattle.ipc_wait.specs.Relations.{is_pid}
use Rattle.ipc_wait.proofs.Lists.{Leaves, leaves, find-position_none, filter-none}
use Rattle.ipc_wait.proofs.Index.{index-missing, index-leave}
use Rattle.ipc_wait.proofs.list.WaitList.leave.Given.{Over}
use Rattle.ipc_wait.proofs.list.WaitList.leave.Goals as goal

-- the index does not have the process
missing : (g : Over) (c : goal.After-from_residual g) → waiting_call_of c.args.pid c.self.inside.calls.items ≡ None
missing g c =
    index-missing c.self.inside.calls.items c.self.inside.pids.items c.args.pid c.self.invariant.2
    (ap (position (is_pid c.args.pid)) (sym c.deref.ensures.value) ∙ sym c.place_in.ensures ∙ c.in_err-index.was)

-- nor have the calls
nowhere : (g : Over) (c : goal.After-from_residual-in_err-place g) → waiting_call_of c.args.pid c.self.inside.calls.items ≡ None
nowhere g c =
    find-position_none (is_of c.args.pid) c.self.inside.calls.items
    (ap (position (is_of c.args.pid)) (sym c.deref-2.ensures.value) ∙ sym c.place_of.ensures ∙ c.in_err-place.was)

left : (g : Over) (c : goal.After-self-1 g) → Leaves c.args.pid c.self.inside.calls.items c.remove-left.result c.remove-left.new.self.items
left g c =
    leaves c.args.pid c.self.inside.calls.items c.in_ok-place.place c.remove-left.result c.remove-left.new.self.items c.self.invariant.1
    (ap (position (is_of c.args.pid)) (sym c.deref-2.ensures.value) ∙ sym c.place_of.ensures ∙ c.in_ok-place.was)
    c.remove-left.ensures.value c.remove-left.ensures.items

pub returns-in_err-index-clause-call : goal.returns-in_err-index-clause-call
returns-in_err-index-clause-call g c = rw (← c.self.view_is) (c.from_residual.ensures ∙ sym (missing g c))

pub returns-in_err-index-clause-others : goal.returns-in_err-index-clause-others
returns-in_err-index-clause-others g c = rw (← c.self.view_is) (sym (filter-none (is_of c.args.pid) c.self.inside.calls.items (missing g c)))

pub returns-in_err-place-clause-call : goal.returns-in_err-place-clause-call
returns-in_err-place-clause-call g c = rw (← c.self.view_is) (c.from_residual-in_err-place.ensures ∙ sym (nowhere g c))

pub returns-in_err-place-clause-others : goal.returns-in_err-place-clause-others
returns-in_err-place-clause-others g c = rw (← c.self.view_is) (sym (filter-none (is_of c.args.pid) c.self.inside.calls.items (nowhere g c)))

pub invariant_of-self : goal.invariant_of-self
invariant_of-self g c =
    let index = index-leave c.self.inside.calls.items c.self.inside.pids.items c.args.pid c.in_ok-index.index c.in_ok-place.place c.remove-left.result
    c.self.invariant.2 (ap (position (is_pid c.args.pid)) (sym c.deref.ensures.value) ∙ sym c.place_in.ensures ∙ c.in_ok-index.was)
    (ap (position (is_of c.args.pid)) (sym c.deref-2.ensures.value) ∙ sym c.place_of.ensures ∙ c.in_ok-place.was) in (
      c.earliest_of-self-inside.ensures ∙ ap next_deadline c.deref-3.ensures.value,
      (left g c).distinct,
      rw (c.remove-left.ensures.items, c.remove.ensures.items) index,
    )

pub returns-clause-call : goal.returns-clause-call
returns-clause-call g c = rw (← c.self.view_is) (left g c).call

pub returns-clause-others : goal.returns-clause-others
returns-clause-others g c = rw (← c.self.view_is) (left g c).rest
