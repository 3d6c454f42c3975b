use Rattle.std.proofs.Common.{sym, ◌∙◌, ap}
use Rattle.ipc_wait.specs.Waits.{has_come, is_due}
use Rattle.ipc_wait.proofs.Lists.{none_due, none_pass}
use Rattle.ipc_wait.proofs.Due.{first_due}
use Rattle.ipc_wait.proofs.list.WaitList.first_due.Goals as goal

pub returns-then-not-has_come-clause-none : goal.returns-then-not-has_come-clause-none
returns-then-not-has_come-clause-none g c =
    let none = sym (ap (has_come c.args.now) c.self.invariant.0) ∙ sym c.has_come.ensures ∙ c.if-not-has_come.true in
    let calls = c.self.inside.calls.items in
    rw (← c.self.view_is) (none_pass (is_due c.args.now) calls (none_due c.args.now calls none))

pub returns-clause-none : goal.returns-clause-none
returns-clause-none g c =
    let is = rw c.deref.ensures.value at c.first_of.ensures in
    rw (← c.self.view_is) (first_due c.args.now c.self.inside.calls.items c.first_of.result c.self.invariant.1 is).none

pub returns-clause-first : goal.returns-clause-first
returns-clause-first g c =
    let is = rw c.deref.ensures.value at c.first_of.ensures in
    rw (← c.self.view_is) (first_due c.args.now c.self.inside.calls.items c.first_of.result c.self.invariant.1 is).first

pub returns-clause-found : goal.returns-clause-found
returns-clause-found g c =
    let is = rw c.deref.ensures.value at c.first_of.ensures in
    rw (← c.self.view_is) (first_due c.args.now c.self.inside.calls.items c.first_of.result c.self.invariant.1 is).found
