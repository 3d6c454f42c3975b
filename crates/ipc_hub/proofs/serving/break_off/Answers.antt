use Rattle.std.proofs.Common.{rules}
-- The connection is over, its process leaves, and the last frame follows.
use Rattle.ipc_hub.proofs.Ending.{closed-invariant, closed-nobodys, left-space, last-goes-on, last-ends, last-answers}
use Rattle.ipc_hub.proofs.serving.break_off.Goals as goal

pub leave-requires-clause-ready : goal.leave-requires-clause-ready
leave-requires-clause-ready g c = record {
  invariant = rw c.close-process.ensures.table
      (closed-invariant c.args.store.now.machine c.args.connections.now c.args.conn c.requires.ready.invariant c.requires.live);
  events = c.requires.ready.events;
}

pub leave-requires-clause-nobodys : goal.leave-requires-clause-nobodys
leave-requires-clause-nobodys g c =
    rw (c.close-process.ensures.process, c.close-process.ensures.table)
    (closed-nobodys c.args.store.now.machine c.args.connections.now c.args.conn c.requires.ready.invariant c.requires.live)

pub refuse-requires : goal.refuse-requires
refuse-requires g c = search (rules, left-space)

pub returns-clause-accepts : goal.returns-clause-accepts
returns-clause-accepts g c = record {
  continues = rw (c.count_refusal.ensures, c.refuse.ensures)
      (last-goes-on c.args.store.now.machine c.args.connections.now c.args.conn c.requires.ready.invariant c.requires.live c.leave.new.store.machine
      c.close-process.new.connections c.leave.new.connections c.close-process.ensures.table c.leave.ensures.accepts.continues c.leave.ensures.others
      c.args.serial);
  pends = rw c.count_refusal.ensures (rw c.close-process.ensures.process at c.leave.ensures.accepts.pends);
}

pub returns-clause-ends : goal.returns-clause-ends
returns-clause-ends g c = search (rules, last-ends)

pub returns-clause-answers : goal.returns-clause-answers
returns-clause-answers g c =
    rw c.refuse.ensures
    (last-answers c.args.store.now.machine c.args.connections.now c.args.conn c.requires.ready.invariant c.requires.live c.leave.new.store.machine
    c.close-process.new.connections c.leave.new.connections c.close-process.ensures.table c.leave.ensures.accepts.continues c.leave.ensures.others
    c.args.serial)
