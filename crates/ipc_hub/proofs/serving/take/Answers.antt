use Rattle.std.proofs.Common.{◌≡◌, List, inl, refl, sym, ap, ◌∙◌, subst}
use Rattle.ipc_engine.specs.Engine.{Machine}
use Rattle.ipc_engine.specs.Event.{PlainOutcome}
use Rattle.ipc_hub.specs.Relations.Delivery.{with_answer, HasSpaceToAnswer}
use Rattle.ipc_hub.specs.Relations.Invariant.{AreApart}
use Rattle.ipc_hub.specs.Relations.Rows.{stored_view}
use Rattle.ipc_hub.proofs.Taking.{over-takes, same-adds}
use Rattle.ipc_hub.proofs.Receiving.{more-took, served-space, served-apart, served-took}
use Rattle.ipc_hub.proofs.Receiving.{none-waits, refused-space, refused-took, broken-live, broken-ready, broken-took}
use Rattle.ipc_hub.proofs.serving.take.Goals as goal

-- the outcomes that a store lends
outcomes-are : {lent machine : Machine} {os : List PlainOutcome} → lent ≡ machine → os ≡ lent.outcomes → machine.outcomes ≡ os
outcomes-are same is = sym (is ∙ ap (λ (m : Machine). m.outcomes) same)

pub returns-then-not-is_open-clause-took : goal.returns-then-not-is_open-clause-took
returns-then-not-is_open-clause-took g c = record {
  continues = record { limits = refl; numbers = refl; invariant = c.requires.ready.invariant };
  bytes = over-takes g.D.SectorDisk.medium g.met.D.SectorDisk.only_now (stored_view c.args.store.now c.args.connections.now) c.args.conn
      c.args.moment.0 _ (sym c.is_open.ensures ∙ c.if-not-is_open.true);
  adds = same-adds c.args.store.now c.args.store.now refl;
  answers = λ none. record { empty = none; event = inl (refl, refl) };
}

pub answer-requires-clause-space : goal.answer-requires-clause-space
answer-requires-clause-space g c =
    subst (λ (os : List PlainOutcome). HasSpaceToAnswer os c.args.conn c.receive-count.new.connections)
    (outcomes-are c.engine.ensures c.outcomes.ensures) (served-space (rw c.in-Served.is at c.receive-count.ensures.received))

pub answer-requires-clause-apart : goal.answer-requires-clause-apart
answer-requires-clause-apart g c =
    subst (λ (os : List PlainOutcome). AreApart (with_answer os c.args.conn c.receive-count.new.connections))
    (outcomes-are c.engine.ensures c.outcomes.ensures) (served-apart (rw c.in-Served.is at c.receive-count.ensures.received))

pub refuse-requires : goal.refuse-requires
refuse-requires g c = refused-space g.met.D.SectorDisk.only_now (rw c.in-NoMemory.is at c.receive-count.ensures.received)

pub break_off-requires-clause-live : goal.break_off-requires-clause-live
break_off-requires-clause-live g c = broken-live (rw c.in-Broken.is at c.receive-count.ensures.received)

pub break_off-requires-clause-ready : goal.break_off-requires-clause-ready
break_off-requires-clause-ready g c = broken-ready (rw c.in-Broken.is at c.receive-count.ensures.received) c.requires.ready.events

pub returns-in-More-clause-took : goal.returns-in-More-clause-took
returns-in-More-clause-took g c = more-took g.met.D.SectorDisk.only_now (rw c.in-More.is at c.receive-count.ensures.received)

pub returns-in-Served-clause-took : goal.returns-in-Served-clause-took
returns-in-Served-clause-took g c =
    served-took (rw c.in-Served.is at c.receive-count.ensures.received) c.answer.new.connections
    (rw (sym (outcomes-are c.engine.ensures c.outcomes.ensures)) at c.answer.ensures) c.event_sets_clock.ensures

pub returns-in-NoMemory-clause-took : goal.returns-in-NoMemory-clause-took
returns-in-NoMemory-clause-took g c =
    let received = rw c.in-NoMemory.is at c.receive-count.ensures.received in
    let late = c.late_tick_does_nothing.ensures in
    rw (c.count_refusal.ensures, c.refuse.ensures)
    (refused-took g.met.D.SectorDisk.only_now received (none-waits g.met.D.SectorDisk.only_now received late.tick late.sound))

pub returns-in-Broken-clause-took : goal.returns-in-Broken-clause-took
returns-in-Broken-clause-took g c =
    broken-took (rw c.in-Broken.is at c.receive-count.ensures.received) c.break_off.new.store c.break_off.new.connections
    c.break_off.ensures.accepts c.break_off.ensures.ends c.break_off.ensures.answers
