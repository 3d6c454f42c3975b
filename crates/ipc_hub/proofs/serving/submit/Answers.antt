use Rattle.std.proofs.Common.{◌≡◌, ℕ, inl, inr, true, Option, refl, sym, ap, ◌∙◌, arith, rules}
use Rattle.std.specs.Prelude.{option_map}
use Rattle.ipc_base.proofs.CallerLemmas.{test_cases}
use Rattle.ipc_wire.specs.View.{plain_request}
use Rattle.ipc_wire.specs.Stream.PlainFrame.{Whole}
use Rattle.ipc_engine.specs.declared.event.Event.{Event}
use Rattle.ipc_engine.specs.Engine.{event_takes_memory}
use Rattle.ipc_engine.specs.View.{plain_event}
use Rattle.ipc_store.proofs.CallerLemmas.{any-length, left-less, room-less}
use Rattle.ipc_hub.specs.Relations.Requests.{IsRequest, Steps}
use Rattle.ipc_hub.specs.Relations.Rows.{pid_of}
use Rattle.ipc_hub.proofs.serving.submit.Given.{Over}
use Rattle.ipc_hub.proofs.serving.submit.Goals.{After-event_of}
use Rattle.ipc_hub.proofs.serving.submit.Goals as goal

-- the event that the request makes
abbrev asks : (g : Over) (c : After-event_of g) (used : ℕ) {made : Option Event} → c.event_of.result ≡ made
    → IsRequest (Whole used (plain_request c.args.request.now)) (pid_of c.args.process) c.args.moment.0 (option_map plain_event made)
asks g c used is = record {
  used = used;
  request = plain_request c.args.request.now;
  whole = refl;
  event = sym c.event_of.ensures.event ∙ ap (option_map plain_event) is;
}

pub step-requires-clause-room : goal.step-requires-clause-room
step-requires-clause-room g c = omega (arith, c.requires.ready.0, any-length (plain_event c.in-Some.event) c.in-Some.ensures.record)

pub returns-in_default : goal.returns-in_default
returns-in_default g c used = (refl, inr (asks g (goal.at.returns-in_default g c).After-event_of used c.in_default.is, refl))

pub returns-in-Err-NoMemory : goal.returns-in-Err-NoMemory
returns-in-Err-NoMemory g c used =
    let e = plain_event c.in-Some.event in
    let takes : event_takes_memory c.args.store.now.machine.limits c.args.store.now.machine.state e ≡ true =
    elim (test_cases (event_takes_memory c.args.store.now.machine.limits c.args.store.now.machine.state e)) [
      | inl does ↦ does
      | inr never ↦ absurd (search rules)
    ] in
    let made = asks g (goal.at.returns-in-Err-NoMemory g c).After-event_of used c.in-Some.is in
    record { event = e; made = made; serial = refl; takes = takes; same = search rules }

pub returns-in-Ok : goal.returns-in-Ok
returns-in-Ok g c used =
    let s = c.in-Ok.ensures in
    let e = plain_event c.in-Some.event in
    let steps : Steps g.D.SectorDisk.medium c.args.store.now c.step.new.self e = record {
      limits = s.limits;
      state = s.state;
      outcomes = s.outcomes;
      passed = s.passed;
      sound = s.was_sound;
      pends = record { disk = s.disk; stopped = s.running; checkpoint = s.checkpoint; confirmed = s.confirmed; waiting = s.waiting; takes = s.takes.0 };
      room = λ bytes. room-less c.args.store.now c.step.new.self e bytes s.records;
      left = λ n. left-less c.args.store.now c.step.new.self n s.waiting s.confirmed s.running;
    } in
    (e, (asks g (goal.at.returns-in-Ok g c).After-event_of used c.in-Some.is, steps))
