use Rattle.std.proofs.Common.{◌≡◌, Bool, true, false, refl, ap, ◌∙◌}
use Rattle.std.specs.Prelude.{if◌then◌else◌}
use Rattle.ipc_state.specs.Held.{Held, Ready}
use Rattle.ipc_state.specs.Held.Ready.{Nothing}
use Rattle.ipc_state.specs.State.{is_waiting}
use Rattle.ipc_wire.specs.Request.{Hello, Interrupt}
use Rattle.ipc_engine.specs.Step.{interrupt}
use Rattle.ipc_engine.proofs.Doing.{does-from}
use Rattle.ipc_engine.proofs.Marks.{no_call-marks, none-marked}
use Rattle.ipc_engine.proofs.asking.ask.Goals as goal

nothing-else : (b : Bool) → (if b then Nothing else Nothing) ≡ Nothing
nothing-else true = refl
nothing-else false = refl

pub returns-in-Hello-clause-does : goal.returns-in-Hello-clause-does
returns-in-Hello-clause-does c =
    let s = c.args.state.now in
    let nothing : s.ready ≡ Nothing = (rw c.in-Hello.is at c.requires.reserved.ready) ∙ nothing-else (is_waiting s.state c.args.pid.0) in
    rw c.in-Hello.is (record {
      state = ap (λ (r : Ready). let h : Held = record s { ready = r } in h) nothing;
      outcomes = c.refuse.ensures.outcomes s.state;
      capacity = c.refuse.ensures.capacity;
    })

pub returns-in-Interrupt-clause-does : goal.returns-in-Interrupt-clause-does
returns-in-Interrupt-clause-does c =
    let s = c.args.state.now in
    let nothing : s.ready ≡ Nothing = (rw c.in-Interrupt.is at c.requires.reserved.ready) ∙ nothing-else (is_waiting s.state c.args.pid.0) in
    rw c.in-Interrupt.is (does-from (λ h. interrupt c.args.pid.0 c.args.request.now.serial h.state)
    (ap (λ (r : Ready). let h : Held = record s { ready = r } in h) nothing) c.interrupt.ensures.does)

pub returns-in-Hello-clause-marked : goal.returns-in-Hello-clause-marked
returns-in-Hello-clause-marked c =
    let s = c.args.state.now in
    rw c.in-Hello.is (none-marked s.state _ c.args.changed.now.marks.items (λ o. no_call-marks s.limits s.state c.args.pid.0 (Hello c.in-Hello.field-0) o refl))

pub returns-in-Interrupt-clause-marked : goal.returns-in-Interrupt-clause-marked
returns-in-Interrupt-clause-marked c =
    let s = c.args.state.now in
    rw c.in-Interrupt.is (none-marked s.state _ c.args.changed.now.marks.items (λ o. no_call-marks s.limits s.state c.args.pid.0 Interrupt o refl))

pub returns-in-Hello-clause-idle : goal.returns-in-Hello-clause-idle
returns-in-Hello-clause-idle c = rw c.in-Hello.is refl

pub returns-in-Interrupt-clause-idle : goal.returns-in-Interrupt-clause-idle
returns-in-Interrupt-clause-idle c = rw c.in-Interrupt.is c.interrupt.ensures.idle
