use Rattle.std.proofs.Common.{◌∙◌, refl, ap}
use Rattle.std.specs.Prelude.{Err}
use Rattle.ipc_state.specs.declared.answers.Halt.{Halt as Stops}
use Rattle.ipc_state.specs.Held.{Held}
use Rattle.ipc_state.proofs.CallerLemmas.{ends-stopped}
use Rattle.posix_calls.proofs.Trying.{IsAnswered, is-answered, lower-value, receives-finish, receive-queue, receives-some, send-queue, sends-finish, sends-room}
use Rattle.posix_calls.proofs.waiting.try_parked.Goals.{After-ready}
use Rattle.posix_calls.proofs.waiting.try_parked.Goals as goal

tests : (c : After-ready) → IsAnswered c.args.state.now.limits c.args.state.now.state c.args.pid.0 c.args.call c.ready.result
tests c = is-answered c.args.state.now.limits c.args.state.now.state c.args.pid.0 c.args.call c.ready.result c.ready.ensures.tests

pub returns-in-Err-Fails-clause-finish : goal.returns-in-Err-Fails-clause-finish
returns-in-Err-Fails-clause-finish c =
    let was = c.in-Err-Fails.is ∙ ap (λ (h : Stops). Err h) c.in-Err-Fails.field-0-is in
    rw c.in-Err-Fails.e-is (ends-stopped (tests (goal.at.returns-in-Err-Fails-clause-finish c).After-ready).is _ was)

pub returns-in-Err-Blocks-clause-finish : goal.returns-in-Err-Blocks-clause-finish
returns-in-Err-Blocks-clause-finish c =
    let was = c.in-Err-Blocks.is ∙ ap (λ (h : Stops). Err h) c.in-Err-Blocks.field-0-is in
    ends-stopped (tests (goal.at.returns-in-Err-Blocks-clause-finish c).After-ready).is _ was

pub send-fired-requires-clause-room : goal.send-fired-requires-clause-room
send-fired-requires-clause-room c =
    sends-room (tests (goal.at.send-fired-requires-clause-room c).After-ready) c.in-Ok.is c.in-MqSend.is c.requires.sound c.in-Ok.ensures.passed

pub returns-in-MqSend-clause-finish : goal.returns-in-MqSend-clause-finish
returns-in-MqSend-clause-finish c =
    sends-finish (tests (goal.at.returns-in-MqSend-clause-finish c).After-ready) c.in-Ok.is c.in-MqSend.is c.send-fired.new.state.state c.send-fired.result
    (λ q there. ap (λ (h : Held). h.state) (c.send-fired.ensures.held q there)) c.send-fired.ensures.fired

pub receive-requires-clause-some : goal.receive-requires-clause-some
receive-requires-clause-some c = receives-some (tests (goal.at.receive-requires-clause-some c).After-ready) c.in-Ok.is c.in-MqReceive.is

pub returns-in-MqReceive-clause-finish : goal.returns-in-MqReceive-clause-finish
returns-in-MqReceive-clause-finish c =
    receives-finish (tests (goal.at.returns-in-MqReceive-clause-finish c).After-ready) c.in-Ok.is c.in-MqReceive.is c.receive.new.state.state _
    (λ q there. ap (λ (h : Held). h.state) (c.receive.ensures.held q there)) c.receive.ensures.body

pub returns-in-MqSend-clause-held : goal.returns-in-MqSend-clause-held
returns-in-MqSend-clause-held c =
    let queue = send-queue (tests (goal.at.returns-in-MqSend-clause-held c).After-ready) c.in-Ok.is c.in-MqSend.is in
    rw (c.send-fired.ensures.held _ queue) refl

pub returns-in-MqReceive-clause-held : goal.returns-in-MqReceive-clause-held
returns-in-MqReceive-clause-held c =
    let queue = receive-queue (tests (goal.at.returns-in-MqReceive-clause-held c).After-ready) c.in-Ok.is c.in-MqReceive.is in
    rw (c.receive.ensures.held _ queue) refl

pub returns-in-SemWait-clause-held : goal.returns-in-SemWait-clause-held
returns-in-SemWait-clause-held c =
    let value = lower-value (tests (goal.at.returns-in-SemWait-clause-held c).After-ready) c.in-Ok.is c.in-SemWait.is in
    rw (c.lower.ensures.held _ value) refl
