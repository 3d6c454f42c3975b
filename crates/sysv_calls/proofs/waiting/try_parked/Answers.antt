use Rattle.std.proofs.Common.{◌∙◌, ap}
use Rattle.std.specs.Prelude.{Err}
use Rattle.ipc_state.specs.declared.answers.Halt.{Halt as Stops}
use Rattle.ipc_state.specs.Held.{Held}
use Rattle.ipc_state.proofs.CallerLemmas.{ends-stopped}
use Rattle.sysv_calls.proofs.Lent.{state-alone}
use Rattle.sysv_calls.proofs.Trying.{IsAnswered, is-answered, operates-finish, operates-ready, receives-finish, receives-inside, receives-there}
use Rattle.sysv_calls.proofs.Trying.{receive, send, sends-finish, sends-room, sends-there}
use Rattle.sysv_calls.proofs.waiting.try_parked.Goals.{After-ready}
use Rattle.sysv_calls.proofs.waiting.try_parked.Goals as goal

tests : (c : After-ready) → IsAnswered c.args.state.now.limits c.args.state.now.state c.args.pid.0 c.args.again c.args.call c.ready.result
tests c = is-answered c.args.state.now.limits c.args.state.now.state c.args.pid.0 c.args.again c.cred-cred.result c.cred-cred.ensures c.args.call c.ready.result
    c.ready.ensures.tests

pub returns-in-Err-Fails-clause-finish : goal.returns-in-Err-Fails-clause-finish
returns-in-Err-Fails-clause-finish c =
    let was = c.in-Err-Fails.is ∙ ap (λ (h : Stops). Err h) c.in-Err-Fails.field-0-is in
    rw c.in-Err-Fails.e-is (ends-stopped (tests (goal.at.returns-in-Err-Fails-clause-finish c).After-ready).is _ was)

pub returns-in-Err-Blocks-clause-finish : goal.returns-in-Err-Blocks-clause-finish
returns-in-Err-Blocks-clause-finish c =
    let was = c.in-Err-Blocks.is ∙ ap (λ (h : Stops). Err h) c.in-Err-Blocks.field-0-is in
    ends-stopped (tests (goal.at.returns-in-Err-Blocks-clause-finish c).After-ready).is _ was

pub send-requires-clause-there : goal.send-requires-clause-there
send-requires-clause-there c = sends-there (tests (goal.at.send-requires-clause-there c).After-ready) c.in-Ok.is c.in-Msgsnd.is

pub send-requires-clause-room : goal.send-requires-clause-room
send-requires-clause-room c =
    sends-room (tests (goal.at.send-requires-clause-room c).After-ready) c.in-Ok.is c.in-Msgsnd.is c.requires.sound c.in-Ok.ensures.passed

pub returns-in-Msgsnd-clause-finish : goal.returns-in-Msgsnd-clause-finish
returns-in-Msgsnd-clause-finish c =
    sends-finish (tests (goal.at.returns-in-Msgsnd-clause-finish c).After-ready) c.in-Ok.is c.in-Msgsnd.is c.send.new.state.state
    (λ e there. ap (λ (h : Held). h.state) (c.send.ensures e there))

pub receive-requires-clause-there : goal.receive-requires-clause-there
receive-requires-clause-there c = receives-there (tests (goal.at.receive-requires-clause-there c).After-ready) c.in-Ok.is c.in-Msgrcv.is

pub receive-requires-clause-inside : goal.receive-requires-clause-inside
receive-requires-clause-inside c = receives-inside (tests (goal.at.receive-requires-clause-inside c).After-ready) c.in-Ok.is c.in-Msgrcv.is

pub returns-in-Msgrcv-clause-finish : goal.returns-in-Msgrcv-clause-finish
returns-in-Msgrcv-clause-finish c =
    receives-finish (tests (goal.at.returns-in-Msgrcv-clause-finish c).After-ready) c.in-Ok.is c.in-Msgrcv.is c.receive.new.state.state _
    (λ e there. ap (λ (h : Held). h.state) (c.receive.ensures.held e there)) c.receive.ensures.body

pub operate-requires-clause-ready : goal.operate-requires-clause-ready
operate-requires-clause-ready c =
    operates-ready (tests (goal.at.operate-requires-clause-ready c).After-ready) c.in-Ok.is c.in-Semop.is c.in-Ok.ensures.passed _ c.lend.ensures
    c.requires.process

pub returns-in-Semop-clause-finish : goal.returns-in-Semop-clause-finish
returns-in-Semop-clause-finish c =
    operates-finish (tests (goal.at.returns-in-Semop-clause-finish c).After-ready) c.in-Ok.is c.in-Semop.is c.in-Ok.ensures.passed _ c.lend.ensures
    c.operate.new.state.state (λ found p. ap (λ (h : Held). h.state) (c.operate.ensures found p))

-- ---- what stays

pub returns-in-Msgsnd-clause-held : goal.returns-in-Msgsnd-clause-held
returns-in-Msgsnd-clause-held c =
    let f = send (tests (goal.at.returns-in-Msgsnd-clause-held c).After-ready) c.in-Ok.is c.in-Msgsnd.is in
    state-alone c.args.state.now _ (c.send.ensures f.value f.holds.there)

pub returns-in-Msgrcv-clause-held : goal.returns-in-Msgrcv-clause-held
returns-in-Msgrcv-clause-held c =
    let f = receive (tests (goal.at.returns-in-Msgrcv-clause-held c).After-ready) c.in-Ok.is c.in-Msgrcv.is in
    state-alone c.args.state.now _ (c.receive.ensures.held f.value.0 f.holds.there)

pub returns-in-Semop-clause-held : goal.returns-in-Semop-clause-held
returns-in-Semop-clause-held c =
    let ready = operates-ready (tests (goal.at.returns-in-Semop-clause-held c).After-ready) c.in-Ok.is c.in-Semop.is c.in-Ok.ensures.passed _
    c.lend.ensures c.requires.process in
    state-alone c.args.state.now _ (c.operate.ensures ready.found.0 ready.found.1)
