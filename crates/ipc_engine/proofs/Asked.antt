-- Whether what a process asks is idle, by what the program finds of it.
use Rattle.std.proofs.Common.{◌≡◌, ℕ, Bool, true, false, List, [], ◌∷◌, map, length, Option, Some, is_some, refl, sym, ap, ◌∙◌, arith}
use Rattle.std.specs.Prelude.{◌==◌, ◌&&◌, ◌||◌, Result, Ok, Err, is_err}
use Rattle.std.specs.Global.{Vec}
use Rattle.std.proofs.lemmas.Bool.Decides.{nat_tests}
use Rattle.ipc_base.proofs.CallerLemmas.{choice}
use Rattle.ipc_base.specs.declared.errno.Errno.{Errno}
use Rattle.ipc_base.specs.declared.identity.Cred.{Cred}
use Rattle.ipc_base.specs.declared.identity.Moment.{Moment}
use Rattle.ipc_limits.specs.declared.limits.Limits.{Limits}
use Rattle.ipc_wait.specs.Waits.{is_due}
use Rattle.ipc_wire.specs.declared.reply.Body.{Body}
use Rattle.ipc_wire.specs.Posix as posix
use Rattle.ipc_wire.specs.Request.{PlainKind, PlainRequest, Sysv, Posix}
use Rattle.ipc_wire.specs.Request as sysv
use Rattle.posix_mq.specs.declared.queue.Registration.{Registration}
use Rattle.ipc_state.specs.declared.parked.Awaited.{Awaited}
use Rattle.ipc_state.specs.Finish.{Tried, Finishes, finish_firing}
use Rattle.ipc_state.specs.State.{State, at_moment, due_calls, has_all_processes}
use Rattle.ipc_state.specs.Waiting.{PlainWaiting, awaited_by, deadline_of, may_wait}
use Rattle.ipc_engine.specs.declared.event.Outcome.{Outcome}
use Rattle.ipc_engine.specs.Event.{PlainEvent, PlainOutcome, Exit, Restart, moment_of}
use Rattle.ipc_engine.specs.Idle.{does_nothing, ends_idle, has_none, is_idle, is_late, only_asks}
use Rattle.ipc_engine.specs.Step.{Step, connect, due, expired}
use Rattle.ipc_engine.specs.View.{plain_outcome, step_of}

-- a call that may wait does not only ask
pub may-not-look : (s : State) (kind : PlainKind) → may_wait kind ≡ true → only_asks s kind ≡ false
may-not-look s (Sysv (sysv.Msgget key flags)) waits = cc
may-not-look s (Sysv (sysv.Semget key nsems flags)) waits = cc
may-not-look s (Sysv (sysv.Shmget key size flags)) waits = cc
may-not-look s (Sysv (sysv.MsgctlStat id)) waits = cc
may-not-look s (Sysv (sysv.SemctlGetVal id num)) waits = cc
may-not-look s (Sysv (sysv.SemctlGetPid id num)) waits = cc
may-not-look s (Sysv (sysv.SemctlGetNcnt id num)) waits = cc
may-not-look s (Sysv (sysv.SemctlGetZcnt id num)) waits = cc
may-not-look s (Sysv (sysv.SemctlGetAll id)) waits = cc
may-not-look s (Sysv (sysv.SemctlStat id)) waits = cc
may-not-look s (Sysv (sysv.ShmctlStat id)) waits = cc
may-not-look s (Sysv (sysv.AttachedRead attachment offset length)) waits = cc
may-not-look s (Posix (posix.MqGetattr fd)) waits = cc
may-not-look s (Posix (posix.SemGetvalue fd)) waits = cc
may-not-look s (Posix (posix.ShmRead fd offset length)) waits = cc
may-not-look s (Posix (posix.ShmStat fd)) waits = cc
may-not-look s kind waits = refl

-- a call that has come to its end is idle if it was refused, or only asks
pub ended-idle : (s u : State) (pid : ℕ) (request : PlainRequest) (r : Result (Body (Vec ℕ)) Errno) (fired : Option Registration) (t : Tried)
    (bad looks : Bool) → Finishes (finish_firing u r fired) ≡ t → bad ≡ is_err r → looks ≡ only_asks s request.kind
    → (bad || looks) ≡ ends_idle s pid request t
ended-idle s u pid request r fired t bad looks comes was is =
    (λ i. was i || is i) ∙ (by_answer r ∙ ap (ends_idle s pid request) comes)
  where
    by_answer : (a : Result (Body (Vec ℕ)) Errno)
        → (is_err a || only_asks s request.kind) ≡ ends_idle s pid request (Finishes (finish_firing u a fired))
    by_answer (Ok body) = refl
    by_answer (Err e) = refl

-- one that may wait, if it was refused
pub tried-idle : (s u : State) (pid : ℕ) (request : PlainRequest) (r : Result (Body (Vec ℕ)) Errno) (fired : Option Registration) (t : Tried)
    (bad : Bool) → may_wait request.kind ≡ true → Finishes (finish_firing u r fired) ≡ t → bad ≡ is_err r → bad ≡ ends_idle s pid request t
tried-idle s u pid request r fired t bad may comes was =
    alone bad ∙ ended-idle s u pid request r fired t bad false comes was (sym (may-not-look s request.kind may))
  where
    alone : (b : Bool) → b ≡ (b || false)
    alone true = refl
    alone false = refl

-- a call that cannot go on is idle if its deadline has come
pub late-idle : (s : State) (pid : ℕ) (request : PlainRequest) (on : Awaited) (deadline : Option Moment) (late : Bool) → awaited_by request.kind ≡ Some on
    → deadline ≡ deadline_of s.clock request.kind
    → is_due (record { 0 = s.clock }) (record { pid = record { 0 = pid }; on = on; deadline = deadline; call = request }) ≡ late
    → late ≡ is_late s pid request (awaited_by request.kind)
late-idle s pid request on deadline late awaits until is =
    let w : Option Moment → PlainWaiting = (λ d. record { pid = record { 0 = pid }; on = on; deadline = d; call = request }) in
    let now : Moment = record { 0 = s.clock } in
    sym (ap (is_late s pid request) awaits ∙ (ap (λ (d : Option Moment). is_due now (w d)) (sym until) ∙ is))

-- the first reply is a refusal
abbrev is_refused : List PlainOutcome → Bool
is_refused [] = false
is_refused (o ∷ os) = is_some o.errno

-- a HELLO is refused where no process can be added
pub hello-refused : (limits : Limits) (cred : Cred) (serial : ℕ) (s t : State) (o : Outcome) → step_of t o ≡ connect limits cred serial s
    → is_some o.errno ≡ has_all_processes limits s
hello-refused limits cred serial s t o is =
    ap (λ (u : Step). is_refused u.outcomes) is
    ∙ choice (λ (u : Step). is_refused u.outcomes ≡ has_all_processes limits s) (has_all_processes limits s) _ _ (λ full. sym full) (λ room. sym room)

-- nobody was answered at a moment at which no deadline came
pub none-said : (os : List Outcome) (ws : List PlainWaiting) → map plain_outcome os ≡ map expired ws → (length os == 0) ≡ has_none ws
none-said [] [] is = refl
none-said [] (w ∷ ws) is = cc
none-said (o ∷ os) [] is = cc
none-said (o ∷ os) (w ∷ ws) is = grind (arith, nat_tests)

module _ (limits : Limits) (s : State) (e : PlainEvent) (nobody : Bool) (quiet : nobody ≡ has_none (due_calls (at_moment s (moment_of e)))) where
  -- an event is idle if nobody is answered at its moment, and it does nothing itself
  pub idle-as : (nothing : Bool) → nothing ≡ does_nothing limits (due (moment_of e) s).state e → (nobody && nothing) ≡ is_idle limits s e
  unfolding is_idle
  idle-as nothing is = λ i. quiet i && is i

  pub always-idle : true ≡ does_nothing limits (due (moment_of e) s).state e → nobody ≡ is_idle limits s e
  always-idle is = always nobody ∙ idle-as true is
    where
      always : (b : Bool) → b ≡ (b && true)
      always true = refl
      always false = refl

-- an exit and a restart are never idle
never : (b : Bool) → false ≡ (b && false)
never true = refl
never false = refl

pub exit-never : (limits : Limits) (s : State) (pid moment : ℕ) → false ≡ is_idle limits s (Exit pid moment)
unfolding is_idle
exit-never limits s pid moment = never (has_none (due_calls (at_moment s moment)))

pub restart-never : (limits : Limits) (s : State) → false ≡ is_idle limits s Restart
unfolding is_idle
restart-never limits s = never (has_none (due_calls (at_moment s 0)))
