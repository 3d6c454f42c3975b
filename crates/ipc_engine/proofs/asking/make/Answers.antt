use Rattle.std.proofs.Common.{◌≡◌, ℕ, Bool, true, false, not, Some, None, refl, sym, ap, ◌∙◌}
use Rattle.std.specs.Prelude.{◌&&◌, ◌||◌, if◌then◌else◌}
use Rattle.ipc_limits.specs.declared.limits.Limits.{Limits}
use Rattle.ipc_wire.specs.Posix as calls
use Rattle.ipc_wire.specs.Request as requests
use Rattle.ipc_wire.specs.Request.{PlainKind, PlainRequest, Sysv, Posix}
use Rattle.ipc_wire.specs.View.{plain_request}
use Rattle.ipc_state.specs.Held.{Held, Ready}
use Rattle.ipc_state.specs.Held.Ready.{Nothing}
use Rattle.ipc_state.specs.declared.parked.Object.{Object}
use Rattle.ipc_state.specs.State.{State, is_waiting}
use Rattle.ipc_state.specs.Waiting.{may_wait}
use Rattle.ipc_engine.specs.Changes.{changes_by_call, changes_if_done, is_marked}
use Rattle.ipc_engine.specs.Reserved.{kept_of, needs}
use Rattle.ipc_engine.specs.Settling.{touched_by}
use Rattle.ipc_engine.specs.Step.{Step, replied_or_joined, tried}
use Rattle.ipc_engine.proofs.Doing.{does-as, does-from}
use Rattle.ipc_engine.proofs.Marks.{none-marked, room-marked}
use Rattle.ipc_engine.specs.Idle.{ends_idle}
use Rattle.ipc_engine.proofs.asking.make.Goals.{In-Some}
use Rattle.ipc_engine.proofs.asking.make.Goals as goal

-- a call that may wait needs nothing but what is kept of it
may-wait-needs : (kind : PlainKind) → may_wait kind ≡ true → needs kind ≡ Nothing
may-wait-needs (Sysv (requests.Msgget key flags)) waits = cc
may-wait-needs (Sysv (requests.Semget key nsems flags)) waits = cc
may-wait-needs (Sysv (requests.Shmget key size flags)) waits = cc
may-wait-needs (Posix (calls.MqOpen flags mode attr maxmsg msgsize name)) waits = cc
may-wait-needs (Posix (calls.SemOpen flags mode value name)) waits = cc
may-wait-needs (Posix (calls.ShmOpen flags mode name)) waits = cc
may-wait-needs (Posix (calls.Ftruncate fd len)) waits = cc
may-wait-needs kind waits = refl

-- what is kept of a request is the request, which needs nothing else
kept-is : (request parked : PlainRequest) → kept_of request ≡ Some parked → (parked ≡ request) × (needs request.kind ≡ Nothing)
kept-is request parked = unless (may_wait request.kind) refl
  where
    unless : (b : Bool) → may_wait request.kind ≡ b → (if b then Some request else None) ≡ Some parked → (parked ≡ request) × (needs request.kind ≡ Nothing)
    unless true waits is = (cc, may-wait-needs request.kind waits)
    unless false waits is = cc

-- and is of a call that may wait
kept-may : (request parked : PlainRequest) → kept_of request ≡ Some parked → may_wait parked.kind ≡ true
kept-may request parked = unless (may_wait request.kind) refl
  where
    unless : (b : Bool) → may_wait request.kind ≡ b → (if b then Some request else None) ≡ Some parked → may_wait parked.kind ≡ true
    unless true waits is = let same : request ≡ parked = cc in ap (λ (r : PlainRequest). may_wait r.kind) (sym same) ∙ waits
    unless false waits is = cc

-- nothing is ready for a request that is kept
kept-ready : (c : In-Some) → (c.in-Some.parked ≡ plain_request c.args.request.now) × (c.args.state.now.ready ≡ Nothing)
kept-ready c =
    let free : is_waiting c.args.state.now.state c.args.pid.0 ≡ false = sym c.is_waiting.ensures ∙ c.if-is_waiting.false in
    let both = kept-is (plain_request c.args.request.now) c.in-Some.parked (sym (rw free at c.requires.reserved.kept) ∙ c.in-Some.is) in
    (both.0, rw free at c.requires.reserved.ready ∙ both.1)

pub returns-then-is_waiting-clause-does : goal.returns-then-is_waiting-clause-does
returns-then-is_waiting-clause-does c =
    let s = c.args.state.now in
    let waits : is_waiting s.state c.args.pid.0 ≡ true = sym c.is_waiting.ensures ∙ c.if-is_waiting.true in
    let nothing : s.ready ≡ Nothing = rw waits at c.requires.reserved.ready in
    rw waits (record {
      state = ap (λ (r : Ready). let h : Held = record s { ready = r } in h) nothing;
      outcomes = c.refuse.ensures.outcomes s.state;
      capacity = c.refuse.ensures.capacity;
    })

pub returns-in-Some-clause-does : goal.returns-in-Some-clause-does
returns-in-Some-clause-does c =
    let s = c.args.state.now in
    let free : is_waiting s.state c.args.pid.0 ≡ false = sym c.is_waiting.ensures ∙ c.if-is_waiting.false in
    let both = kept-ready (goal.at.returns-in-Some-clause-does c).In-Some in
    let went : PlainRequest → Step = λ r. replied_or_joined s.limits c.args.pid.0 r s.state (tried s.limits s.state c.args.pid.0 false r.kind) in
    rw free (does-from (λ h. went (plain_request c.args.request.now)) (ap (λ (r : Ready). let h : Held = record s { ready = r } in h) both.1)
    (does-as (ap went both.0) c.try_once.ensures.does))

-- what the call changes, if its process does not wait
changes-free : (limits : Limits) (s : State) (pid : ℕ) (o : Object) (parked request : PlainRequest) → is_waiting s pid ≡ false → parked ≡ request
    → changes_if_done (touched_by s pid parked.kind) (tried limits s pid false parked.kind) o ≡ changes_by_call limits s pid request.kind o
changes-free limits s pid o parked request free same =
    ap (λ (r : PlainRequest). changes_if_done (touched_by s pid r.kind) (tried limits s pid false r.kind) o) same
    ∙ sym (ap (λ (b : Bool). not b && changes_if_done (touched_by s pid request.kind) (tried limits s pid false request.kind) o) free)

pub returns-then-is_waiting-clause-marked : goal.returns-then-is_waiting-clause-marked
returns-then-is_waiting-clause-marked c =
    let s = c.args.state.now in
    let kind = (plain_request c.args.request.now).kind in
    none-marked s.state (changes_by_call s.limits s.state c.args.pid.0 kind) c.args.changed.now.marks.items
    (λ o. ap (λ (b : Bool). not b && changes_if_done (touched_by s.state c.args.pid.0 kind) (tried s.limits s.state c.args.pid.0 false kind) o)
    (sym c.is_waiting.ensures ∙ c.if-is_waiting.true))

pub returns-in-Some-clause-marked : goal.returns-in-Some-clause-marked
returns-in-Some-clause-marked c =
    let s = c.args.state.now in
    let free : is_waiting s.state c.args.pid.0 ≡ false = sym c.is_waiting.ensures ∙ c.if-is_waiting.false in
    let both = kept-ready (goal.at.returns-in-Some-clause-marked c).In-Some in
    let mid = c.make_room.new.self.marks.items in
    room-marked s.state (changes_by_call s.limits s.state c.args.pid.0 (plain_request c.args.request.now).kind) c.args.changed.now.marks.items mid _
    c.make_room.ensures.only c.make_room.ensures.kept
    (λ o. c.try_once.ensures.marked o
    ∙ ap (λ (b : Bool). is_marked mid o || b)
    (changes-free s.limits s.state c.args.pid.0 o c.in-Some.parked (plain_request c.args.request.now) free both.0))

pub returns-clause-marked : goal.returns-clause-marked
returns-clause-marked c =
    let s = c.args.state.now in
    let free : is_waiting s.state c.args.pid.0 ≡ false = sym c.is_waiting.ensures ∙ c.if-is_waiting.false in
    let mid = c.make_room.new.self.marks.items in
    room-marked s.state (changes_by_call s.limits s.state c.args.pid.0 (plain_request c.args.request.now).kind) c.args.changed.now.marks.items mid _
    c.make_room.ensures.only c.make_room.ensures.kept
    (λ o. c.at_once.ensures.marked o
    ∙ ap (λ (b : Bool). is_marked mid o || b)
    (changes-free s.limits s.state c.args.pid.0 o (plain_request c.args.request.now) (plain_request c.args.request.now) free refl))

pub returns-then-is_waiting-clause-idle : goal.returns-then-is_waiting-clause-idle
returns-then-is_waiting-clause-idle c =
    let waits : is_waiting c.args.state.now.state c.args.pid.0 ≡ true = sym c.is_waiting.ensures ∙ c.if-is_waiting.true in
    rw waits refl

pub returns-in-Some-clause-idle : goal.returns-in-Some-clause-idle
returns-in-Some-clause-idle c =
    let s = c.args.state.now in
    let free : is_waiting s.state c.args.pid.0 ≡ false = sym c.is_waiting.ensures ∙ c.if-is_waiting.false in
    let both = kept-ready (goal.at.returns-in-Some-clause-idle c).In-Some in
    rw free (c.try_once.ensures.idle
    ∙ ap (λ (r : PlainRequest). ends_idle s.state c.args.pid.0 r (tried s.limits s.state c.args.pid.0 false r.kind)) both.0)

pub returns-clause-idle : goal.returns-clause-idle
returns-clause-idle c =
    let s = c.args.state.now in
    let free : is_waiting s.state c.args.pid.0 ≡ false = sym c.is_waiting.ensures ∙ c.if-is_waiting.false in
    rw free c.at_once.ensures.idle

-- what is kept is of a call that may wait
pub try_once-requires-clause-may : goal.try_once-requires-clause-may
try_once-requires-clause-may c =
    let free : is_waiting c.args.state.now.state c.args.pid.0 ≡ false = sym c.is_waiting.ensures ∙ c.if-is_waiting.false in
    kept-may (plain_request c.args.request.now) c.in-Some.parked (sym (rw free at c.requires.reserved.kept) ∙ c.in-Some.is)
