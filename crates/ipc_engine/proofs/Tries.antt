-- A call that is tried, whatever its kind: what it leaves when it comes to its end, and on what it depends whether it has to
-- wait.
use Rattle.std.proofs.Common.{◌≡◌, ◌≢◌, ℕ, Bool, true, false, Option, Some, None, refl, sym, ap, subst, ◌∙◌, arith}
use Rattle.std.specs.Prelude.{is_some, option_map}
use Rattle.ipc_base.specs.declared.errno.Errno.{Errno}
use Rattle.ipc_base.specs.declared.errno.Errno.TheVariants.{EPROTO}
use Rattle.ipc_limits.specs.declared.limits.Limits.{Limits}
use Rattle.ipc_wire.specs.Posix.{PlainPosix}
use Rattle.ipc_wire.specs.Posix as requests
use Rattle.ipc_wire.specs.Request.{PlainSysv, PlainKind, Hello, Interrupt as Interrupts, Sysv, Posix}
use Rattle.ipc_state.specs.declared.descriptors.Descriptor.{Descriptor}
use Rattle.ipc_state.specs.declared.parked.Awaited.{Awaited}
use Rattle.ipc_state.specs.declared.parked.Awaited.TheVariants as awaited
use Rattle.ipc_state.specs.declared.parked.Object.{Object}
use Rattle.ipc_state.specs.Finish.{Finish, Tried, Finishes, Waits, IfFinishes, has_to_wait, refused}
use Rattle.ipc_state.specs.Opening.{descriptor_at}
use Rattle.ipc_state.specs.State.{State, cred_of, is_waiting}
use Rattle.ipc_state.specs.Touching.{object_of, is_there, IsAsBefore}
use Rattle.ipc_state.specs.Waiting.{awaited_by}
use Rattle.ipc_state.proofs.CallerLemmas.{IsGood, by-finish, refused-good}
use Rattle.posix_calls.specs.Calls as posix
use Rattle.posix_calls.specs.Registrations.{own}
use Rattle.posix_calls.proofs.CallerLemmas as posixly
use Rattle.posix_calls.proofs.CallerLemmas.{LeavesOf, call-leaves}
use Rattle.sysv_calls.specs.Calls.{attempt, definition_of, touched}
use Rattle.sysv_calls.proofs.CallerLemmas.{IsApart, attempt-apart, attempt-good, by-waiting, never-waits, waits-alike, waits-there}
use Rattle.ipc_engine.specs.Settling.{touched_by}
use Rattle.ipc_engine.specs.Step.{tried}

-- ---- objects

-- what is there is an object
pub there-object : (s : State) (pid : ℕ) (on : Awaited) → is_there pid on s ≡ true → None ≢ object_of s pid on
there-object s pid (awaited.MsgQueue id) there = λ no. cc
there-object s pid (awaited.Semset id) there = λ no. cc
there-object s pid (awaited.Descriptor fd) there = by_found (descriptor_at s.processes.entries pid fd) there
  where
    by_found : (r : Option Descriptor) → is_some r ≡ true → None ≢ option_map (λ (d : Descriptor). d.on) r
    by_found None there = cc
    by_found (Some d) there = λ no. cc

-- a call that waits on an object is one that may change it
waits-touched : (s : State) (pid : ℕ) (call : PlainSysv) (on : Awaited) → awaited_by (Sysv call) ≡ Some on → touched s pid call ≡ object_of s pid on
waits-touched s pid =
    by-waiting (λ call. (on : Awaited) → awaited_by (Sysv call) ≡ Some on → touched s pid call ≡ object_of s pid on)
    (λ id flags mtype text on is. let same : awaited.MsgQueue (record { 0 = id }) ≡ on = cc in ap (object_of s pid) same)
    (λ id flags size mtype on is. let same : awaited.MsgQueue (record { 0 = id }) ≡ on = cc in ap (object_of s pid) same)
    (λ id timeout operations on is. let same : awaited.Semset (record { 0 = id }) ≡ on = cc in ap (object_of s pid) same)
    (λ call other on is. let both = sym is ∙ other.never in cc)

posix-touched : (s : State) (pid : ℕ) (call : PlainPosix) (on : Awaited) → awaited_by (Posix call) ≡ Some on
    → posix.touched s pid call ≡ object_of s pid on
posix-touched s pid (requests.MqSend fd deadline priority text) on is =
    let same : awaited.Descriptor fd ≡ on = cc in ap (object_of s pid) same
posix-touched s pid (requests.MqReceive fd deadline size) on is = let same : awaited.Descriptor fd ≡ on = cc in ap (object_of s pid) same
posix-touched s pid (requests.SemWait fd deadline) on is = let same : awaited.Descriptor fd ≡ on = cc in ap (object_of s pid) same
posix-touched s pid call on is = cc

-- What is known of a call of a process that has come to its end, if it may change this object alone: it changes nothing
-- else, the objects of the other processes are the same, and it leaves no more registrations than there were.
pub record HasEnded (limits : Limits) (s : State) (pid : ℕ) (touches : Option Object) (f : Finish) : Type 0 where
  pub good : IsGood limits s touches f
  pub leaves : (p : ℕ) → LeavesOf s pid p f

module _ (limits : Limits) where
  -- ---- what it leaves

  pub refused-ended : (s : State) (pid : ℕ) (touches : Option Object) (e : Errno) → HasEnded limits s pid touches (refused s e)
  refused-ended s pid touches e =
      record {
        good = refused-good limits s touches e;
        leaves = λ p. record { owed = omega arith; objects = λ other on. refl };
      }

  call-ended : (s : State) (pid : ℕ) (call : PlainSysv) (t : Tried) → IfFinishes (IsGood limits s (touched s pid call)) t → IfFinishes (IsApart s pid) t
      → IfFinishes (HasEnded limits s pid (touched s pid call)) t
  call-ended s pid call (Finishes f) good apart =
      record {
        good = good;
        leaves = λ p. record {
          owed = omega (arith, ap (own p) apart.fired, apart.mq.weigh (own p) refl);
          objects = λ other on. apart.objects p other on;
        };
      }
  call-ended s pid call Waits good apart = tt

  posix-ended : (s : State) (pid : ℕ) (touches : Option Object) (t : Tried) → IfFinishes (IsGood limits s touches) t
      → ((p : ℕ) → IfFinishes (LeavesOf s pid p) t) → IfFinishes (HasEnded limits s pid touches) t
  posix-ended s pid touches (Finishes f) good leaves = record { good = good; leaves = leaves }
  posix-ended s pid touches Waits good leaves = tt

  pub tried-ended : (s : State) (pid : ℕ) (again : Bool) (kind : PlainKind) → is_waiting s pid ≡ false
      → IfFinishes (HasEnded limits s pid (touched_by s pid kind)) (tried limits s pid again kind)
  tried-ended s pid again (Sysv call) free =
      call-ended s pid call (attempt limits s pid again call) (attempt-good limits s pid again call free) (attempt-apart limits s pid again call)
  tried-ended s pid again (Posix call) free =
      posix-ended s pid (posix.touched s pid call) (posix.attempt limits s pid call) (posixly.attempt-good limits s pid call free)
      (call-leaves limits s pid call)
  tried-ended s pid again (Hello cred) free = refused-ended s pid None EPROTO
  tried-ended s pid again Interrupts free = refused-ended s pid None EPROTO

  -- one that waited on an object may change it alone
  pub waited-ended : (s : State) (pid : ℕ) (kind : PlainKind) (on : Awaited) → is_waiting s pid ≡ false → awaited_by kind ≡ Some on
      → IfFinishes (HasEnded limits s pid (object_of s pid on)) (tried limits s pid true kind)
  waited-ended s pid (Sysv call) on free is =
      subst (λ (o : Option Object). IfFinishes (HasEnded limits s pid o) (attempt limits s pid true call)) (waits-touched s pid call on is)
      (tried-ended s pid true (Sysv call) free)
  waited-ended s pid (Posix call) on free is =
      subst (λ (o : Option Object). IfFinishes (HasEnded limits s pid o) (posix.attempt limits s pid call)) (posix-touched s pid call on is)
      (tried-ended s pid true (Posix call) free)
  waited-ended s pid (Hello cred) on free is = cc
  waited-ended s pid Interrupts on free is = cc

  -- one that is refused leaves the state
  pub refused-state : (s : State) (pid : ℕ) (again : Bool) (kind : PlainKind)
      → IfFinishes (λ (f : Finish). is_some f.errno ≡ true → f.state ≡ s) (tried limits s pid again kind)
  refused-state s pid again (Sysv call) =
      by-finish (λ (f : Finish). is_some f.errno ≡ true → f.state ≡ s) s (definition_of limits s pid again call) (λ d is off. cc) (λ e off. refl)
  refused-state s pid again (Posix call) =
      by-finish (λ (f : Finish). is_some f.errno ≡ true → f.state ≡ s) s (posix.definition_of limits s pid call) (λ d is off. cc) (λ e off. refl)
  refused-state s pid again (Hello cred) = λ off. refl
  refused-state s pid again Interrupts = λ off. refl

  -- ---- whether it has to wait

  -- two states that have the same caller and the same object make the same call wait, whether it waited before or not
  pub tried-alike : (s t : State) (pid : ℕ) (again other : Bool) (kind : PlainKind) (on : Awaited) → awaited_by kind ≡ Some on
      → cred_of t pid ≡ cred_of s pid → IsAsBefore pid on s t
      → has_to_wait (tried limits t pid other kind) ≡ has_to_wait (tried limits s pid again kind)
  tried-alike s t pid again other (Sysv call) on is cred before = waits-alike limits s t pid again other call on is cred before
  tried-alike s t pid again other (Posix call) on is cred before = posixly.waits-alike limits s t pid call on is before
  tried-alike s t pid again other (Hello cred) on is same before = refl
  tried-alike s t pid again other Interrupts on is cred before = refl

  -- what waits on an object finds it there
  pub tried-there : (s : State) (pid : ℕ) (again : Bool) (kind : PlainKind) (on : Awaited) → awaited_by kind ≡ Some on
      → has_to_wait (tried limits s pid again kind) ≡ true → is_there pid on s ≡ true
  tried-there s pid again (Sysv call) on is waits = waits-there limits s pid again call on is waits
  tried-there s pid again (Posix call) on is waits = posixly.waits-there limits s pid call on is waits
  tried-there s pid again (Hello cred) on is waits = cc
  tried-there s pid again Interrupts on is waits = cc

  -- a call that waits on nothing never waits
  pub tried-never : (s : State) (pid : ℕ) (again : Bool) (kind : PlainKind) → awaited_by kind ≡ None
      → has_to_wait (tried limits s pid again kind) ≡ false
  tried-never s pid again (Sysv call) is = never-waits limits s pid again call is
  tried-never s pid again (Posix call) is = posixly.never-waits limits s pid call is
  tried-never s pid again (Hello cred) is = refl
  tried-never s pid again Interrupts is = refl
