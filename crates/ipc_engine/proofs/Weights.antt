-- What replies to a process weigh together: each one, or its bytes. No process is sent more than it has asked for.
use Rattle.std.proofs.Common.{◌≡◌, ℕ, ◌+◌, ◌*◌, ◌≤◌, Option, Some, None, Bool, true, false, not, cond, List, [], ◌∷◌, ◌++◌, length, map, is_some}
use Rattle.std.proofs.Common.{refl, ap, subst, ◌∙◌, arith}
use Rattle.std.specs.Prelude.{◌==◌, ◌&&◌, if◌then◌else◌, sum_by}
use Rattle.std.proofs.lemmas.Bool.Decides.{nat_tests}
use Rattle.std.proofs.Math.Nat.{mul-add, mul-le-mul_left}
use Rattle.ipc_base.specs.declared.identity.Moment.{Moment}
use Rattle.ipc_base.specs.declared.identity.Pid.{Pid}
use Rattle.ipc_limits.specs.declared.limits.Limits.{Limits}
use Rattle.ipc_limits.specs.Limits.{longest_reply}
use Rattle.ipc_wait.specs.Waits.{waiting_call_of, calls_due, calls_left, is_due, HaveDistinctPids}
use Rattle.ipc_wire.specs.declared.reply.Body.TheVariants.{Empty, Number, Message, MqMessage, Notification, Record}
use Rattle.ipc_wire.specs.Reply.{PlainBody, body_bytes, reply_bytes}
use Rattle.ipc_wire.proofs.CallerLemmas.{length-reply_bytes}
use Rattle.posix_mq.specs.declared.queue.Registration.{Registration}
use Rattle.posix_mq.specs.Queue.{Queue as Mq}
use Rattle.ipc_state.specs.Named.{Named, NamedEntry}
use Rattle.ipc_state.specs.Finish.{Finish}
use Rattle.ipc_state.specs.Sound.{FitsBody}
use Rattle.ipc_state.specs.State.{State, is_waiting}
use Rattle.ipc_state.specs.Waiting.{PlainWaiting}
use Rattle.posix_calls.specs.Registrations.{is_empty, may_make, own, registrations}
use Rattle.ipc_engine.specs.Bytes.{bytes_to, notice_bytes, replies_to}
use Rattle.ipc_engine.specs.Event.{PlainOutcome}
use Rattle.ipc_engine.specs.Step.{expired, notices, replied}
use Rattle.ipc_engine.specs.View.{reply_of}

times-split : (n a b c d : ℕ) → a + b ≤ c + d → n * a + n * b ≤ n * c + n * d
times-split n a b c d less = subst (λ (k : ℕ). k ≤ n * c + n * d) (mul-add n a b) (subst (λ (k : ℕ). n * (a + b) ≤ k) (mul-add n c d) (mul-le-mul_left n less))

all-together : (reply replied_or_joined made owns left before most : ℕ) → reply + made ≤ most → replied_or_joined ≤ owns → owns + left ≤ before + made
    → reply + replied_or_joined + left ≤ before + most
all-together reply replied_or_joined made owns left before most own notices all = omega (arith, own, notices, all)

abbrev pub weight_to : (PlainOutcome → ℕ) → ℕ → List PlainOutcome → ℕ
weight_to weigh pid [] = 0
weight_to weigh pid (o ∷ os) = (if pid == o.pid then weigh o else 0) + weight_to weigh pid os

-- what a process is owed while a call of it waits
abbrev pub held : ℕ → State → ℕ → ℕ
held most s pid = if is_waiting s pid then most else 0

-- and for its registrations: so much for each
unfoldable pub notes : ℕ → State → ℕ → ℕ
notes note s pid = note * registrations s pid

pub notes-same : (note : ℕ) (s t : State) (pid : ℕ) → t.mq ≡ s.mq → notes note t pid ≡ notes note s pid
unfolding notes
notes-same note s t pid same =
    ap (λ (o : Named Mq). note * sum_by (λ (e : ℕ × NamedEntry Mq). own pid e.1.object.registration) o.entries) same

pub notes-less : (note : ℕ) (s t : State) (pid : ℕ) → registrations t pid ≤ registrations s pid → notes note t pid ≤ notes note s pid
unfolding notes
notes-less note s t pid less = mul-le-mul_left note less

-- the notification of a registration
abbrev pub notice : Registration → PlainOutcome
notice r = record { pid = r.pid.0; serial = 0; errno = None; body = Notification r.descriptor r.cookie }

-- a reply whose body fits weighs no more than the most, and one without a body so much less that a notification has
-- room beside it
pub record IsLight (limits : Limits) (weigh : PlainOutcome → ℕ) (most note : ℕ) : Type 0 where
  pub reply : (o : PlainOutcome) → FitsBody limits o.body → weigh o ≤ most
  pub empty : (o : PlainOutcome) → is_empty o.body ≡ true → weigh o + note ≤ most
  pub notice : (r : Registration) → weigh (notice r) ≤ note

-- each one but notifications, and its bytes
abbrev pub one_each : PlainOutcome → ℕ
one_each o = if not (o.serial == 0) then 1 else 0

abbrev pub size_of : PlainOutcome → ℕ
size_of o = length (reply_bytes (reply_of o))

pub one-light : (limits : Limits) → IsLight limits one_each 1 0
one-light limits =
    record { reply = λ o fits. by_test (not (o.serial == 0)); empty = λ o is. omega (arith, by_test (not (o.serial == 0))); notice = λ r. omega arith }
  where
    by_test : (b : Bool) → (if b then 1 else 0) ≤ 1
    by_test true = omega arith
    by_test false = omega arith

no-bytes : (body : PlainBody) → is_empty body ≡ true → length (body_bytes body) ≡ 0
no-bytes Empty is = refl
no-bytes (Number n) is = cc
no-bytes (Message mtype text) is = cc
no-bytes (MqMessage priority text) is = cc
no-bytes (Notification fd cookie) is = cc
no-bytes (Record bytes) is = cc

pub size-light : (limits : Limits) → IsLight limits size_of (longest_reply limits) notice_bytes
size-light limits =
    record {
      reply = λ o fits. omega (arith, fits, length-reply_bytes (reply_of o));
      empty = λ o is. omega (arith, no-bytes o.body is, length-reply_bytes (reply_of o));
      notice = λ r. omega (arith, length-reply_bytes (reply_of (notice r)));
    }

pub replies-weigh : (pid : ℕ) (os : List PlainOutcome) → replies_to pid os ≡ weight_to one_each pid os
replies-weigh pid [] = refl
replies-weigh pid (o ∷ os) = by_test (pid == o.pid) (replies-weigh pid os)
  where
    by_test : (b : Bool) → replies_to pid os ≡ weight_to one_each pid os
        → (if b && not (o.serial == 0) then 1 else 0) + replies_to pid os ≡ (if b then one_each o else 0) + weight_to one_each pid os
    by_test true rest = ap (λ (n : ℕ). one_each o + n) rest
    by_test false rest = ap (λ (n : ℕ). 0 + n) rest

pub bytes-weigh : (pid : ℕ) (os : List PlainOutcome) → bytes_to pid os ≡ weight_to size_of pid os
bytes-weigh pid [] = refl
bytes-weigh pid (o ∷ os) = ap (λ (n : ℕ). (if pid == o.pid then size_of o else 0) + n) (bytes-weigh pid os)

module _ (weigh : PlainOutcome → ℕ) where
  pub weight_to-append : (pid : ℕ) (xs ys : List PlainOutcome) → weight_to weigh pid (xs ++ ys) ≡ weight_to weigh pid xs + weight_to weigh pid ys
  weight_to-append pid [] ys = omega arith
  weight_to-append pid (o ∷ xs) ys = omega (arith, weight_to-append pid xs ys)

  module _ (limits : Limits) (most note : ℕ) (light : IsLight limits weigh most note) where
    -- one reply that fits: its process is sent no more than the most, and no other anything
    pub one-weighs : (o : PlainOutcome) (pid : ℕ) (asking : Bool) → FitsBody limits o.body → (pid == o.pid) ≡ asking
        → weight_to weigh pid (o ∷ []) ≤ (if asking then most else 0)
    one-weighs o pid true fits same = rw same (omega (arith, light.reply o fits))
    one-weighs o pid false fits same = rw same (omega arith)

    -- the notification of a registration, if there is one
    notices-weigh : (fired : Option Registration) (pid : ℕ) → weight_to weigh pid (notices fired) ≤ note * own pid fired
    notices-weigh None pid = omega arith
    notices-weigh (Some r) pid = by_test (r.pid.0 == pid) refl
      where
        by_test : (b : Bool) → (r.pid.0 == pid) ≡ b → (if pid == r.pid.0 then weigh (notice r) else 0) + 0 ≤ note * (if b then 1 else 0)
        by_test true same = let mine : (pid == r.pid.0) ≡ true = grind (arith, nat_tests) in rw mine (omega (arith, light.notice r))
        by_test false other = let others : (pid == r.pid.0) ≡ false = grind (arith, nat_tests) in rw others (omega arith)

    -- a reply, with the notification that its call may have asked for
    asked-weighs : (o : PlainOutcome) (pid : ℕ) → FitsBody limits o.body
        → (if pid == o.pid then weigh o else 0) + note * may_make o.pid o.body pid ≤ (if pid == o.pid then most else 0)
    asked-weighs o pid fits = by_tests (pid == o.pid) (is_empty o.body) refl refl
      where
        by_tests : (mine bare : Bool) → (pid == o.pid) ≡ mine → is_empty o.body ≡ bare
            → (if mine then weigh o else 0) + note * (if mine && bare then 1 else 0) ≤ (if mine then most else 0)
        by_tests true true same is = omega (arith, light.empty o is)
        by_tests true false same is = omega (arith, light.reply o fits)
        by_tests false bare other is = omega arith

    -- the reply to a call and the notification that it fires, with those that may still come
    pub replied-weighs : (s : State) (asker serial : ℕ) (f : Finish) (pid : ℕ) → FitsBody limits f.body
        → own pid f.fired + registrations f.state pid ≤ registrations s pid + may_make asker f.body pid
        → weight_to weigh pid (replied asker serial f).outcomes + notes note f.state pid ≤ notes note s pid + (if pid == asker then most else 0)
    unfolding notes
    replied-weighs s asker serial f pid fits owed =
        let o : PlainOutcome = record { pid = asker; serial = serial; errno = f.errno; body = f.body } in
        all-together _ _ _ _ _ _ _ (asked-weighs o pid fits) (notices-weigh f.fired pid)
        (times-split note (own pid f.fired) (registrations f.state pid) (registrations s pid) (may_make asker f.body pid) owed)

    abbrev owing : ℕ → List PlainWaiting → ℕ
    owing pid ws = if is_some (waiting_call_of (record { 0 = pid }) ws) then most else 0

    -- a call whose deadline has come is answered, and waits no longer
    pub due-owes : (now : Moment) (pid : ℕ) (ws : List PlainWaiting) → HaveDistinctPids ws
        → weight_to weigh pid (map expired (calls_due now ws)) + owing pid (calls_left now ws) ≤ owing pid ws
    due-owes now pid [] distinct = omega arith
    due-owes now pid (w ∷ ws) distinct = by_test (w.pid.0 == pid) (is_due now w) refl refl (due-owes now pid ws distinct.1)
      where
        light-here : weigh (expired w) ≤ most
        light-here = light.reply (expired w) (omega arith)

        turned : (b : Bool) → (w.pid.0 == pid) ≡ b → (pid == w.pid.0) ≡ b
        turned true same = grind (arith, nat_tests)
        turned false other = grind (arith, nat_tests)

        -- its process has no other call
        owing-none : (w.pid.0 == pid) ≡ true → owing pid ws ≡ 0
        owing-none same =
            let one : record { 0 = pid } ≡ w.pid = ap (λ (n : ℕ). let p : Pid = record { 0 = n } in p) (grind (arith, nat_tests)) in
            ap (λ (b : Bool). if b then most else 0) (ap (λ (p : Pid). is_some (waiting_call_of p ws)) one ∙ ap is_some distinct.0)

        by_test : (b due : Bool) → (w.pid.0 == pid) ≡ b → is_due now w ≡ due
            → weight_to weigh pid (map expired (calls_due now ws)) + owing pid (calls_left now ws) ≤ owing pid ws
            → weight_to weigh pid (map expired (cond due (w ∷ calls_due now ws) (calls_due now ws)))
            + owing pid (cond (not due) (w ∷ calls_left now ws) (calls_left now ws))
            ≤ (if is_some (cond b (Some w) (waiting_call_of (record { 0 = pid }) ws)) then most else 0)
        by_test true true same is rest =
            let none = owing-none same in
            rw (turned true same) (omega (arith, rest, none, light-here))
        by_test true false same is rest =
            let none = owing-none same in
            rw same (omega (arith, rest, none))
        by_test false true other is rest = rw (turned false other) (omega (arith, rest))
        by_test false false other is rest = rw other (omega (arith, rest))
