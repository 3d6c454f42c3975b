-- A request is served: the replies have room, and the hub's connections go on.
use Rattle.std.proofs.Common.{◌≡◌, ◌≢◌, ℕ, ◌+◌, ◌<◌, ◌≤◌, ◌^◌, true, false, List, [], Option, Some, None}
use Rattle.std.proofs.Common.{refl, sym, ap, ◌∙◌, subst, arith, ◌⊎◌, inl, inr, length}
use Rattle.std.specs.Prelude.{nat_eq}
use Rattle.std.proofs.lemmas.Bool.{cases_eq}
use Rattle.std.proofs.lemmas.Bool.Decides.{nat_tests}
use Rattle.ipc_hub.proofs.Rows.{same_value, process_of}
use Rattle.ipc_limits.specs.Limits.{ArePassed, longest_reply}
use Rattle.ipc_base.specs.Table.{value_at, with_value, keys_of, EachValue}
use Rattle.ipc_base.proofs.CallerLemmas.{choice, test_cases, at-with, other-with, keys_of-with_value, each-at, each-by_key}
use Rattle.ipc_state.specs.State.{is_process}
use Rattle.ipc_engine.specs.Bytes.{IsGreeted, bytes_to, owed}
use Rattle.ipc_engine.specs.Event.{PlainEvent, PlainOutcome}
use Rattle.ipc_engine.specs.Sound.{IsSound}
use Rattle.ipc_engine.specs.Step.{Step, step}
use Rattle.ipc_engine.specs.View.{reply_of}
use Rattle.ipc_wire.proofs.CallerLemmas.{length-reply_bytes}
use Rattle.ipc_engine.proofs.CallerLemmas.{owed-none, step-fits, unanswered-waits}
use Rattle.ipc_hub.specs.Hub.{last_reply, greeted as as_greeted, told as as_told}
use Rattle.ipc_hub.specs.View.{ConnectionView, HubView, kept}
use Rattle.ipc_hub.specs.Relations.Delivery.{last_frames, owed_to, unanswered_of, pushed, hears, put_all, answered, with_answer, view_endpoint}
use Rattle.ipc_hub.specs.Relations.Rows.{Table, process_in}
use Rattle.ipc_hub.specs.Relations.Delivery.{HaveSpace, HasSpaceToGreet, HasSpaceToAnswer}
use Rattle.ipc_hub.specs.Relations.Invariant.{AreApart, AreOwn, IsSoundConnection, IsSoundIn, HubInvariant, Continues}
use Rattle.ipc_hub.proofs.Keeping.{owing, sent_to, sent-some, sent-none, kept-owing, kept-pushed, length-pushed, length-heard, owing-have_space}
use Rattle.ipc_hub.proofs.Keeping.{quiet-kept, delivery-goes-on, process-with}
use Rattle.ipc_hub.proofs.Requests.{Asks, last-fits, last-is, last-sent, asked-owes, connected-above, connected-below, next-above}

-- ---- the connection that asked

module _ (h : HubView) (conn : ℕ) (v : ConnectionView) (e : PlainEvent) (inv : HubInvariant h) (found : value_at nat_eq h.connections conn ≡ Some v)
    (live : v.ended ≡ false) (space : owed_to h.limits h.state v.process + longest_reply h.limits + last_frames ≤ v.outbox.free)
    (passed : ArePassed h.limits) (sound : IsSound h.limits h.state) (a : Asks h.limits h.state v.process e) where
  abbrev now : Step
  now = step h.limits h.state e

  abbrev pub told : ConnectionView
  told = answered (last_reply now.outcomes) v

  abbrev table : Table
  table = with_value nat_eq h.connections conn told

  -- what processes are owed after the event, with its replies
  abbrev debt : Option ℕ → ℕ
  debt = owing now.outcomes (owed_to h.limits now.state)

  -- a new process, whose reply is the last
  abbrev IsFresh : ℕ → Type 0
  IsFresh pid = (v.process ≡ None) × (pid ≡ h.state.processes.next) × (is_process now.state pid ≡ true) × (0 < bytes_to pid now.outcomes)

  -- With no process it has the reply, or the new process that this names; else it is as it was.
  by-told : (P : ConnectionView → Type 0) → ((o : PlainOutcome) → v.process ≡ None → last_reply now.outcomes ≡ Some o → P (pushed (reply_of o) v))
      → ((pid : ℕ) → IsFresh pid → P (record v { process = Some pid })) → ((pid : ℕ) → v.process ≡ Some pid → P v) → P told
  by-told P none new same = by_process v.process (λ is. greeted is (a.greets is)) same
    where
      by_process : (p : Option ℕ) → (p ≡ None → P (as_greeted view_endpoint 0 (last_reply now.outcomes) v)) → ((pid : ℕ) → p ≡ Some pid → P v)
          → P (as_told view_endpoint 0 p (last_reply now.outcomes) v)
      by_process None first second = first refl
      by_process (Some pid) first second = second pid refl

      fresh : v.process ≡ None → (g : IsGreeted h.state now) → nat_eq g.reply.pid 0 ≡ false
          → (g.reply.pid ≡ 0) ⊎ ((g.reply.pid ≡ h.state.processes.next) × (is_process now.state g.reply.pid ≡ true)) → IsFresh g.reply.pid
      fresh is g t (inl zero) = absurd (grind (arith, nat_tests, t, zero))
      fresh is g t (inr new) = (is, new.0, new.1, subst (λ (os : List PlainOutcome). 0 < bytes_to g.reply.pid os) (sym g.last) (last-sent g.front g.reply))

      greeted : v.process ≡ None → IsGreeted h.state now → P (as_greeted view_endpoint 0 (last_reply now.outcomes) v)
      greeted is g =
          let last : last_reply now.outcomes ≡ Some g.reply = ap last_reply g.last ∙ last-is g.front g.reply in
          subst (λ (r : Option PlainOutcome). P (as_greeted view_endpoint 0 r v)) (sym last)
          (choice P (nat_eq g.reply.pid 0) (pushed (reply_of g.reply) v) (record v { process = Some g.reply.pid }) (λ _. none g.reply is last)
          (λ t. new g.reply.pid (fresh is g t g.process)))

  -- the process that it has then
  told-process : (pid : ℕ) → told.process ≡ Some pid → (v.process ≡ Some pid) ⊎ IsFresh pid
  told-process pid =
      by-told (λ (w : ConnectionView). w.process ≡ Some pid → (v.process ≡ Some pid) ⊎ IsFresh pid)
      (λ _ _ _ is. inl is) (λ q new is. inr (subst IsFresh (same_value q pid is) new)) (λ _ _ is. inl is)

  mine : process_in h.connections conn ≡ v.process
  mine = ap process_of found

  here : IsSoundIn h v
  here = each-at (IsSoundIn h) h.connections conn v inv.each found

  fresh-above : (pid : ℕ) → IsFresh pid → 0 < pid
  fresh-above pid new = omega (arith, next-above h.limits h.state sound, new.1)

  fresh-nobodys : (pid : ℕ) → IsFresh pid → is_process h.state pid ≡ true → ⊥
  fresh-nobodys pid new is = omega (arith, connected-below h.limits h.state pid sound is, new.1)

  fresh-owes : (pid : ℕ) → IsFresh pid → debt (Some pid) ≤ longest_reply h.limits
  fresh-owes pid new =
      let none : owed h.limits h.state pid ≡ 0 = owed-none h.limits h.state pid sound
      (elim (test_cases (is_process h.state pid)) [ inl is ↦ absurd (fresh-nobodys pid new is) | inr not ↦ not ]) in
      omega (arith, none, asked-owes h.limits h.state e pid sound (fresh-above pid new), sent-some now.outcomes pid)

  -- it has room for what it is sent, and is owed then
  told-kept : IsSoundConnection h.limits debt told
  told-kept =
      by-told (IsSoundConnection h.limits debt)
      (λ o none last.
      let fits = (last-fits h.limits h.state e o passed sound last).1 in
      let owes = ap (owed_to h.limits h.state) none in
      let less = ap debt none in
      kept-pushed h.limits (owed_to h.limits h.state) debt o v here (omega (arith, fits, space))
      (λ _. omega (arith, fits, space, owes, less, sent-none now.outcomes)))
      (λ pid new. kept-owing h.limits (owed_to h.limits h.state) debt v (Some pid) here live (omega (arith, fresh-owes pid new, space)))
      (λ pid some.
      let above = connected-above h.limits h.state pid sound (inv.own.connected conn pid (mine ∙ some)) in
      let owes = ap (owed_to h.limits h.state) some in
      let less = ap debt some in
      kept-owing h.limits (owed_to h.limits h.state) debt v v.process here live
      (omega (arith, asked-owes h.limits h.state e pid sound above, space, owes, less, sent-some now.outcomes pid)))

  -- If it keeps no frame after its replies, it kept none before, and its request is the one that is not answered yet.
  pub told-none : kept (hears now.outcomes told).outbox ≡ []
      → (length (kept v.outbox) ≡ 0) × (unanswered_of h.state v.process ≡ 0) × (0 < unanswered_of now.state told.process)
  told-none =
      by-told (λ (w : ConnectionView). kept (hears now.outcomes w).outbox ≡ [] → (length (kept v.outbox) ≡ 0)
      × (unanswered_of h.state v.process ≡ 0) × (0 < unanswered_of now.state w.process))
      (λ o none last empty.
      let w : ConnectionView = pushed (reply_of o) v in
      absurd (pushed-long o (omega (arith, ap length empty, length-heard now.outcomes w))))
      (λ pid new empty.
      let w : ConnectionView = record v { process = Some pid } in
      absurd (omega (arith, new.3, ap length empty, length-heard now.outcomes w, sent-some now.outcomes pid)))
      (λ pid some empty.
      let long = length-heard now.outcomes v in
      let sent = ap (sent_to now.outcomes) some ∙ sent-some now.outcomes pid in
      let quiet : bytes_to pid now.outcomes ≡ 0 = omega (arith, ap length empty, long, sent) in
      let waits = unanswered-waits h.limits h.state e pid sound (inv.own.connected conn pid (mine ∙ some)) (a.own pid some) quiet in (
        omega (arith, ap length empty, long),
        ap (unanswered_of h.state) some ∙ waits.0,
        subst (λ (p : Option ℕ). 0 < unanswered_of now.state p) (sym some) (omega (arith, waits.1)),
      ))
    where
      pushed-long : (o : PlainOutcome) → length (kept (pushed (reply_of o) v).outbox) ≡ 0 → ⊥
      pushed-long o none = omega (arith, none, length-pushed (reply_of o) v, length-reply_bytes (reply_of o))

  -- ---- the hub

  rising : keys_of table ≡ keys_of h.connections
  rising = keys_of-with_value nat_eq h.connections conn told

  each-now : EachValue (IsSoundConnection h.limits debt) table
  each-now = each-by_key (IsSoundConnection h.limits debt) 0 table (2 ^ 32) (rw rising inv.rising) (λ k x is.
      elim (cases_eq k conn) [
        | inl same ↦ subst (IsSoundConnection h.limits debt) (same_value told x (sym (at-with h.connections conn told v found) ∙ (rw same at is))) told-kept
        | inr apart ↦ other k x apart (sym (other-with h.connections conn k told apart) ∙ is)
      ])
    where
      -- no other connection's process asks
      other : (k : ℕ) (x : ConnectionView) → k ≢ conn → value_at nat_eq h.connections k ≡ Some x → IsSoundConnection h.limits debt x
      other k x apart there =
          quiet-kept h.limits h.state e sound x (each-at (IsSoundIn h) h.connections k x inv.each there)
          (λ pid some. let is = inv.own.connected k pid (ap process_of there ∙ some) in
          (is, a.others pid is (λ same. apart (inv.own.one k conn pid (ap process_of there ∙ some) (mine ∙ same)))))

  all-space : HaveSpace now.outcomes table
  all-space = owing-have_space h.limits (owed_to h.limits now.state) now.outcomes table passed (step-fits h.limits h.state e sound) each-now

  greet-space : (r : Option PlainOutcome) → last_reply now.outcomes ≡ r → HasSpaceToGreet r v
  greet-space None last = tt
  greet-space (Some o) last = let fits = last-fits h.limits h.state e o passed sound last in (fits.0, omega (arith, fits.1, space))

  pub answer-space : HasSpaceToAnswer now.outcomes conn h.connections
  answer-space = record { own = rw found (λ _. greet-space (last_reply now.outcomes) refl); all = rw found all-space }

  -- a process of a connection is new, or has it still
  had-or-new : (k pid : ℕ) → process_in table k ≡ Some pid → (process_in h.connections k ≡ Some pid) ⊎ ((k ≡ conn) × IsFresh pid)
  had-or-new k pid is =
      elim (process-with h.connections conn k pid v told found is) [
        | inl here ↦ elim (told-process pid here.1) [ inl had ↦ inl (ap (process_in h.connections) here.0 ∙ mine ∙ had) | inr new ↦ inr (here.0, new) ]
        | inr there ↦ inl there.1
      ]

  own : AreOwn now.state table
  own =
      record {
        connected = λ k pid is. elim (had-or-new k pid is) [ inl had ↦ a.stay pid (inv.own.connected k pid had) | inr new ↦ new.1.2 ];
        one = λ k j pid is too.
            elim (had-or-new k pid is) [
              | inl had ↦ elim (had-or-new j pid too) [
                | inl had' ↦ inv.own.one k j pid had had'
                | inr new ↦ absurd (fresh-nobodys pid new.1 (inv.own.connected k pid had))
              ]
              | inr new ↦ elim (had-or-new j pid too) [
                | inl had ↦ absurd (fresh-nobodys pid new.1 (inv.own.connected j pid had))
                | inr new' ↦ new.0 ∙ sym new'.0
              ]
            ];
      }

  -- when it has been told, no two connections have one process
  pub answer-apart : AreApart (with_answer now.outcomes conn h.connections)
  answer-apart = rw found own.one

  pub answer-goes-on : (new : HubView) → new.limits ≡ h.limits → new.state ≡ now.state
      → new.connections ≡ put_all now.outcomes (with_answer now.outcomes conn h.connections) → Continues h new
  answer-goes-on new limits state rows =
      let goes : Continues (record h { connections = table }) new =
      delivery-goes-on (record h { connections = table }) new now.outcomes (rw state own) (rw state each-now) (rw rising inv.rising) limits
      (rows ∙ rw found refl) in
      record { limits = goes.limits; numbers = goes.numbers ∙ rising; invariant = goes.invariant }
