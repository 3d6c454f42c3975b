-- What holds of the hub's connections goes on holding when replies are put into their outboxes.
use Rattle.std.proofs.Common.{◌≡◌, ◌≢◌, ℕ, ◌+◌, ◌≤◌, ◌^◌, true, false, List, [], ◌∷◌, ◌++◌, length, Option, Some, None}
use Rattle.std.proofs.Common.{refl, sym, ap, subst, ◌∙◌, arith, ◌⊎◌, inl, inr, rules}
use Rattle.std.specs.Prelude.{nat_eq, if◌then◌else◌, option_map, not}
use Rattle.std.proofs.lemmas.Bool.{cases_eq}
use Rattle.std.proofs.lemmas.List.{length-append}
use Rattle.ipc_base.specs.Table.{value_at, with_value, keys_of, seen_as, EachValue, IsRising}
use Rattle.ipc_limits.specs.declared.limits.Limits.{Limits}
use Rattle.ipc_base.proofs.CallerLemmas.{choice, test_cases, each-seen, each-at, each-by_key}
use Rattle.ipc_base.proofs.CallerLemmas.{each-with, at-map, keys-map, at-with, other-with, keys_of-with_value}
use Rattle.ipc_wire.specs.Reply.{reply_bytes}
use Rattle.ipc_wire.specs.Reply.{PlainReply}
use Rattle.ipc_wire.proofs.CallerLemmas.{length-reply_bytes}
use Rattle.ipc_engine.specs.Bytes.{asks, bytes_to, most_owed, owed}
use Rattle.ipc_engine.specs.Event.{PlainEvent, PlainOutcome}
use Rattle.ipc_engine.specs.Sound.{IsSound}
use Rattle.ipc_engine.specs.Step.{step}
use Rattle.ipc_engine.specs.View.{reply_of}
use Rattle.ipc_engine.specs.Engine.{Machine}
use Rattle.ipc_engine.proofs.CallerLemmas.{owed-most, step-fits}
use Rattle.ipc_state.specs.Sound.{FitsBody}
use Rattle.std.proofs.lemmas.List.Elements.{All-head, All-tail}
use Rattle.std.specs.Prelude.{All}
use Rattle.ipc_state.specs.State.{State, is_process}
use Rattle.ipc_disk.specs.Medium.{Medium}
use Rattle.ipc_store.specs.View.{StoreView}
use Rattle.ipc_hub.specs.Hub.{is_for}
use Rattle.ipc_hub.specs.View.{ConnectionView, HubView, HasNoFrame, IsBare, KeepsFew, ahead, kept}
use Rattle.ipc_hub.proofs.Kept.{both_choose, heard-none}
use Rattle.ipc_hub.proofs.Requests.{fits-short, quiet-owes}
use Rattle.ipc_hub.proofs.Rows.{process_of, for-one}
use Rattle.ipc_limits.specs.Limits.{ArePassed, longest_reply}
use Rattle.ipc_hub.specs.Relations.Delivery.{last_frame, last_frames, owed_to, pushed, hears, put_for, put_all, view_endpoint}
use Rattle.ipc_hub.specs.Relations.Delivery.{HasSpaceAt, HasSpaceIn, HasSpaceFor, HaveSpace}
use Rattle.ipc_hub.specs.Relations.Rows.{Table, goes_on, hub_view, changed, process_in, is_open_in}
use Rattle.ipc_hub.specs.Relations.Requests.{Happened, Steps}
use Rattle.ipc_hub.specs.Relations.Invariant.{AreApart, AreOwn, IsSoundConnection, IsSoundIn, HubInvariant}
use Rattle.ipc_hub.specs.Relations.Invariant.{Continues, HasPassed, LeavesOthers, IsNobodys, IsConnected}

-- ---- one connection

-- what a process, if there is one, is sent by some replies, and what it is owed with these on their way to it
abbrev pub sent_to : List PlainOutcome → Option ℕ → ℕ
sent_to [] p = 0
sent_to (o ∷ os) p = (if is_for o.pid p then length (reply_bytes (reply_of o)) else 0) + sent_to os p

abbrev pub owing : List PlainOutcome → (Option ℕ → ℕ) → Option ℕ → ℕ
owing os owed p = sent_to os p + owed p

pub sent-none : (os : List PlainOutcome) → sent_to os None ≡ 0
sent-none [] = refl
sent-none (o ∷ os) = omega (arith, sent-none os)

pub sent-some : (os : List PlainOutcome) (pid : ℕ) → sent_to os (Some pid) ≡ bytes_to pid os
sent-some [] pid = refl
sent-some (o ∷ os) pid = omega (arith, sent-some os pid)

-- it is owed otherwise, and so much has room, or it has another process
pub kept-owing : (limits : Limits) (f g : Option ℕ → ℕ) (v : ConnectionView) (p : Option ℕ) → IsSoundConnection limits f v → v.ended ≡ false
    → g p + last_frames ≤ v.outbox.free → IsSoundConnection limits g (record v { process = p })
kept-owing limits f g v p k live space =
    record { input = k.input; last = λ _. space; over = λ ended. let never : false ≡ true = sym live ∙ ended in cc; spare = k.spare; size = k.size }

-- the same, whether or not the connection has ended
pub kept-less : (limits : Limits) (f g : Option ℕ → ℕ) (v : ConnectionView) → IsSoundConnection limits f v → g v.process ≤ f v.process
    → IsSoundConnection limits g v
kept-less limits f g v k le = record { input = k.input; last = λ live. omega (arith, k.last live, le); over = k.over; spare = k.spare; size = k.size }

pub kept-pushed : (limits : Limits) (f g : Option ℕ → ℕ) (o : PlainOutcome) (v : ConnectionView) → IsSoundConnection limits f v
    → length (reply_bytes (reply_of o)) + last_frame ≤ v.outbox.free
    → (v.ended ≡ false → length (reply_bytes (reply_of o)) + (g v.process + last_frames) ≤ v.outbox.free) → IsSoundConnection limits g (pushed (reply_of o) v)
kept-pushed limits f g o v k fits space =
    let bytes : List ℕ = reply_bytes (reply_of o) in
    record {
      input = k.input;
      last = λ live. omega (arith, space live);
      over = k.over;
      spare = omega (arith, fits);
      size = omega (
        arith,
        k.size,
        fits,
        length-append v.outbox.visible v.outbox.waiting,
        length-append v.outbox.visible (v.outbox.waiting ++ bytes),
        length-append v.outbox.waiting bytes,
      );
    }

-- how much more is kept of a connection that has a reply
pub length-pushed : (reply : PlainReply) (v : ConnectionView) → length (kept (pushed reply v).outbox) ≡ length (kept v.outbox) + length (reply_bytes reply)
length-pushed reply v =
    omega (
      arith,
      length-append v.outbox.visible v.outbox.waiting,
      length-append v.outbox.visible (v.outbox.waiting ++ reply_bytes reply),
      length-append v.outbox.waiting (reply_bytes reply),
    )

-- it keeps something
pub pushed-some : (reply : PlainReply) (v : ConnectionView) → kept (pushed reply v).outbox ≡ [] → ⊥
pushed-some reply v none = omega (arith, ap length none, length-pushed reply v, length-reply_bytes reply)

-- a connection that goes on has a process or none; what is for its process has room
live-for : (limits : Limits) (f : Option ℕ → ℕ) (v : ConnectionView) (pid : ℕ) → IsSoundConnection limits f v → v.process ≡ Some pid → v.ended ≡ false
live-for limits f v pid k some = elim (test_cases v.ended) [ inl ended ↦ let never : None ≡ Some pid = sym (k.over ended) ∙ some in cc | inr live ↦ live ]

-- a reply that is on its way has room, and when it has come the others have
put-space : (limits : Limits) (f : Option ℕ → ℕ) (o : PlainOutcome) (os : List PlainOutcome) (v : ConnectionView)
    → IsSoundConnection limits (owing (o ∷ os) f) v → HasSpaceIn o v
put-space limits f o os v k is = let space = rw is at (k.last (live-for limits (owing (o ∷ os) f) v o.pid k (for-one o v.process is))) in omega (arith, space)

put-kept : (limits : Limits) (f : Option ℕ → ℕ) (o : PlainOutcome) (os : List PlainOutcome) (v : ConnectionView)
    → IsSoundConnection limits (owing (o ∷ os) f) v → IsSoundConnection limits (owing os f) (put_for o v)
put-kept limits f o os v k =
    choice (IsSoundConnection limits (owing os f)) (is_for o.pid v.process) (pushed (reply_of o) v) v
    (λ is.
    let space = rw is at (k.last (live-for limits (owing (o ∷ os) f) v o.pid k (for-one o v.process is))) in
    kept-pushed limits (owing (o ∷ os) f) (owing os f) o v k (omega (arith, space)) (λ _. omega (arith, space)))
    (λ is. kept-less limits (owing (o ∷ os) f) (owing os f) v k (omega arith))

pub heard-kept : (limits : Limits) (f : Option ℕ → ℕ) (os : List PlainOutcome) (v : ConnectionView) → IsSoundConnection limits (owing os f) v
    → IsSoundConnection limits f (hears os v)
heard-kept limits f [] v k = kept-less limits (owing [] f) f v k (omega arith)
heard-kept limits f (o ∷ os) v k = heard-kept limits f os (put_for o v) (put-kept limits f o os v k)

-- nothing else of it has changed, and it keeps so much more
put-same : (o : PlainOutcome) (v : ConnectionView) → ((put_for o v).process ≡ v.process) × ((put_for o v).ended ≡ v.ended)
put-same o v =
    choice (λ (w : ConnectionView). (w.process ≡ v.process) × (w.ended ≡ v.ended)) (is_for o.pid v.process) (pushed (reply_of o) v) v
    (λ _. (refl, refl)) (λ _. (refl, refl))

pub heard-same : (os : List PlainOutcome) (v : ConnectionView) → ((hears os v).process ≡ v.process) × ((hears os v).ended ≡ v.ended)
heard-same [] v = (refl, refl)
heard-same (o ∷ os) v =
    let rest = heard-same os (put_for o v) in
    let first = put-same o v in (rest.0 ∙ first.0, rest.1 ∙ first.1)

length-put : (o : PlainOutcome) (v : ConnectionView)
    → length (kept (put_for o v).outbox) ≡ length (kept v.outbox) + (if is_for o.pid v.process then length (reply_bytes (reply_of o)) else 0)
length-put o v =
    both_choose (λ (w : ConnectionView) (n : ℕ). length (kept w.outbox) ≡ length (kept v.outbox) + n) (is_for o.pid v.process) (is_for o.pid v.process)
    (pushed (reply_of o) v) v (length (reply_bytes (reply_of o))) 0 refl (λ _. length-pushed (reply_of o) v) (λ _. omega arith)

pub length-heard : (os : List PlainOutcome) (v : ConnectionView) → length (kept (hears os v).outbox) ≡ length (kept v.outbox) + sent_to os v.process
length-heard [] v = omega arith
length-heard (o ∷ os) v = omega (arith, length-heard os (put_for o v), length-put o v, ap (sent_to os) (put-same o v).0)

-- ---- all connections

pub each-weaker : (P Q : ConnectionView → Type 0) (table : Table) → ((v : ConnectionView) → P v → Q v) → EachValue P table → EachValue Q table
each-weaker P Q [] does each = tt
each-weaker P Q (e ∷ es) does each = (does e.1 each.0, each-weaker P Q es does each.1)

-- the replies that are on their way have room in each connection
pub owing-have_space : (limits : Limits) (f : Option ℕ → ℕ) (os : List PlainOutcome) (table : Table) → ArePassed limits
    → All (λ (o : PlainOutcome). FitsBody limits o.body) os → EachValue (IsSoundConnection limits (owing os f)) table → HaveSpace os table
owing-have_space limits f [] table passed fits each = tt
owing-have_space limits f (o ∷ os) table passed fits each =
    let all : Option ℕ → ℕ = owing (o ∷ os) f in
    let P : PlainOutcome → Type 0 = λ p. FitsBody limits p.body in (
      fits-short limits o passed (All-head P o os fits),
      each-weaker (IsSoundConnection limits all) (HasSpaceIn o) table (put-space limits f o os) each,
      owing-have_space limits f os (seen_as (put_for o) table) passed (All-tail P o os fits)
          (each-seen (IsSoundConnection limits all) (IsSoundConnection limits all) (IsSoundConnection limits (owing os f)) table (put_for o) each each
          (λ v k _. put-kept limits f o os v k)),
    )

pub put-each : (limits : Limits) (f : Option ℕ → ℕ) (os : List PlainOutcome) (table : Table) → EachValue (IsSoundConnection limits (owing os f)) table
    → EachValue (IsSoundConnection limits f) (put_all os table)
put-each limits f os table each = search (rules, each-seen, heard-kept)

pub put-keys : (os : List PlainOutcome) (table : Table) → keys_of (put_all os table) ≡ keys_of table
put-keys os table = keys-map (hears os) table

pub put-processes : (os : List PlainOutcome) (table : Table) (conn : ℕ) → process_in (put_all os table) conn ≡ process_in table conn
put-processes os table conn = ap process_of (at-map (hears os) table conn) ∙ by_value (value_at nat_eq table conn)
  where
    by_value : (r : Option ConnectionView) → process_of (option_map (hears os) r) ≡ process_of r
    by_value None = refl
    by_value (Some v) = (heard-same os v).0

-- the replies to come reach the connections that one was put into
pub put-next : (o : PlainOutcome) (os : List PlainOutcome) (table : Table) → put_all os (seen_as (put_for o) table) ≡ put_all (o ∷ os) table
put-next o os [] = refl
put-next o os (e ∷ es) = ap (λ (t : Table). (e.0, hears (o ∷ os) e.1) ∷ t) (put-next o os es)

pub seen-same : {E : Type 0} (es : List (ℕ × E)) → seen_as (λ c. c) es ≡ es
seen-same [] = refl
seen-same {E} (e ∷ es) = ap (λ (t : List (ℕ × E)). e ∷ t) (seen-same es)

pub put-apart : (o : PlainOutcome) (table : Table) → AreApart table → AreApart (seen_as (put_for o) table)
put-apart o table apart conn other pid is too =
    apart conn other pid (sym (put-processes (o ∷ []) table conn) ∙ is) (sym (put-processes (o ∷ []) table other) ∙ too)

pub put-others : (os : List PlainOutcome) (table : Table) → LeavesOthers table (put_all os table)
put-others os table conn v is none = at-map (hears os) table conn ∙ ap (option_map (hears os)) is ∙ ap Some (heard-none view_endpoint 0 os v none)

-- no process is owed more than the most
owed_to-most : (limits : Limits) (s : State) (p : Option ℕ) → IsSound limits s → owed_to limits s p ≤ most_owed limits
owed_to-most limits s None sound = omega arith
owed_to-most limits s (Some pid) sound = owed-most limits s pid sound

-- ---- an event that no connection's process asks by

module _ (limits : Limits) (s : State) (e : PlainEvent) (sound : IsSound limits s) where
  -- what such a process is sent, and owed then, it was owed
  pub quiet-less : (p : Option ℕ) → ((pid : ℕ) → p ≡ Some pid → (is_process s pid ≡ true) × (asks s e pid ≡ false))
      → owing (step limits s e).outcomes (owed_to limits (step limits s e).state) p ≤ owed_to limits s p
  quiet-less None none = omega (arith, sent-none (step limits s e).outcomes)
  quiet-less (Some pid) none =
      let is = none pid refl in
      omega (arith, quiet-owes limits s e pid sound is.0 is.1, sent-some (step limits s e).outcomes pid)

  -- so its connection has room for what it is sent, and is owed then
  pub quiet-kept : (v : ConnectionView) → IsSoundConnection limits (owed_to limits s) v
      → ((pid : ℕ) → v.process ≡ Some pid → (is_process s pid ≡ true) × (asks s e pid ≡ false))
      → IsSoundConnection limits (owing (step limits s e).outcomes (owed_to limits (step limits s e).state)) v
  quiet-kept v k none = kept-less limits (owed_to limits s) _ v k (quiet-less v.process none)

-- ---- the hub

-- each connection has the process that it had, or none, and these are connected
own-less : (s s' : State) (table table' : Table) → AreOwn s table
    → ((conn pid : ℕ) → process_in table' conn ≡ Some pid → (process_in table conn ≡ Some pid) × (is_process s' pid ≡ true)) → AreOwn s' table'
own-less s s' table table' own less =
    record {
      connected = λ conn pid is. (less conn pid is).1;
      one = λ conn other pid is too. own.one conn other pid (less conn pid is).0 (less other pid too).0;
    }

-- other connections of the same hub
pub table-invariant : (h : HubView) (table : Table) → HubInvariant h
    → ((conn pid : ℕ) → process_in table conn ≡ Some pid → process_in h.connections conn ≡ Some pid) → EachValue (IsSoundIn h) table
    → IsRising 0 (keys_of table) (2 ^ 32) → HubInvariant (record h { connections = table })
table-invariant h table inv less each rising =
    record {
      own = own-less h.state h.state h.connections table inv.own (λ conn pid is. (less conn pid is, inv.own.connected conn pid (less conn pid is)));
      each = each;
      rising = rising;
    }

-- replies are put into the outboxes of connections that have room for them, and for what is owed then
pub delivery-goes-on : (mid new : HubView) (os : List PlainOutcome) → AreOwn new.state mid.connections
    → EachValue (IsSoundConnection mid.limits (owing os (owed_to mid.limits new.state))) mid.connections → IsRising 0 (keys_of mid.connections) (2 ^ 32)
    → new.limits ≡ mid.limits → new.connections ≡ put_all os mid.connections → Continues mid new
delivery-goes-on mid new os own each rising same rows =
    let keys : keys_of new.connections ≡ keys_of mid.connections = ap keys_of rows ∙ put-keys os mid.connections in
    let processes : (conn : ℕ) → process_in new.connections conn ≡ process_in mid.connections conn =
    λ conn. ap (λ (t : Table). process_in t conn) rows ∙ put-processes os mid.connections conn in
    record {
      limits = same;
      numbers = keys;
      invariant = record {
        own = own-less new.state new.state mid.connections new.connections own
            (λ conn pid is. let was = sym (processes conn) ∙ is in (was, own.connected conn pid was));
        each = rw same (rw rows (put-each mid.limits (owed_to mid.limits new.state) os mid.connections each));
        rising = rw keys rising;
      };
    }

-- an event by which nobody asks
module _ (old : HubView) (e : PlainEvent) (sound : IsSound old.limits old.state) (inv : HubInvariant old)
    (none : (pid : ℕ) → asks old.state e pid ≡ false) where
  abbrev sent : List PlainOutcome
  sent = (step old.limits old.state e).outcomes

  abbrev after : State
  after = (step old.limits old.state e).state

  quiet-each : EachValue (IsSoundConnection old.limits (owing sent (owed_to old.limits after))) old.connections
  quiet-each = each-by_key (IsSoundConnection old.limits _) 0 old.connections (2 ^ 32) inv.rising (λ k v is.
      quiet-kept old.limits old.state e sound v (each-at (IsSoundIn old) old.connections k v inv.each is)
      (λ pid some. (inv.own.connected k pid (ap process_of is ∙ some), none pid)))

  pub quiet-space : ArePassed old.limits → HaveSpace sent old.connections
  quiet-space passed = owing-have_space old.limits (owed_to old.limits after) sent old.connections passed (step-fits old.limits old.state e sound) quiet-each

  -- a connection that kept a little has room for what its process is owed then, and for a request
  quiet-spacious : (v : ConnectionView) → IsSoundIn old v → ((pid : ℕ) → v.process ≡ Some pid → is_process old.state pid ≡ true)
      → length (kept v.outbox) ≤ ahead → v.ended ≡ false
      → owed_to old.limits after v.process + longest_reply old.limits + last_frames ≤ (hears sent v).outbox.free
  quiet-spacious v k is few live =
      let more : Option ℕ → ℕ = λ p. owed_to old.limits after p + longest_reply old.limits in
      let less = quiet-less old.limits old.state e sound v.process (λ pid some. (is pid some, none pid)) in
      let most = owed_to-most old.limits old.state v.process sound in
      let same = heard-same sent v in
      let space : IsSoundConnection old.limits (owing sent more) v =
      kept-owing old.limits (owed_to old.limits old.state) (owing sent more) v v.process k live
      (omega (arith, k.size, few, less, most)) in
      omega (arith, (heard-kept old.limits more sent v space).last (same.1 ∙ live), ap more same.0)

  module _ (new : HubView) (is : Happened old new e) where
    pub quiet-goes-on : ((conn pid : ℕ) → process_in old.connections conn ≡ Some pid → is_process after pid ≡ true) → Continues old new
    quiet-goes-on stay =
        delivery-goes-on old new sent
        (rw is.becomes.state (own-less old.state after old.connections old.connections inv.own (λ conn pid mine. (mine, stay conn pid mine))))
        (rw is.becomes.state quiet-each) inv.rising is.becomes.limits is.becomes.rows

    pub quiet-passes : HasPassed old new
    quiet-passes =
        record {
          ended = λ conn over.
              subst (λ (r : Option ConnectionView). goes_on r ≡ false) (sym (at conn)) (still-over (value_at nat_eq old.connections conn) over);
          space = λ conn few.
              subst (HasSpaceAt new (longest_reply new.limits)) (sym (at conn)) (spacious conn (value_at nat_eq old.connections conn) refl few);
        }
      where
        at : (conn : ℕ) → value_at nat_eq new.connections conn ≡ option_map (hears sent) (value_at nat_eq old.connections conn)
        at conn = ap (λ (t : Table). value_at nat_eq t conn) is.becomes.rows ∙ at-map (hears sent) old.connections conn

        still-over : (r : Option ConnectionView) → goes_on r ≡ false → goes_on (option_map (hears sent) r) ≡ false
        still-over None over = over
        still-over (Some v) over = ap not (heard-same sent v).1 ∙ over

        spacious : (conn : ℕ) (r : Option ConnectionView) → value_at nat_eq old.connections conn ≡ r → KeepsFew r
            → HasSpaceAt new (longest_reply new.limits) (option_map (hears sent) r)
        spacious conn None here few = tt
        spacious conn (Some v) here few = λ live.
            let space = quiet-spacious v (each-at (IsSoundIn old) old.connections conn v inv.each here)
            (λ pid some. inv.own.connected conn pid (ap process_of here ∙ some)) few (sym (heard-same sent v).1 ∙ live) in
            rw is.becomes.limits (rw is.becomes.state (rw (heard-same sent v).0 space))

-- the machine took such a step, and the replies went where they go
pub quiet-happens : {D : Type 0} (medium : D → Medium) (old new : StoreView D) (before after : Table) (e : PlainEvent) → Steps medium old new e
    → after ≡ put_all new.machine.outcomes before → Happened (hub_view old.machine before) (hub_view new.machine after) e
quiet-happens medium old new before after e s rows =
    let sent : after ≡ put_all (step old.machine.limits old.machine.state e).outcomes before = rows ∙ ap (λ os. put_all os before) s.outcomes in
    record { passed = s.passed; sound = s.sound; becomes = record { limits = s.limits; state = s.state; rows = sent } }

-- ---- one connection of the hub is changed

abbrev pub with_connection : HubView → ℕ → ConnectionView → HubView
with_connection h conn v = record h { connections = with_value nat_eq h.connections conn v }

-- whose process a process is after it
pub process-with : (table : Table) (conn k pid : ℕ) (was v : ConnectionView) → value_at nat_eq table conn ≡ Some was
    → process_in (with_value nat_eq table conn v) k ≡ Some pid → ((k ≡ conn) × (v.process ≡ Some pid)) ⊎ ((k ≢ conn) × (process_in table k ≡ Some pid))
process-with table conn k pid was v found is =
    elim (cases_eq k conn) [
      | inl same ↦ inl (same, sym (ap process_of (at-with table conn v was found)) ∙ rw same at is)
      | inr apart ↦ inr (apart, sym (ap process_of (other-with table conn k v apart)) ∙ is)
    ]

-- it has the process that it had, or none
pub change-invariant : (h : HubView) (conn : ℕ) (was v : ConnectionView) → HubInvariant h → value_at nat_eq h.connections conn ≡ Some was
    → ((pid : ℕ) → v.process ≡ Some pid → was.process ≡ Some pid) → IsSoundIn h v → HubInvariant (with_connection h conn v)
change-invariant h conn was v inv found less kept =
    table-invariant h (with_value nat_eq h.connections conn v) inv
    (λ k pid is. elim (process-with h.connections conn k pid was v found is) [
      | inl here ↦ ap (process_in h.connections) here.0 ∙ ap process_of found ∙ less pid here.1
      | inr there ↦ there.1
    ])
    (each-with (IsSoundIn h) h.connections conn v inv.each kept) (rw (keys_of-with_value nat_eq h.connections conn v) inv.rising)

-- a connection is changed if it is there
pub by-changed : (P : Table → Type 0) (see : ConnectionView → ConnectionView) (conn : ℕ) (table : Table) → (value_at nat_eq table conn ≡ None → P table)
    → ((v : ConnectionView) → value_at nat_eq table conn ≡ Some v → P (with_value nat_eq table conn (see v))) → P (changed see conn table)
by-changed P see conn table none some = by_value (value_at nat_eq table conn) none some
  where
    by_value : (r : Option ConnectionView) → (r ≡ None → P table) → ((v : ConnectionView) → r ≡ Some v → P (with_value nat_eq table conn (see v)))
        → P (elim r as (λ _. Table) [ None ↦ table | Some c ↦ with_value nat_eq table conn (see c) ])
    by_value None gone there = gone refl
    by_value (Some v) gone there = there v refl

pub changed-invariant : (h : HubView) (conn : ℕ) (see : ConnectionView → ConnectionView) → HubInvariant h
    → ((v : ConnectionView) → value_at nat_eq h.connections conn ≡ Some v → IsSoundIn h v
    → ((pid : ℕ) → (see v).process ≡ Some pid → v.process ≡ Some pid) × IsSoundIn h (see v))
    → HubInvariant (record h { connections = changed see conn h.connections })
changed-invariant h conn see inv kept =
    by-changed (λ (t : Table). HubInvariant (record h { connections = t })) see conn h.connections (λ _. inv) (λ v is.
    let k = kept v is (each-at (IsSoundIn h) h.connections conn v inv.each is) in change-invariant h conn v (see v) inv is k.0 k.1)

pub changed-keys : (see : ConnectionView → ConnectionView) (conn : ℕ) (table : Table) → keys_of (changed see conn table) ≡ keys_of table
changed-keys see conn table = search (rules, by-changed, keys_of-with_value)

pub at-changed : (see : ConnectionView → ConnectionView) (conn : ℕ) (table : Table)
    → value_at nat_eq (changed see conn table) conn ≡ option_map see (value_at nat_eq table conn)
at-changed see conn table = search (rules, at-with, by-changed)

-- a connection that goes on is there
pub live-at : (table : Table) (conn : ℕ) → is_open_in table conn ≡ true → (v : ConnectionView) × ((value_at nat_eq table conn ≡ Some v) × (v.ended ≡ false))
live-at table conn live = by_value (value_at nat_eq table conn) refl live
  where
    by_value : (r : Option ConnectionView) → value_at nat_eq table conn ≡ r → goes_on r ≡ true
        → (v : ConnectionView) × ((value_at nat_eq table conn ≡ Some v) × (v.ended ≡ false))
    by_value None is never = cc
    by_value (Some v) is live =
        (v, (is, elim (test_cases v.ended) [ inl over ↦ let never : false ≡ true = rw over at live in cc | inr open_still ↦ open_still ]))

-- one that has a reply more keeps a frame
pub pushed-frame : (engine : Machine) (table : Table) (conn : ℕ) (reply : PlainReply) (v : ConnectionView) → value_at nat_eq table conn ≡ Some v
    → HasNoFrame (hub_view engine (changed (pushed reply) conn table)) conn → ⊥
pushed-frame engine table conn reply v found none =
    pushed-some reply v (subst IsBare (at-changed (pushed reply) conn table ∙ ap (option_map (pushed reply)) found) none)

-- one that keeps none has room for a request
pub empty-space : (h : HubView) (conn : ℕ) → IsSound h.limits h.state → HubInvariant h → HasNoFrame h conn → HasSpaceFor h (longest_reply h.limits) conn
empty-space h conn sound inv = by_value (value_at nat_eq h.connections conn) refl
  where
    by_value : (r : Option ConnectionView) → value_at nat_eq h.connections conn ≡ r → IsBare r → HasSpaceAt h (longest_reply h.limits) r
    by_value None is none = tt
    by_value (Some v) is none = λ live.
        omega (arith, (each-at (IsSoundIn h) h.connections conn v inv.each is).size, ap length none, owed_to-most h.limits h.state v.process sound)

-- nobody has the process that it had if it has none now
pub change-nobodys : (h : HubView) (conn : ℕ) (was v : ConnectionView) → HubInvariant h → value_at nat_eq h.connections conn ≡ Some was
    → v.process ≡ None → IsNobodys (with_value nat_eq h.connections conn v) was.process
change-nobodys h conn was v inv found none k pid mine is =
    elim (process-with h.connections conn k pid was v found is) [
      | inl here ↦ let never : None ≡ Some pid = sym none ∙ here.1 in cc
      | inr there ↦ there.0 (inv.own.one k conn pid there.1 (ap process_of found ∙ mine))
    ]

-- the process of a connection is connected
pub connected-in : (h : HubView) (conn : ℕ) → HubInvariant h → IsConnected h.state (process_in h.connections conn)
connected-in h conn inv = by_process (process_in h.connections conn) refl
  where
    by_process : (p : Option ℕ) → process_in h.connections conn ≡ p → IsConnected h.state p
    by_process None mine = tt
    by_process (Some pid) mine = inv.own.connected conn pid mine
