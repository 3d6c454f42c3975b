-- A connection has received bytes, and a whole frame was taken off it: what the hub is then, and what is done next.
use Rattle.std.proofs.Common.{◌≡◌, ◌⊎◌, ℕ, ◌<◌, ◌≤◌, max, Bool, false, true, List, [], ◌∷◌, ◌++◌, length, Option, Some, refl, sym, ap, ◌∙◌, subst}
use Rattle.std.proofs.Common.{arith, inl, inr}
use Rattle.std.specs.Prelude.{nat_eq, option_map, not, IfSome}
use Rattle.std.proofs.lemmas.List.{drop_all, length-append}
use Rattle.ipc_base.specs.Table.{value_at, with_value, keys_of}
use Rattle.ipc_base.specs.declared.errno.Errno.TheVariants.{ENOMEM}
use Rattle.ipc_limits.specs.declared.limits.Limits.{Limits}
use Rattle.ipc_base.proofs.CallerLemmas.{at-map, at-with, each-at, paired-at}
use Rattle.ipc_wire.specs.Stream.{PlainFrame, first}
use Rattle.ipc_wire.specs.Stream.PlainFrame.{More, Whole, Fault}
use Rattle.ipc_wire.proofs.CallerLemmas.{first_short, length-reply_bytes}
use Rattle.ipc_disk.specs.Medium.{Medium}
use Rattle.ipc_image.specs.Format.{longest_record}
use Rattle.ipc_store.specs.Batch.{exit_record}
use Rattle.ipc_store.specs.View.{StoreView, IsReadyFor}
use Rattle.ipc_state.specs.State.{State}
use Rattle.ipc_engine.specs.Event.{PlainEvent, PlainOutcome, Tick, moment_of}
use Rattle.ipc_engine.specs.Sound.{IsSound, NoneIsDue}
use Rattle.ipc_engine.specs.Step.{Step, silent, step}
use Rattle.ipc_engine.specs.View.{reply_of}
use Rattle.ipc_hub.specs.declared.serving.FrameOutcome.{FrameOutcome}
use Rattle.ipc_hub.specs.declared.serving.FrameOutcome.TheVariants as asks
use Rattle.ipc_hub.specs.Hub.{Hub, accepted, with_client, refusal, last_reply, break_off, on_event}
use Rattle.ipc_hub.specs.Clients.{client_endpoint}
use Rattle.ipc_hub.specs.View.{ConnectionView, HubView, HasNoFrame, kept as outbox_kept}
use Rattle.ipc_hub.specs.Relations.Rows.{Becomes, Table, hub_of, hub_view, stored_view, changed, process_in, is_open_in}
use Rattle.ipc_hub.specs.Relations.Delivery.{closed, last_frame, owed_to, unanswered_at, unanswered_of, pushed}
use Rattle.ipc_hub.specs.Relations.Delivery.{put_all, hears, answered as answered-by, with_answer, HasSpaceToAnswer}
use Rattle.ipc_hub.specs.Relations.Delivery.{view_endpoint}
use Rattle.ipc_hub.specs.Relations.Invariant.{AreApart, IsSoundConnection, IsSoundIn, Continues}
use Rattle.ipc_hub.specs.Relations.Matches.{Adds, Awaits, ClientMatches, Follows, Pends, TakesIn}
use Rattle.ipc_hub.specs.Relations.Requests.{HasAccepted, IsReady, IsRequest, Steps, ComesTo, exit_of, taken_off, Received, Took, Waits}
use Rattle.ipc_hub.proofs.Rows.{process_of}
use Rattle.ipc_hub.proofs.Deliveries.{Matching, Since, matching-kept, matching-push, as-related, as-matches, all-pass, under-own}
use Rattle.ipc_hub.proofs.Keeping.{at-changed, change-invariant, changed-keys, heard-same, pushed-frame, kept-pushed}
use Rattle.ipc_hub.proofs.Kept.{comes_of, frame-kept}
use Rattle.ipc_hub.proofs.Ending.{exit-few, exit-some, leave-adds}
use Rattle.ipc_hub.proofs.Requests.{Asks, made-at, request-asks, waits-served}
use Rattle.ipc_hub.proofs.Answering.{answer-space, answer-apart, answer-goes-on, told-none}
use Rattle.ipc_hub.proofs.Taking.{Law, IsLast, taken, pends-adds, same-adds, same-pends}

-- ---- bytes come, and a whole frame is taken off

other-input : (limits : Limits) (owed : Option ℕ → ℕ) (v : ConnectionView) (xs : List ℕ) → IsSoundConnection limits owed v → first xs ≡ More
    → IsSoundConnection limits owed (record v { input = xs })
other-input limits owed v xs k more = record { input = more; last = k.last; over = k.over; spare = k.spare; size = k.size }

-- whether or not a frame was whole, what is left is none, and the process is the one that it had
pub still-kept : {D : Type 0} (medium : D → Medium) (old new : StoreView D) (limits : Limits) (owed : Option ℕ → ℕ) (v : ConnectionView) (bytes : List ℕ)
    (moment : ℕ) (asked : FrameOutcome) → IsSoundConnection limits owed v → ComesTo medium old new v.process (first bytes) moment asked
    → IsSoundConnection limits owed (taken_off asked (record v { input = bytes })) × ((taken_off asked (record v { input = bytes })).process ≡ v.process)
still-kept medium old new limits owed v bytes moment asks.More k comes = (other-input limits owed v bytes k comes.0, refl)
still-kept medium old new limits owed v bytes moment asks.Served k comes = (other-input limits owed v [] k (first_short [] (omega arith)), refl)
still-kept medium old new limits owed v bytes moment (asks.NoMemory n) k comes = (other-input limits owed v [] k (first_short [] (omega arith)), refl)
still-kept medium old new limits owed v bytes moment (asks.Broken n) k comes = (other-input limits owed v [] k (first_short [] (omega arith)), refl)

-- a connection of which no bytes are kept
abbrev pub read_out : ConnectionView → ConnectionView
read_out c = record c { input = [] }

pub none-of : (xs : List ℕ) → length xs ≡ 0 → xs ≡ []
none-of [] none = refl
none-of (x ∷ xs) none = absurd (omega (arith, none))

-- the same hub goes on with other connections
pub goes-further : (old mid new : HubView) → mid.limits ≡ old.limits → keys_of mid.connections ≡ keys_of old.connections → Continues mid new → Continues old new
goes-further old mid new limits numbers g = record { limits = g.limits ∙ limits; numbers = g.numbers ∙ numbers; invariant = g.invariant }

module _ {D : Type 0} {medium : D → Medium} {old new : StoreView D} {before after : Table} {conn : ℕ} {next : List ℕ} {moment : ℕ}
    {asked : FrameOutcome} (r : Received medium old new before after conn next moment asked) where
  -- the connection as it is now
  abbrev now_there : ConnectionView
  now_there = taken_off asked (record (r.was) { input = r.was.input ++ next })

  found' : value_at nat_eq after conn ≡ Some now_there
  found' = ap (λ (t : Table). value_at nat_eq t conn) r.table ∙ at-with before conn now_there r.was r.found

  -- ---- what is done is what the definitions say, over connections and so over clients

  abbrev was-hub : Hub ConnectionView
  was-hub = hub_of (hub_view old.machine before)

  -- a call of the process waits
  abbrev Had : Type 0
  Had = Awaits (hub_view old.machine before) conn moment

  -- A store and connections are what the definitions make of them, and the events wait. If a call of the process waits, memory is
  -- not refused, and an event comes, or the call waits on.
  pub record Leads (refused : Bool) (store : StoreView D) (last : Table) (made : Hub ConnectionView) : Type 0 where
    pub becomes : Becomes (hub_view old.machine before) (hub_view store.machine last) made
    pub pends : Pends medium old made.events store
    pub never : refused ≡ true → Had → ⊥
    pub on : Had → (0 < length made.events) ⊎ Awaits (hub_view store.machine last) conn moment

  pub waited : Had → 0 < unanswered_of old.machine.state r.was.process
  waited had = subst (λ (p : Option ℕ). 0 < unanswered_of old.machine.state p) (ap process_of r.found) had.waits

  pub frame-taken : (f : PlainFrame) (refused : Bool) → first (r.was.input ++ next) ≡ f → (store : StoreView D) (last : Table)
      → Leads refused store last (comes_of view_endpoint old.machine.limits was-hub conn moment r.was next f refused)
      → TakesIn medium (stored_view old before) (stored_view store last) conn next moment
  frame-taken f refused is store last leads limits confirmed h ahead =
      let m = ahead.matches in
      let p = paired-at (ClientMatches confirmed (accepted h)) before h.clients conn r.was m.clients r.found in
      let front : first (p.0.input ++ next) ≡ f = ap (λ (i : List ℕ). first (i ++ next)) (sym p.1.1.input) ∙ is in
      let last_of = subst (λ (i : List ℕ). (g : PlainFrame) → first (i ++ next) ≡ g → IsLast (i ++ next) g) p.1.1.input ends in
      let made : Hub ConnectionView = comes_of view_endpoint old.machine.limits was-hub conn moment r.was next f refused in
      let both = frame-kept view_endpoint client_endpoint (Matching confirmed) (matching-kept confirmed) (Since h.events) old.machine.limits conn moment
      r.was p.0 next (sym p.1.1.ended ∙ r.live)
      (all-pass old.machine.limits confirmed (hub_view old.machine before) h r.passed (rw (sym m.state) r.sound) m.known)
      refused (λ es may serial error which. matching-push confirmed es (refusal serial error)
      (elim ahead.later [
        | inl later ↦ omega (arith, later, may.known)
        | inr had ↦ elim may.cause [
          | inl more ↦ omega (arith, m.known, more)
          | inr (inl nack) ↦ absurd (leads.never nack had)
          | inr (inr none) ↦ absurd (omega (arith, rw (p.1.1.process ∙ none) at (waited had)))
        ]
      ]) (omega arith))
      (as-related m) p.1.1 f in (
        refused ∷ [],
        subst (Follows medium limits confirmed (stored_view old before) (stored_view store last) conn moment h)
            (sym (taken limits h conn moment p.0 next p.1.0 (sym p.1.1.ended ∙ r.live) f refused front (last_of f front)))
            (rw (sym m.same) (record {
              ahead = record {
                matches = as-matches h (under-own m) leads.becomes both;
                later = elim ahead.later [
                  | inl later ↦ inl (omega (arith, later, ap length both.known, length-append h.events made.events))
                  | inr had ↦ elim (leads.on had) [
                    | inl some ↦ inl (omega (arith, m.known, some, ap length both.known, length-append h.events made.events))
                    | inr waits ↦ inr waits
                  ]
                ];
              };
              accepts = record { events = made.events; adds = both.known; pends = leads.pends };
            })),
      )
    where
      ends : (g : PlainFrame) → first (r.was.input ++ next) ≡ g → IsLast (r.was.input ++ next) g
      ends More at = tt
      ends (Fault serial) at = tt
      ends (Whole used request) at = drop_all used (r.was.input ++ next) (omega (arith, r.last used request at))

  pub asked-taken : {made : Option PlainEvent} (a : IsRequest (first (r.was.input ++ next)) r.was.process moment made) (refused : Bool) (store : StoreView D)
      (last : Table) → Leads refused store last (on_event view_endpoint old.machine.limits (with_client was-hub conn (read_out r.was)) conn
      (read_out r.was) a.request.serial moment refused made) → TakesIn medium (stored_view old before) (stored_view store last) conn next moment
  asked-taken a refused store last leads =
      frame-taken (Whole a.used a.request) refused a.whole store last
      (subst (λ (m : Option PlainEvent). Leads refused store last (on_event view_endpoint old.machine.limits
      (with_client was-hub conn (read_out r.was)) conn (read_out r.was) a.request.serial moment refused m)) (sym a.event) leads)

-- ---- no whole frame yet

module _ {D : Type 0} {medium : D → Medium} {old new : StoreView D} {before after : Table} {conn : ℕ} {next : List ℕ} {moment : ℕ}
    (law : Law medium) (r : Received medium old new before after conn next moment asks.More) where
  same_waits : unanswered_at (hub_view old.machine before) conn ≡ unanswered_at (hub_view new.machine after) conn
  same_waits =
      ap (unanswered_of old.machine.state) (ap process_of r.found ∙ sym (ap process_of (found' r)))
      ∙ ap (λ (s : StoreView D). unanswered_of s.machine.state (process_in after conn)) (sym r.comes.1)

  pub more-took : Took medium old new before after conn next moment
  more-took =
      record {
        continues = rw r.comes.1 (record { limits = refl; numbers = r.numbers; invariant = r.still });
        bytes = frame-taken r More false r.comes.0 new after (record {
          becomes = record {
            limits = ap (λ (s : StoreView D). s.machine.limits) r.comes.1;
            state = ap (λ (s : StoreView D). s.machine.state) r.comes.1;
            rows = r.table;
          };
          pends = same-pends medium law old new r.comes.1;
          never = λ nack had. cc;
          on = λ had. inr (record {
            waits = omega (arith, had.waits, same_waits);
            come = omega (arith, had.come, ap (λ (s : StoreView D). s.machine.state.clock) r.comes.1);
          });
        });
        adds = same-adds old new r.comes.1;
        answers = λ none. record { empty = rw r.found (rw (found' r) at none); event = inl (r.comes.1, same_waits) };
      }

-- ---- a step of the machine

module _ {D : Type 0} {medium : D → Medium} {old new : StoreView D} {before after : Table} {conn : ℕ} {next : List ℕ} {moment : ℕ}
    (r : Received medium old new before after conn next moment asks.Served) where
  abbrev e : PlainEvent
  e = r.comes.0

  steps : Steps medium old new e
  steps = r.comes.1.1

  abbrev now : Step
  now = step old.machine.limits old.machine.state e

  made : Asks old.machine.limits old.machine.state r.was.process e
  made = request-asks old.machine.limits old.machine.state r.was.process r.comes.1.0.request moment e steps.sound r.comes.1.0.event

  abbrev mid : HubView
  mid = hub_view old.machine after

  pub served-space : HasSpaceToAnswer new.machine.outcomes conn after
  served-space =
      subst (λ (os : List PlainOutcome). HasSpaceToAnswer os conn after) (sym steps.outcomes)
      (answer-space mid conn (read_out r.was) e r.still (found' r) r.live r.space r.passed steps.sound made)

  pub served-apart : AreApart (with_answer new.machine.outcomes conn after)
  served-apart =
      subst (λ (os : List PlainOutcome). AreApart (with_answer os conn after)) (sym steps.outcomes)
      (answer-apart mid conn (read_out r.was) e r.still (found' r) r.live r.space r.passed steps.sound made)

  module _ (last : Table) (answered : last ≡ put_all new.machine.outcomes (with_answer new.machine.outcomes conn after))
      (step-clock : (limits : Limits) (s : State) (e : PlainEvent) → (step limits s e).state.clock ≡ max s.clock (moment_of e)) where
    told : last ≡ put_all now.outcomes (with_answer now.outcomes conn after)
    told = answered ∙ ap (λ (os : List PlainOutcome). put_all os (with_answer os conn after)) steps.outcomes

    rows : last ≡ put_all now.outcomes
        (with_value nat_eq (with_value nat_eq before conn (read_out r.was)) conn (answered-by (last_reply now.outcomes) (read_out r.was)))
    rows =
        told ∙ ap (put_all now.outcomes) (rw (found' r) refl)
        ∙ ap (λ (t : Table). put_all now.outcomes (with_value nat_eq t conn (answered-by (last_reply now.outcomes) (read_out r.was)))) r.table

    -- the connection that asked
    abbrev asked_one : ConnectionView
    asked_one = answered-by (last_reply now.outcomes) (read_out r.was)

    found-now : value_at nat_eq last conn ≡ Some (hears now.outcomes asked_one)
    found-now =
        ap (λ (t : Table). value_at nat_eq t conn) told ∙ at-map (hears now.outcomes) (with_answer now.outcomes conn after) conn
        ∙ ap (option_map (hears now.outcomes)) (at-changed (answered-by (last_reply now.outcomes)) conn after
        ∙ ap (option_map (answered-by (last_reply now.outcomes))) (found' r))

    -- if it keeps no frame, the reply is still to come
    served-waits : HasNoFrame (hub_view new.machine last) conn → Waits old new before last conn moment
    served-waits none =
        let waits = told-none mid conn (read_out r.was) e r.still (found' r) r.live r.space r.passed steps.sound made (rw found-now at none) in
        let process : process_in last conn ≡ asked_one.process = ap process_of found-now ∙ (heard-same now.outcomes asked_one).0 in
        let later = subst (λ (s : State). 0 < unanswered_of s asked_one.process) (sym steps.state) waits.2 in
        record {
          empty = rw r.found (none-of (outbox_kept r.was.outbox) waits.0);
          event = inr (
            ap (unanswered_of old.machine.state) (ap process_of r.found) ∙ waits.1,
            record {
              waits = subst (λ (p : Option ℕ). 0 < unanswered_of new.machine.state p) (sym process) later;
              come = omega (
                arith,
                step-clock old.machine.limits old.machine.state e,
                made-at r.was.process r.comes.1.0.request moment e r.comes.1.0.event,
                ap (λ (s : State). s.clock) steps.state,
              );
            },
            steps.left 1,
          );
        }

    pub served-took : Took medium old new before last conn next moment
    served-took =
        record {
          continues = goes-further (hub_view old.machine before) mid (hub_view new.machine last) refl r.numbers
              (answer-goes-on mid conn (read_out r.was) e r.still (found' r) r.live r.space r.passed steps.sound made
              (hub_view new.machine last) steps.limits steps.state told);
          bytes = asked-taken r r.comes.1.0 false new last (record {
            becomes = record { limits = steps.limits; state = steps.state; rows = rows };
            pends = steps.pends;
            never = λ nack had. cc;
            on = λ had. inl (omega arith);
          });
          adds = pends-adds 1 steps.pends (omega arith);
          answers = served-waits;
        }

-- ---- a want of memory

module _ {D : Type 0} {medium : D → Medium} {old new : StoreView D} {before after : Table} {conn : ℕ} {next : List ℕ}
    {moment serial : ℕ} (law : Law medium) (r : Received medium old new before after conn next moment (asks.NoMemory serial)) where
  abbrev nack : ConnectionView → ConnectionView
  nack = pushed (reply_of (refusal serial ENOMEM))

  pub refused-space : IfSome (value_at nat_eq after conn) (λ c. last_frame ≤ c.outbox.free)
  refused-space = rw (found' r) (omega (arith, r.space))

  -- no call of the process waits, by what the laws of a step say
  pub none-waits : ((limits : Limits) (s : State) (moment : ℕ) → NoneIsDue s → moment ≤ s.clock → step limits s (Tick moment) ≡ silent s)
      → ((limits : Limits) (s : State) → IsSound limits s → NoneIsDue s) → Had r → ⊥
  none-waits late-tick sound-early had =
      let s = old.machine.state in
      let late = late-tick old.machine.limits s moment (sound-early old.machine.limits s r.sound) had.come in
      let never : true ≡ false = sym r.comes.takes
      ∙ waits-served old.machine.limits s r.was.process r.comes.made.request moment r.comes.event late (waited r had) r.comes.made.event in
      cc

  pub refused-took : (Had r → ⊥) → Took medium old new before (changed nack conn after) conn next moment
  refused-took none =
      let long = length-reply_bytes (reply_of (refusal serial ENOMEM)) in
      let put : changed nack conn after ≡ with_value nat_eq after conn (nack (read_out r.was)) = rw (found' r) refl in
      let owes : Option ℕ → ℕ = owed_to old.machine.limits old.machine.state in
      record {
        continues = rw r.comes.same (record {
          limits = refl;
          numbers = changed-keys nack conn after ∙ r.numbers;
          invariant = rw put (change-invariant (hub_view old.machine after) conn (read_out r.was) (nack (read_out r.was)) r.still (found' r) (λ pid mine. mine)
              (kept-pushed old.machine.limits owes owes (refusal serial ENOMEM) (read_out r.was)
              (each-at (IsSoundIn (hub_view old.machine after)) after conn (read_out r.was) r.still.each (found' r)) (omega (arith, r.space, long))
              (λ _. omega (arith, r.space, long))));
        });
        bytes = asked-taken r r.comes.made true new (changed nack conn after) (rw r.comes.takes (record {
          becomes = record {
            limits = ap (λ (s : StoreView D). s.machine.limits) r.comes.same;
            state = ap (λ (s : StoreView D). s.machine.state) r.comes.same;
            rows = put ∙ ap (λ (t : Table). with_value nat_eq t conn (nack (read_out r.was))) r.table
                ∙ ap (λ (n : ℕ). with_value nat_eq (with_value nat_eq before conn (read_out r.was)) conn
                (pushed (reply_of (refusal n ENOMEM)) (read_out r.was)))
                (sym r.comes.serial);
          };
          pends = same-pends medium law old new r.comes.same;
          never = λ nack had. none had;
          on = λ had. absurd (none had);
        }));
        adds = same-adds old new r.comes.same;
        answers = λ none. absurd (pushed-frame new.machine after conn (reply_of (refusal serial ENOMEM)) (read_out r.was) (found' r) none);
      }

-- ---- a fault of the frames

module _ {D : Type 0} {medium : D → Medium} {old new : StoreView D} {before after : Table} {conn : ℕ} {next : List ℕ}
    {moment serial : ℕ} (r : Received medium old new before after conn next moment (asks.Broken serial)) where
  pub broken-live : is_open_in after conn ≡ true
  broken-live = rw (found' r) (ap not r.live)

  -- the exit of its process has room
  pub broken-ready : IsReadyFor old longest_record 1 → IsReady (stored_view new after) exit_record 1
  broken-ready ready = rw r.comes.0 (record { invariant = r.still; events = (omega (arith, ready.0), ready.1) })

  pub broken-took : (store : StoreView D) (last : Table)
      → HasAccepted medium (stored_view new after) (stored_view store last) (exit_of (process_in after conn) moment)
      → ((c : ConnectionView) → value_at nat_eq after conn ≡ Some c → Becomes (hub_view new.machine after) (hub_view store.machine last)
      (break_off view_endpoint new.machine.limits (hub_of (hub_view new.machine after)) conn c serial moment))
      → (HasNoFrame (hub_view store.machine last) conn → ⊥)
      → Took medium old store before last conn next moment
  broken-took store last went ends some =
      let is = ends (read_out r.was) (found' r) in
      let now : ConnectionView = read_out r.was in
      let gone = leave-adds view_endpoint old.machine.limits (with_client (record (was-hub r) { clients = after }) conn (closed now)) r.was.process moment in
      let from : Leads r false store last (break_off view_endpoint old.machine.limits (with_client (was-hub r) conn now) conn now serial moment) =
      subst (λ (t : Table). Leads r false store last (break_off view_endpoint old.machine.limits (record (was-hub r) { clients = t }) conn now serial moment))
      r.table (record {
        becomes = let b = rw r.comes.0 at is in record { limits = b.limits; state = b.state; rows = b.rows };
        pends = rw gone (rw (r.comes.0, ap process_of (found' r)) at went.pends);
        never = λ nack had. cc;
        on = λ had. inl (omega (arith, ap length gone, exit-some old.machine.state r.was.process moment (waited r had)));
      }) in
      record {
        continues = goes-further (hub_view old.machine before) (hub_view new.machine after) (hub_view store.machine last)
            (ap (λ (s : StoreView D). s.machine.limits) r.comes.0) r.numbers went.continues;
        bytes = elim r.comes.1 [
          | inl fault ↦ frame-taken r (Fault serial) false fault store last from
          | inr asked ↦ asked-taken r asked.0 false store last (rw asked.1 from)
        ];
        adds = subst (λ (s : StoreView D). Adds 1 s store) r.comes.0 (pends-adds 1 went.pends (exit-few (process_in after conn) moment));
        answers = λ none. absurd (some none);
      }
