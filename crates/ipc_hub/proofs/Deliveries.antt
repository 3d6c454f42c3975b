-- The frames of a client, all confirmed or some consumed, and replies that are delivered: the connections match the clients
-- of the definitions as they did before.
use Rattle.std.proofs.Common.{◌≡◌, ℕ, ◌+◌, ◌-◌, ◌<◌, ◌≤◌, Bool, true, false, List, [], ◌∷◌, ◌++◌}
use Rattle.std.proofs.Common.{length, drop, Option, Some, None, refl, sym, ap, subst, ◌∙◌, arith, inl, inr}
use Rattle.std.proofs.Common.{append_assoc, append-nil}
use Rattle.std.specs.Prelude.{nat_le, All, if◌then◌else◌}
use Rattle.std.proofs.Math.Seq.{drop-append-add}
use Rattle.std.proofs.lemmas.Grind.{flat_map-append}
use Rattle.std.proofs.lemmas.List.{length-append, drop_all, drop-append-le}
use Rattle.std.proofs.lemmas.List.Elements.{All-cons, All-head, All-nil, All-tail, All-weaker, All-push}
use Rattle.std.proofs.lemmas.Bool.Decides.{nat_tests}
use Rattle.ipc_limits.specs.Limits.{ArePassed}
use Rattle.ipc_base.specs.Table.{ArePaired}
use Rattle.ipc_limits.specs.declared.limits.Limits.{Limits}
use Rattle.ipc_base.proofs.CallerLemmas.{choice, test_cases}
use Rattle.ipc_wire.specs.Reply.{reply_bytes}
use Rattle.ipc_state.specs.Sound.{FitsBody}
use Rattle.ipc_state.specs.State.{State}
use Rattle.ipc_engine.specs.Event.{PlainEvent, PlainOutcome, Exit}
use Rattle.ipc_engine.specs.Sound.{IsSound}
use Rattle.ipc_engine.specs.Step.{step}
use Rattle.ipc_engine.specs.View.{reply_of}
use Rattle.ipc_engine.proofs.CallerLemmas.{step-fits}
use Rattle.ipc_hub.specs.Hub.{Hub, accepted, accept, leave}
use Rattle.ipc_hub.specs.Clients.{Frame, Client, Clients, client_endpoint, all_bytes, confirmed_bytes, confirmed_frames, consumed_from}
use Rattle.ipc_hub.specs.Relations.Delivery.{view_endpoint, IsShort}
use Rattle.ipc_hub.specs.Relations.Matches.{IsFrame, AreFrames, ClientMatches, HubMatches, Simulates}
use Rattle.ipc_hub.specs.Relations.Requests.{Happened, Left}
use Rattle.ipc_hub.specs.Relations.Rows.{Becomes, Table, hub_of}
use Rattle.ipc_hub.specs.View.{ConnectionView, HubView}
use Rattle.ipc_hub.proofs.Kept.{CanPush, IsKept, Passes, Related, accept-kept}
use Rattle.ipc_hub.proofs.Requests.{fits-short}

-- a frame is a reply, and belongs to one of so many events
abbrev pub IsOf : ℕ → Frame → Type 0
IsOf accepted f = (f.mark ≤ accepted) × IsFrame f.bytes

-- when all is confirmed all is seen
pub all-confirmed : (confirmed : ℕ) (frames : List Frame) → AreFrames confirmed frames → confirmed_bytes confirmed frames ≡ all_bytes frames
all-confirmed confirmed [] all = refl
all-confirmed confirmed (f ∷ fs) all =
    let le : f.mark ≤ confirmed = (All-head (IsOf confirmed) f fs all).0 in
    let known : nat_le f.mark confirmed ≡ true = grind (arith, nat_tests, le) in
    rw known (ap (λ (bytes : List ℕ). f.bytes ++ bytes) (all-confirmed confirmed fs (All-tail (IsOf confirmed) f fs all)))

-- those that are seen are no more than all
pub confirmed-short : (confirmed : ℕ) (frames : List Frame) → length (confirmed_bytes confirmed frames) ≤ length (all_bytes frames)
confirmed-short confirmed [] = omega arith
confirmed-short confirmed (f ∷ fs) =
    choice (λ (bytes : List ℕ). length bytes ≤ length (all_bytes (f ∷ fs))) (nat_le f.mark confirmed) (f.bytes ++ confirmed_bytes confirmed fs) []
    (λ _. omega (arith, confirmed-short confirmed fs, length-append f.bytes (confirmed_bytes confirmed fs), length-append f.bytes (all_bytes fs)))
    (λ _. omega arith)

-- what is left of bytes in front of others, when more than they are goes
past : (xs ys : List ℕ) (n : ℕ) → length xs ≤ n → drop (n - length xs) ys ≡ drop n (xs ++ ys)
past xs ys n le =
    let split : n ≡ length xs + (n - length xs) = omega arith in
    sym (ap (λ (k : ℕ). drop k (xs ++ ys)) split ∙ drop-append-add xs ys (n - length xs))

-- what is left of all bytes when some are consumed
pub consumed-bytes : (frames : List Frame) (n : ℕ) → drop (consumed_from frames n).1 (all_bytes (consumed_from frames n).0) ≡ drop n (all_bytes frames)
consumed-bytes [] n = sym (drop_all n [] (omega arith))
consumed-bytes (f ∷ fs) n =
    elim (test_cases (nat_le (length f.bytes) n)) [
      | inl t ↦ rw t (consumed-bytes fs (n - length f.bytes) ∙ past f.bytes (all_bytes fs) n (grind (arith, nat_tests, t)))
      | inr t ↦ rw t refl
    ]

module _ (confirmed : ℕ) where
  -- the same of those that are seen
  pub consumed-shown : (frames : List Frame) (n : ℕ) → All (λ f. 0 < length f.bytes) frames → n ≤ length (confirmed_bytes confirmed frames)
      → (drop (consumed_from frames n).1 (confirmed_bytes confirmed (consumed_from frames n).0) ≡ drop n (confirmed_bytes confirmed frames))
      × ((consumed_from frames n).1 ≤ length (confirmed_bytes confirmed (consumed_from frames n).0))
  consumed-shown [] n some le = let none : n ≡ 0 = omega (arith, le) in (rw none refl, omega arith)
  consumed-shown (f ∷ fs) n some le =
      elim (test_cases (nat_le (length f.bytes) n)) [
        | inr t ↦ rw t (refl, le)
        | inl t ↦
            let most : length f.bytes ≤ n = grind (arith, nat_tests, t) in
            elim (test_cases (nat_le f.mark confirmed)) [
              | inl m ↦
                  let le' : n ≤ length (f.bytes ++ confirmed_bytes confirmed fs) = rw m at le in
                  let done = consumed-shown fs (n - length f.bytes) (All-tail (λ (g : Frame). 0 < length g.bytes) f fs some)
                  (omega (arith, le', length-append f.bytes (confirmed_bytes confirmed fs))) in
                  rw t (rw m (done.0 ∙ past f.bytes (confirmed_bytes confirmed fs) n most, done.1))
              | inr m ↦ let le' : n ≤ 0 = rw m at le in absurd (omega (arith, le', most, All-head (λ (g : Frame). 0 < length g.bytes) f fs some))
            ]
      ]

-- what all frames are, those that are left are
pub consumed-all : (P : Frame → Type 0) (frames : List Frame) (n : ℕ) → All P frames → All P (consumed_from frames n).0
consumed-all P [] n all = all
consumed-all P (f ∷ fs) n all =
    choice (λ (r : List Frame × ℕ). All P r.0) (nat_le (length f.bytes) n) (consumed_from fs (n - length f.bytes)) (f ∷ fs, n)
    (λ _. consumed-all P fs (n - length f.bytes) (All-tail P f fs all)) (λ _. all)

-- what all frames are, those that are confirmed are too, and more
pub confirmed-weaker : (P Q : Frame → Type 0) (confirmed : ℕ) (frames : List Frame) → ((f : Frame) → f.mark ≤ confirmed → P f → Q f) → All P frames
    → All Q (confirmed_frames confirmed frames)
confirmed-weaker P Q confirmed [] does all = All-nil Q
confirmed-weaker P Q confirmed (f ∷ fs) does all =
    choice (All Q) (nat_le f.mark confirmed) (f ∷ confirmed_frames confirmed fs) []
    (λ t. All-cons Q f (confirmed_frames confirmed fs) (does f (grind (arith, nat_tests, t)) (All-head P f fs all))
    (confirmed-weaker P Q confirmed fs does (All-tail P f fs all))) (λ _. All-nil Q)

-- ---- what matches

-- other connections and clients of the same hub, of which more may be confirmed
pub table-matches : (limits : Limits) (confirmed now : ℕ) (old new : HubView) (h : Clients) (table : Table) (clients : List (ℕ × Client))
    → HubMatches limits confirmed old h → new.limits ≡ old.limits → new.state ≡ old.state → new.connections ≡ table → now ≤ accepted h
    → ArePaired (ClientMatches now (accepted h)) table clients → HubMatches limits now new (record h { clients = clients })
table-matches limits confirmed now old new h table clients m same state rows known paired =
    record { same = same ∙ m.same; state = state ∙ m.state; clients = rw rows paired; known = known }

-- a frame that is not confirmed is not seen
not_yet : (confirmed : ℕ) (frames : List Frame) (f : Frame) → confirmed < f.mark
    → confirmed_bytes confirmed (frames ++ f ∷ []) ≡ confirmed_bytes confirmed frames
not_yet confirmed [] f later =
    let above : nat_le f.mark confirmed ≡ false = grind (arith, nat_tests) in
    rw above refl
not_yet confirmed (g ∷ gs) f later = ap (λ (bytes : List ℕ). if nat_le g.mark confirmed then g.bytes ++ bytes else []) (not_yet confirmed gs f later)

pub frames-later : (accepted mark : ℕ) (frames : List Frame) → accepted ≤ mark → AreFrames accepted frames → AreFrames mark frames
frames-later accepted mark frames le = All-weaker (IsOf accepted) (IsOf mark) (λ f is. (omega (arith, is.0, le), is.1)) frames

-- ---- the hub over connections, and the hub over clients

-- after so many events
abbrev pub Matching : ℕ → List PlainEvent → ConnectionView → Client → Type 0
Matching confirmed es v c = ClientMatches confirmed (length es) v c

pub matching-kept : (confirmed : ℕ) → IsKept view_endpoint client_endpoint (Matching confirmed)
matching-kept confirmed =
    record {
      process = λ es v c m. m.process;
      input = λ es v c m. m.input;
      ended = λ es v c m. m.ended;
      joins = λ es v c pid live none m.
          let process : Some pid ≡ (if c.ended then None else Some pid) = ap (λ (b : Bool). if b then None else Some pid) (sym live) in
          record { process = process; input = m.input; ended = m.ended; kept = m.kept; visible = m.visible; seen = m.seen; frames = m.frames };
      keeps = λ es v c bytes m.
          record { process = m.process; input = refl; ended = m.ended; kept = m.kept; visible = m.visible; seen = m.seen; frames = m.frames };
      goes_on = λ c bytes. refl;
      ends = λ es v c m. record { process = refl; input = refl; ended = refl; kept = m.kept; visible = m.visible; seen = m.seen; frames = m.frames };
      later = λ es e v c m.
          let all = frames-later (length es) (length (es ++ e ∷ [])) c.frames (omega (arith, length-append es (e ∷ []))) m.frames in
          record { process = m.process; input = m.input; ended = m.ended; kept = m.kept; visible = m.visible; seen = m.seen; frames = all };
    }

-- a reply was put into the outbox: the client has a frame more
pub matching-push : (confirmed : ℕ) (es : List PlainEvent) (o : PlainOutcome) → confirmed < length es → IsShort o
    → CanPush view_endpoint client_endpoint (Matching confirmed) es o
matching-push confirmed es o later short mark v c mine m =
    let bytes : List ℕ = reply_bytes (reply_of o) in
    let f : Frame = record { mark = length es; bytes = bytes } in
    let here : c.consumed ≤ length (all_bytes c.frames) = omega (arith, m.seen, confirmed-short confirmed c.frames) in
    record {
      process = m.process;
      input = m.input;
      ended = m.ended;
      kept = sym (append_assoc v.outbox.visible v.outbox.waiting bytes)
          ∙ ap (λ (w : List ℕ). w ++ bytes) m.kept
          ∙ sym (drop-append-le c.consumed (all_bytes c.frames) bytes here)
          ∙ ap (λ (w : List ℕ). drop c.consumed (all_bytes c.frames ++ w)) (sym (append-nil bytes))
          ∙ ap (drop c.consumed) (sym (flat_map-append (λ (g : Frame). g.bytes) c.frames (f ∷ [])));
      visible = m.visible ∙ ap (drop c.consumed) (sym (not_yet confirmed c.frames f later));
      seen = omega (arith, m.seen, ap length (not_yet confirmed c.frames f later));
      frames = All-push (IsOf (length es)) c.frames f m.frames (omega arith, (reply_of o, (refl, short)));
    }

-- ---- hubs that match

-- the events are those at the beginning, and then those that came
abbrev pub Since : List PlainEvent → List PlainEvent → State → List PlainEvent → Type 0
Since base ds s es = es ≡ base ++ ds

abbrev pub AreMatched : ℕ → List PlainEvent → Hub ConnectionView → Clients → Type 0
AreMatched confirmed base = Related view_endpoint client_endpoint (Matching confirmed) (Since base)

pub as-related : {limits : Limits} {confirmed : ℕ} {v : HubView} {h : Clients} → HubMatches limits confirmed v h → AreMatched confirmed h.events (hub_of v) h
as-related {h} m = record { state = m.state; clients = m.clients; known = sym (append-nil h.events) }

pub as-matches : {limits : Limits} {confirmed : ℕ} {old new : HubView} {g : Hub ConnectionView} (h : Clients) {next : Clients}
    → HubMatches limits confirmed old h → Becomes old new g → AreMatched confirmed h.events g next → HubMatches limits confirmed new next
as-matches {g} h m b r =
    record {
      same = b.limits ∙ m.same;
      state = b.state ∙ r.state;
      clients = rw b.rows r.clients;
      known = omega (arith, m.known, ap length r.known, length-append h.events g.events);
    }

-- under the limits that the code's hub has
pub under-own : {limits : Limits} {confirmed : ℕ} {v : HubView} {h : Clients} → HubMatches limits confirmed v h → HubMatches v.limits confirmed v h
under-own m = record { same = refl; state = m.state; clients = m.clients; known = m.known }

-- any event passes in a sound state: its replies are short
pub all-pass : (limits : Limits) (confirmed : ℕ) (v : HubView) (h : Clients) → ArePassed limits → IsSound limits h.state → confirmed ≤ accepted h
    → (e : PlainEvent) → Passes view_endpoint client_endpoint (Matching confirmed) (matching-kept confirmed) (Since h.events) limits (hub_of v) h e
all-pass limits confirmed v h passed sound known e = (
  refl,
  All-weaker (λ (o : PlainOutcome). FitsBody limits o.body) (CanPush view_endpoint client_endpoint (Matching confirmed) (h.events ++ e ∷ []))
      (λ o fits. matching-push confirmed (h.events ++ e ∷ []) o (omega (arith, known, length-append h.events (e ∷ []))) (fits-short limits o passed fits))
      (step limits h.state e).outcomes (step-fits limits h.state e sound),
)

-- an event that has come is accepted
pub happened-matches : (limits : Limits) (confirmed : ℕ) (old new : HubView) (e : PlainEvent) → Happened old new e → (h : Clients)
    → HubMatches limits confirmed old h → HubMatches limits confirmed new (accept client_endpoint limits h e)
happened-matches limits confirmed old new e is h m =
    rw (sym m.same) (as-matches h (under-own m) is.becomes
    (accept-kept view_endpoint client_endpoint (Matching confirmed) (matching-kept confirmed) (Since h.events) old.limits e
    (all-pass old.limits confirmed old h is.passed (rw (sym m.state) is.sound) m.known e) (as-related m)))

-- a process that has left leaves
pub left-matches : (old new : HubView) (process : Option ℕ) (moment : ℕ) → Left old new process moment
    → Simulates old new (λ limits h. leave client_endpoint limits h process moment)
left-matches old new None moment same limits confirmed h m = subst (λ (v : HubView). HubMatches limits confirmed v h) (sym same) m
left-matches old new (Some pid) moment is limits confirmed h m = happened-matches limits confirmed old new (Exit pid moment) is h m
