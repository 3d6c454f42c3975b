-- Lives of the server: what each leaves, and the history that the machine has after all of them.
use Rattle.std.proofs.Common.{◌≡◌, ℕ, ◌≤◌, List, [], ◌∷◌, ◌++◌, length, drop, Some, None, inl, inr, refl, sym, ap, subst, ◌∙◌, arith}
use Rattle.std.proofs.Common.{append-nil, append_assoc}
use Rattle.std.specs.Prelude.{All, nat_le, Option}
use Rattle.std.proofs.lemmas.List.{length-append, length-drop, append_cancel_left}
use Rattle.std.proofs.lemmas.List.Elements.{All-nil, All-cons, All-append, All-head, All-tail, All-take, All-map, All-weaker}
use Rattle.std.proofs.lemmas.Bool.Decides.{nat_tests}
use Rattle.ipc_limits.specs.declared.limits.Limits.{Limits}
use Rattle.ipc_base.proofs.CallerLemmas.{each-at, test_cases}
use Rattle.ipc_disk.specs.Medium.{Image, Medium}
use Rattle.ipc_state.specs.State.{State, restart}
use Rattle.ipc_engine.proofs.CallerLemmas.{restart-is}
use Rattle.ipc_engine.specs.Event.{PlainEvent, Restart}
use Rattle.ipc_store.specs.Histories.{History, Past, acknowledged, accepted, grown, past_of, state_after, reopened, Keeps, Takes, OpensOn}
use Rattle.ipc_store.specs.Lives.{IsLeft, StoppedOpens, Rests, Found}
use Rattle.ipc_store.specs.Lives.StoppedOpens.{None as no_open}
use Rattle.ipc_store.specs.View.{StoreView}
use Rattle.ipc_store.proofs.CallerLemmas.{Takes-none}
use Rattle.ipc_hub.specs.Clients.{Frame, Client, Clients, all_bytes, confirmed_bytes}
use Rattle.ipc_hub.specs.Lives.{HubCall, Seen, Shows, Serving, as_seen, Life, life_of, Lives, Rested, IsHistory, RestsAfter, HasHistory}
use Rattle.ipc_hub.specs.Lives.HubCall.{Serves, Still, Fails}
use Rattle.ipc_hub.specs.Lives.Serving.{New, Call, Look}
use Rattle.ipc_hub.specs.Lives.Rested.{Begun, Stops, Lived as life_over}
use Rattle.ipc_hub.specs.Lives.IsHistory.{None as no_life, More as life_more}
use Rattle.ipc_hub.specs.View.{ConnectionView, HubView, StoredHub}
use Rattle.ipc_hub.specs.Relations.Matches.{AreFrames, ClientMatches, HubMatches}
use Rattle.ipc_hub.proofs.Changes.{has-bytes}
use Rattle.ipc_hub.proofs.Deliveries.{IsOf}
use Rattle.ipc_hub.proofs.Ending.{pair-at}
use Rattle.ipc_hub.proofs.Framed.{Says}
use Rattle.ipc_hub.proofs.Rows.{same_value}
use Rattle.ipc_hub.proofs.Replying.{IsTold, answer-more, told-call, told-fail}
use Rattle.ipc_hub.specs.Replies.{IsAnswer}
use Rattle.std.proofs.Math.Seq.{take-append_seam}
use Rattle.std.specs.Prelude.{take}

-- ---- frames that are shown

-- the event of a frame is one of so many
abbrev pub IsWithin : ℕ → Frame → Type 0
IsWithin n f = f.mark ≤ n

-- frames whose bytes are no more than those that are confirmed are of confirmed events
few-confirmed : (confirmed accepted : ℕ) (frames others : List Frame) → AreFrames accepted (frames ++ others)
    → length (all_bytes frames) ≤ length (confirmed_bytes confirmed (frames ++ others)) → All (IsWithin confirmed) frames
few-confirmed confirmed accepted [] others are few = All-nil (IsWithin confirmed)
few-confirmed confirmed accepted (f ∷ fs) others are few =
    elim (test_cases (nat_le f.mark confirmed)) [
      | inl t ↦
          let few' : length (f.bytes ++ all_bytes fs) ≤ length (f.bytes ++ confirmed_bytes confirmed (fs ++ others)) = rw t at few in
          let within : f.mark ≤ confirmed = grind (arith, nat_tests, t) in
          All-cons (IsWithin confirmed) f fs within
          (few-confirmed confirmed accepted fs others (All-tail (IsOf accepted) f (fs ++ others) are)
          (omega (arith, few', length-append f.bytes (all_bytes fs), length-append f.bytes (confirmed_bytes confirmed (fs ++ others)))))
      | inr t ↦
          let few' : length (f.bytes ++ all_bytes fs) ≤ 0 = rw t at few in
          absurd (omega (arith, few', length-append f.bytes (all_bytes fs), has-bytes f (All-head (IsOf accepted) f (fs ++ others) are).1))
    ]

-- the bytes that a client may see, when its connection shows those of these frames
shown-confirmed : (confirmed accepted : ℕ) (v : ConnectionView) (c : Client) (frames others : List Frame) → ClientMatches confirmed accepted v c
    → frames ++ others ≡ c.frames → v.outbox.visible ≡ drop c.consumed (all_bytes frames) → All (IsWithin confirmed) frames
shown-confirmed confirmed accepted v c frames others m first output =
    let shown_length : length (drop c.consumed (all_bytes frames)) ≡ length (drop c.consumed (confirmed_bytes confirmed c.frames)) =
    ap (λ (bytes : List ℕ). length bytes) (sym output ∙ m.visible) in
    let few : length (all_bytes frames) ≤ length (confirmed_bytes confirmed c.frames) =
    omega (arith, shown_length, m.seen, length-drop c.consumed (all_bytes frames), length-drop c.consumed (confirmed_bytes confirmed c.frames)) in
    few-confirmed confirmed accepted frames others (subst (AreFrames accepted) (sym first) m.frames)
    (subst (λ (fs : List Frame). length (all_bytes frames) ≤ length (confirmed_bytes confirmed fs)) (sym first) few)

-- what the frames are that an output shows, those are that are seen
all-seen : (P : Option ℕ → Frame → Type 0) {v : HubView} {h : Clients} {conn : ℕ} {seen : List Seen} (s : Shows v h conn seen)
    → All (P s.client.joined_as) s.frames → All (λ (x : Seen). P x.joined_as x.frame) seen
all-seen P {conn} s all =
    subst (All (λ (x : Seen). P x.joined_as x.frame)) (sym s.these)
    (All-map (λ (x : Seen). P x.joined_as x.frame) (as_seen conn s.client) s.frames all)

-- frames that are seen are of confirmed events
shows-confirmed : (limits : Limits) (confirmed : ℕ) (v : HubView) (h : Clients) (conn : ℕ) (seen : List Seen) → HubMatches limits confirmed v h
    → Shows v h conn seen → All (λ (x : Seen). IsWithin confirmed x.frame) seen
shows-confirmed limits confirmed v h conn seen m s =
    elim (pair-at limits confirmed v h conn m) [
      | inl none ↦ absurd (let never : Some s.client ≡ None = sym s.found ∙ none.1 in cc)
      | inr p ↦
          let output : p.v.outbox.visible ≡ drop s.client.consumed (all_bytes s.frames) = rw p.at at s.output in
          all-seen (λ _. IsWithin confirmed) s
          (shown-confirmed confirmed (length h.events) p.v s.client s.frames s.others
          (subst (ClientMatches confirmed (length h.events) p.v) (same_value p.c s.client (sym p.here ∙ s.found)) p.mine) s.first output)
    ]

-- frames that are seen are answers, as all of the client are
first-say : (limits : Limits) (base : State) (h : Clients) (seen : List Seen) (conn : ℕ) (v : HubView) → IsTold limits base [] h
    → Shows v h conn seen → All (λ (x : Seen). IsAnswer limits base h.events x.joined_as x.frame) seen
first-say limits base h seen conn v told s =
    let Mine : Frame → Type 0 = IsAnswer limits base h.events s.client.joined_as in
    let says : All Mine s.client.frames = each-at (Says (IsAnswer limits base) h.events) h.clients conn s.client told.each s.found in
    let split : take (length s.frames) s.client.frames ≡ s.frames = ap (take (length s.frames)) (sym s.first) ∙ take-append_seam s.frames s.others in
    all-seen (IsAnswer limits base h.events) s (subst (All Mine) split (All-take Mine (length s.frames) s.client.frames says))

-- the event of a frame lasts, and the frame is an answer to its connection
abbrev Lasts : Limits → State → ℕ → List PlainEvent → Seen → Type 0
Lasts limits base confirmed events s = (s.frame.mark ≤ confirmed) × IsAnswer limits base events s.joined_as s.frame

-- ---- a life

-- A hub after some calls of a life: its store has a history, which begins with what was found; the events of the clients
-- are those since then; and the frames that were in an output are of events that are confirmed.
record Lived {D : Type 0} (medium : D → Medium) (past : Past) (v : StoredHub D) (h : Clients) (seen : List Seen) : Type 0 where
  history : History
  keeps : Keeps (medium v.store.disk) v.store history
  base : history.base ≡ past.base
  found : history.found ≡ past.events
  events : history.confirmed ++ history.waiting ≡ h.events
  under : v.store.machine.limits ≡ past.limits
  confirmed : ℕ
  matches : HubMatches past.limits confirmed v.hub h
  within : confirmed ≤ v.store.confirmed
  told : IsTold past.limits (state_after past) [] h
  shown : All (Lasts past.limits (state_after past) v.store.confirmed h.events) seen

module _ {D : Type 0} (medium : D → Medium) (law : (d : D) (image : Image) → (medium d).images_since (medium d).moment image → (medium d).images_now image)
    (past : Past) where
  abbrev limits : Limits
  limits = past.limits

  -- the events that a call accepts, which its store takes
  took : (old new : StoredHub D) (h next : Clients) → HubCall medium limits old h new next
      → (events : List PlainEvent) × Takes medium old.store events new.store × (next.events ≡ h.events ++ events)
  took old new h _ (Serves next call comes) = (comes.events, comes.takes, comes.adds)
  took old new h _ (Still next call same store matches) = (
    [],
    subst (λ (s : StoreView D). Takes medium old.store [] s) (sym store) (Takes-none medium law old.store),
    same ∙ sym (append-nil h.events),
  )
  took old new h _ (Fails takes matches) = ([], takes, sym (append-nil h.events))

  -- what is confirmed stays so
  stays : (old new : StoreView D) (h : History) (events : List PlainEvent) → Keeps (medium old.disk) old h → Takes medium old events new
      → old.confirmed ≤ new.confirmed
  stays old new h events keeps takes =
      let moves = takes h keeps in
      omega (
        arith,
        keeps.count,
        moves.keeps.count,
        ap (λ (es : List PlainEvent). length es) moves.follows.confirms,
        length-append h.confirmed moves.follows.more,
      )

  -- the hub matches after a call as it did before
  shown-after : (old new : StoredHub D) (h next : Clients) (confirmed : ℕ) → HubMatches limits confirmed old.hub h → confirmed ≤ old.store.confirmed
      → old.store.confirmed ≤ new.store.confirmed → HubCall medium limits old h new next
      → (now : ℕ) × HubMatches limits now new.hub next × (now ≤ new.store.confirmed)
  shown-after old new h _ confirmed m within more (Serves next call comes) = (new.store.confirmed, comes.matches.hub, omega arith)
  shown-after old new h _ confirmed m within more (Still next call same store matches) = (confirmed, matches confirmed m, omega (arith, within, more))
  shown-after old new h _ confirmed m within more (Fails takes matches) = (old.store.confirmed, matches, more)

  -- the frames are answers after a call as before
  told-after : (base : State) (old new : StoredHub D) (h next : Clients) → IsTold limits base [] h → HubCall medium limits old h new next
      → IsTold limits base [] next
  told-after base old new h _ told (Serves next call comes) = told-call limits base [] h next told call
  told-after base old new h _ told (Still next call same store matches) = told-call limits base [] h next told call
  told-after base old new h _ told (Fails takes matches) = told-fail limits base [] h old.store.confirmed told

  -- one call more
  lived-call : (old new : StoredHub D) (h next : Clients) (seen : List Seen) → Lived medium past old h seen
      → HubCall medium limits old h new next → Lived medium past new next seen
  lived-call old new h next seen so_far call =
      let t = took old new h next call in
      let moves = t.1 so_far.history so_far.keeps in
      let more = stays old.store new.store so_far.history t.0 so_far.keeps t.1 in
      let shown = shown-after old new h next so_far.confirmed so_far.matches so_far.within more call in
      let before : History = so_far.history in
      let follows = moves.follows in
      record {
        history = moves.after;
        keeps = moves.keeps;
        base = follows.base ∙ so_far.base;
        found = follows.found ∙ so_far.found;
        events =
            append_cancel_left before.found (moves.after.confirmed ++ moves.after.waiting) (next.events)
            (ap (λ (es : List PlainEvent). es ++ (moves.after.confirmed ++ moves.after.waiting)) (sym follows.found)
            ∙ sym (append_assoc moves.after.found moves.after.confirmed moves.after.waiting) ∙ follows.accepts
            ∙ ap (λ (es : List PlainEvent). es ++ t.0)
            (append_assoc before.found before.confirmed before.waiting ∙ ap (λ (es : List PlainEvent). before.found ++ es) so_far.events)
            ∙ append_assoc before.found h.events t.0 ∙ ap (λ (es : List PlainEvent). before.found ++ es) (sym t.2));
        under = moves.limits ∙ so_far.under;
        confirmed = shown.0;
        matches = shown.1;
        within = shown.2;
        told = told-after (state_after past) old new h next so_far.told call;
        shown = subst (λ (es : List PlainEvent). All (Lasts limits (state_after past) new.store.confirmed es) seen) (sym t.2)
            (All-weaker (Lasts limits (state_after past) old.store.confirmed h.events)
            (Lasts limits (state_after past) new.store.confirmed (h.events ++ t.0))
            (λ s is. (omega (arith, is.0, more), answer-more limits (state_after past) [] h.events t.0 s.joined_as s.frame is.1)) seen so_far.shown);
      }

  -- all calls of a life
  lived : (opened : StoreView D) (last : StoredHub D) (now : Clients) (seen : List Seen)
      → Keeps (medium opened.disk) opened (reopened past) → opened.machine.limits ≡ limits
      → opened.machine.state ≡ restart limits (state_after past) → Serving medium limits opened last now seen → Lived medium past last now seen
  lived opened hub _ _ keeps under state (New _ store matches) = record {
    history = reopened past;
    keeps = subst (λ (s : StoreView D). Keeps (medium s.disk) s (reopened past)) (sym store) keeps;
    base = refl;
    found = refl;
    events = refl;
    under = ap (λ (s : StoreView D). s.machine.limits) store ∙ under;
    confirmed = hub.store.confirmed;
    matches = matches.hub;
    within = omega arith;
    told = record { state = (state ∙ sym (restart-is limits (state_after past)), (Restart ∷ [], refl)); each = tt };
    shown = All-nil (Lasts limits (state_after past) hub.store.confirmed (Restart ∷ []));
  }
  lived opened next then seen keeps under state (Call last _ now _ _ serving call) =
      lived-call last next now then seen (lived opened last now seen keeps under state serving) call
  lived opened last now _ keeps under state (Look _ _ seen more conn serving shows) =
      let so_far = lived opened last now seen keeps under state serving in
      let within = shows-confirmed limits so_far.confirmed last.hub now conn more so_far.matches shows in
      let says = first-say limits (state_after past) now more conn last.hub so_far.told shows in
      record {
        history = so_far.history;
        keeps = so_far.keeps;
        base = so_far.base;
        found = so_far.found;
        events = so_far.events;
        under = so_far.under;
        confirmed = so_far.confirmed;
        matches = so_far.matches;
        within = so_far.within;
        told = so_far.told;
        shown = All-append (Lasts limits (state_after past) last.store.confirmed now.events) more seen
            (λ k d inside. let here = within k d inside in (omega (arith, here, so_far.within), says k d inside)) so_far.shown;
      }

-- ---- lives

-- what a call that is stopped leaves
abbrev pub Leaves : {D : Type 0} → (D → Medium) → Type 0
Leaves {D} medium =
    (last next : StoreView D) (before : History) (events : List PlainEvent) (left : D) → Keeps (medium last.disk) last before
    → Takes medium last events next → IsLeft (medium last.disk) (medium next.disk) (medium left)
    → Rests (past_of last.machine.limits before) (before.waiting ++ events) (medium left)

-- what opens that are stopped leave
abbrev pub StaysAtRest : {D : Type 0} → (D → Medium) → Type 0
StaysAtRest {D} medium =
    (past : Past) (others : List PlainEvent) (left disk : D) → Rests past others (medium left) → StoppedOpens medium left disk
    → Rests past others (medium disk)

-- what an open finds there
abbrev pub Finds : {D : Type 0} → (D → Medium) → Type 0
Finds {D} medium =
    (past : Past) (others : List PlainEvent) (left disk : D) (opened : StoreView D) → Rests past others (medium left)
    → StoppedOpens medium left disk → OpensOn (medium disk).contents (medium opened.disk) opened → Found past others (medium opened.disk) opened

nothing-kept : (kept lost : List PlainEvent) → kept ++ lost ≡ [] → kept ≡ []
nothing-kept [] lost is = refl
nothing-kept (e ∷ es) lost is = cc

-- events that come after others
grown-twice : (past : Past) (some more : List PlainEvent) → grown (grown past some) more ≡ grown past (some ++ more)
grown-twice past some more = ap (λ (es : List PlainEvent). record past { events = es }) (append_assoc past.events some more)

module _ {D : Type 0} (medium : D → Medium) (law : (d : D) (image : Image) → (medium d).images_since (medium d).moment image → (medium d).images_now image)
    (past : Past) (leaves : Leaves medium) (finds : Finds medium) (stays_at_rest : StaysAtRest medium) (disk : D) where
  -- a disk at rest of which so much is sure
  at-rest : (lives : List Life) (left : D) (sure others : List PlainEvent) → Rests (grown past sure) others (medium left)
      → ((kept lost : List PlainEvent) → kept ++ lost ≡ others → IsHistory past lives (sure ++ kept)) → RestsAfter past lives (medium left)
  at-rest lives left sure others rests histories =
      let now = rests.left (medium left).contents rests.honest.reads in
      record { sure = sure; others = others; rests = rests; histories = histories; reads = (now.state, now.stands) }

  -- what an open of it finds: the history so far
  finds-history : (lives : List Life) (left : D) (store : StoreView D) → RestsAfter past lives (medium left)
      → OpensOn (medium left).contents (medium store.disk) store → HasHistory (medium store.disk) past lives store
  finds-history lives left store rested opens =
      let f = finds (grown past rested.sure) rested.others left left store rested.rests no_open opens in
      let all = grown-twice past rested.sure f.kept in
      record {
        history = rested.sure ++ f.kept;
        is = rested.histories f.kept f.lost f.prefix;
        under = f.under;
        state = f.state ∙ ap (λ (p : Past). restart past.limits (state_after p)) all;
        keeps = subst (λ (p : Past). Keeps (medium store.disk) store (reopened p)) all f.keeps;
      }

  -- one life more
  one-more : (lives : List Life) (before : D) (opened : StoreView D) (last next : StoredHub D) (now then : Clients) (seen : List Seen) (left : D)
      → HasHistory (medium opened.disk) past lives opened → Serving medium past.limits opened last now seen → HubCall medium past.limits last now next then
      → IsLeft (medium last.store.disk) (medium next.store.disk) (medium left) → RestsAfter past (life_of opened last then seen ∷ lives) (medium left)
  one-more lives before opened last next now then seen left has serving call is_left =
      let so_far = grown past has.history in
      let l = lived medium law so_far opened last now seen has.keeps has.under has.state serving in
      let h : History = l.history in
      let t = took medium law so_far last next now then call in
      let sure : past_of last.store.machine.limits h ≡ grown past (has.history ++ h.confirmed) =
      let events : acknowledged h ≡ past.events ++ (has.history ++ h.confirmed) =
      ap (λ (es : List PlainEvent). es ++ h.confirmed) l.found ∙ append_assoc past.events has.history h.confirmed in
      (λ i. record { limits = l.under i; base = l.base i; events = events i }) in
      let rests = leaves last.store next.store h t.0 left l.keeps t.1 is_left in
      let Says : List PlainEvent → Option ℕ → Frame → Type 0 = IsAnswer past.limits (state_after so_far) in
      at-rest (life_of opened last then seen ∷ lives) left (has.history ++ h.confirmed) (h.waiting ++ t.0)
      (subst (λ (p : Past). Rests p (h.waiting ++ t.0) (medium left)) sure rests)
      (λ kept lost prefix.
      let most : last.store.confirmed ≤ length (h.confirmed ++ kept) = omega (arith, l.keeps.count, length-append h.confirmed kept) in
      subst (IsHistory past (life_of opened last then seen ∷ lives)) (sym (append_assoc has.history h.confirmed kept))
      (life_more lives (life_of opened last then seen) has.history (h.confirmed ++ kept) lost has.is has.state
      (append_assoc h.confirmed kept lost ∙ ap (λ (es : List PlainEvent). h.confirmed ++ es) prefix
      ∙ sym (append_assoc h.confirmed h.waiting t.0) ∙ ap (λ (es : List PlainEvent). es ++ t.0) l.events ∙ sym t.2)
      most
      (All-weaker (Lasts past.limits (state_after so_far) last.store.confirmed now.events)
      (Lasts past.limits (state_after so_far) (length (h.confirmed ++ kept)) then.events) (λ s is. (
        omega (arith, is.0, most),
        subst (λ (es : List PlainEvent). Says es s.joined_as s.frame) (sym t.2)
            (answer-more past.limits (state_after so_far) [] now.events t.0 s.joined_as s.frame is.1),
      )) seen l.shown)))

  -- the disk at rest after all of them
  pub rests-after : Rests past [] (medium disk) → (lives : List Life) (left : D) → Rested medium past.limits disk lives left
      → RestsAfter past lives (medium left)
  rests-after rests _ _ Begun =
      let same = ap (λ (es : List PlainEvent). record past { events = es }) (append-nil past.events) in
      at-rest [] disk [] [] (subst (λ (p : Past). Rests p [] (medium disk)) (sym same) rests)
      (λ kept lost is. subst (IsHistory past []) (sym (nothing-kept kept lost is)) no_life)
  rests-after rests _ _ (Stops lives before left so_far opens) =
      let was = rests-after rests lives before so_far in
      at-rest lives left was.sure was.others (stays_at_rest (grown past was.sure) was.others before left was.rests opens) was.histories
  rests-after rests _ _ (life_over lives before opened last next now then seen left so_far opens serving call is_left) =
      one-more lives before opened last next now then seen left (finds-history lives before opened (rests-after rests lives before so_far) opens)
      serving call is_left

  -- and the store that is opened on it
  pub has-history : Rests past [] (medium disk) → (lives : List Life) (store : StoreView D) → Lives medium past.limits disk lives store
      → HasHistory (medium store.disk) past lives store
  has-history rests lives store all = finds-history lives all.left store (rests-after rests lives all.left all.rested) all.opens
