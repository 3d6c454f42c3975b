-- A client that says HELLO and sees what it is answered, and a release that is stopped, from the clauses of the calls.
use Rattle.std.proofs.Common.{◌≡◌, ℕ, ◌+◌, ◌≤◌, List, [], ◌∷◌, ◌++◌, drop, Option, Some, None, inl, inr, refl, sym, ap, subst, ◌∙◌, append-nil, arith}
use Rattle.std.specs.Prelude.{nat_le, map}
use Rattle.std.proofs.lemmas.Bool.{cases_Bool}
use Rattle.ipc_limits.specs.declared.limits.Limits.{Limits}
use Rattle.ipc_disk.specs.Counts.{Counts}
use Rattle.ipc_disk.specs.Medium.{Image, Medium, IsHonest}
use Rattle.ipc_engine.specs.Event.{PlainEvent, Restart}
use Rattle.ipc_store.specs.declared.fault.CommitError.{CommitError}
use Rattle.ipc_store.specs.declared.fault.CommitError.TheVariants.{Device}
use Rattle.ipc_store.specs.Histories.{History, Keeps, OpensOn, Takes}
use Rattle.ipc_store.specs.Lives.{IsLeft}
use Rattle.ipc_store.specs.View.{StoreView}
use Rattle.ipc_hub.specs.Clients.{Client, Clients, Frame, all_bytes, client_at, confirmed_bytes, confirmed_frames, connect, fail, feed, shown_at}
use Rattle.ipc_hub.specs.Lives.{HubCall, Life, Lives, Seen, Serving, Shows, as_seen, life_of}
use Rattle.ipc_hub.specs.Lives.ClientCall.{Connects, Feeds, Stays}
use Rattle.ipc_hub.specs.Lives.HubCall.{Serves, Still, Fails}
use Rattle.ipc_hub.specs.Lives.Rested.{Begun, Lived}
use Rattle.ipc_hub.specs.Lives.Serving.{New, Call, Look}
use Rattle.ipc_hub.specs.Relations.Faults.{Halts}
use Rattle.ipc_hub.specs.Relations.Matches.{HubMatches, ServesFeed, Simulates, StoredMatches}
use Rattle.ipc_hub.specs.View.{StoredHub, output_of}
use Rattle.premises.specs.Visits.{AreSeen, Saw, Goes, Ends}

-- the frames that are confirmed are the first ones, and have the bytes that are
confirmed-all : (confirmed : ℕ) (frames : List Frame) → all_bytes (confirmed_frames confirmed frames) ≡ confirmed_bytes confirmed frames
confirmed-all confirmed [] = refl
confirmed-all confirmed (f ∷ fs) =
    elim (cases_Bool (nat_le f.mark confirmed)) [ inl t ↦ rw t (ap (λ bytes. f.bytes ++ bytes) (confirmed-all confirmed fs)) | inr t ↦ rw t refl ]

confirmed-first : (confirmed : ℕ) (frames : List Frame) → (others : List Frame) × (confirmed_frames confirmed frames ++ others ≡ frames)
confirmed-first confirmed [] = ([], refl)
confirmed-first confirmed (f ∷ fs) =
    let rest = confirmed-first confirmed fs in
    elim (cases_Bool (nat_le f.mark confirmed)) [
      | inl t ↦ (rest.0, rw t (ap (λ (l : List Frame). f ∷ l) rest.1))
      | inr t ↦ (f ∷ fs, rw t refl)
    ]

seen-frames : (conn : ℕ) (c : Client) (frames : List Frame) → map (λ (s : Seen). s.frame) (map (as_seen conn c) frames) ≡ frames
seen-frames conn c [] = refl
seen-frames conn c (f ∷ fs) = ap (λ (l : List Frame). f ∷ l) (seen-frames conn c fs)

module _ {D : Type 0} (medium : D → Medium) (limits : Limits) (opened : StoreView D) where
  -- a connection comes
  goes-connect : (old new : StoredHub D) (h : Clients) (seen : List Seen) (conn : ℕ) → Goes medium limits opened old h seen
      → Simulates old.hub new.hub (λ _ h. connect h conn) → new.store ≡ old.store → Goes medium limits opened new (connect h conn) seen
  goes-connect old new h seen conn goes comes same = record {
    serving = Call old new h (connect h conn) seen goes.serving
        (Still (connect h conn) (Connects conn) refl same (λ confirmed m. comes limits confirmed h m));
    matches = record {
      hub = subst (λ (s : StoreView D). HubMatches limits s.confirmed new.hub (connect h conn)) (sym same)
          (comes limits old.store.confirmed h goes.matches.hub);
      counts = ap (λ (s : StoreView D). s.confirmed + s.waiting) same ∙ goes.matches.counts;
    };
  }

  -- bytes of it are taken
  goes-feed : (old new : StoredHub D) (h : Clients) (seen : List Seen) (conn moment : ℕ) (bytes : List ℕ) → Goes medium limits opened old h seen
      → ServesFeed medium old new conn bytes moment → (then : Clients) × Goes medium limits opened new then seen
  goes-feed old new h seen conn moment bytes goes serves =
      let came = serves limits h goes.matches in
      let then : Clients = feed limits h conn bytes moment came.0 in (
        then,
        record { serving = Call old new h then seen goes.serving (Serves then (Feeds conn bytes moment came.0) came.1); matches = came.1.matches },
      )

  -- what waits is made to last
  releases : (old new : StoredHub D) (h : Clients) → StoredMatches limits old h
      → ((l : Limits) (h : Clients) → StoredMatches l old h → StoredMatches l new h) → Takes medium old.store [] new.store
      → HubCall medium limits old h new h
  releases old new h matches still takes =
      Serves h Stays (record { matches = still limits h matches; events = []; adds = sym (append-nil h.events); takes = takes })

  goes-release : (old new : StoredHub D) (h : Clients) (seen : List Seen) → Goes medium limits opened old h seen
      → ((l : Limits) (h : Clients) → StoredMatches l old h → StoredMatches l new h) → Takes medium old.store [] new.store
      → Goes medium limits opened new h seen
  goes-release old new h seen goes still takes =
      record { serving = Call old new h h seen goes.serving (releases old new h goes.matches still takes); matches = still limits h goes.matches }

  -- its output is looked at
  looks : (hub : StoredHub D) (h : Clients) (conn : ℕ) (out : List ℕ) → Goes medium limits opened hub h [] → out ≡ shown_at hub.store.confirmed h conn
      → out ≡ output_of hub.hub conn → (client : Option Client) → client_at h conn ≡ client
      → (seen : List Seen) × AreSeen out seen × Goes medium limits opened hub h seen
  looks hub h conn out goes shown is None none = let bytes : out ≡ [] = rw none at shown in ([], (0, bytes), goes)
  looks hub h conn out goes shown is (Some c) found =
      let frames : List Frame = confirmed_frames hub.store.confirmed c.frames in
      let others = confirmed-first hub.store.confirmed c.frames in
      let visible : out ≡ drop c.consumed (confirmed_bytes hub.store.confirmed c.frames) = rw found at shown in
      let bytes : out ≡ drop c.consumed (all_bytes frames) = visible ∙ ap (drop c.consumed) (sym (confirmed-all hub.store.confirmed c.frames)) in
      let seen : List Seen = map (as_seen conn c) frames in
      let shows : Shows hub.hub h conn seen =
      record { client = c; found = found; frames = frames; others = others.0; first = others.1; these = refl; output = sym is ∙ bytes } in
      let whole : map (λ (s : Seen). s.frame) (seen ++ []) ≡ frames =
      ap (λ (l : List Seen). map (λ (s : Seen). s.frame) l) (append-nil seen) ∙ seen-frames conn c frames in (
        seen ++ [],
        (c.consumed, bytes ∙ ap (λ (fs : List Frame). drop c.consumed (all_bytes fs)) (sym whole)),
        record { serving = Look hub h [] seen conn goes.serving shows; matches = goes.matches },
      )

  pub greets : (old joined fed new : StoredHub D) (h : Clients) (conn moment : ℕ) (bytes out : List ℕ) → Goes medium limits opened old h []
      → Simulates old.hub joined.hub (λ _ h. connect h conn) → joined.store ≡ old.store → ServesFeed medium joined fed conn bytes moment
      → ((l : Limits) (h : Clients) → StoredMatches l fed h → StoredMatches l new h) → Takes medium fed.store [] new.store
      → ((l : Limits) (confirmed : ℕ) (h : Clients) → HubMatches l confirmed new.hub h → out ≡ shown_at confirmed h conn) → out ≡ output_of new.hub conn
      → (then : Clients) × ((seen : List Seen) × AreSeen out seen × Goes medium limits opened new then seen)
  greets old joined fed new h conn moment bytes out goes comes same serves still takes see is =
      let first = goes-connect old joined h [] conn goes comes same in
      let then = goes-feed joined fed (connect h conn) [] conn moment bytes first serves in
      let last = goes-release fed new then.0 [] then.1 still takes in
      (then.0, looks new then.0 conn out last (see limits new.store.confirmed then.0 last.matches.hub) is (client_at then.0 conn) refl)

  -- more bytes of it are taken, and the release that follows is the last call: it went well, or the disk failed
  pub asks-well : (old fed new : StoredHub D) (h : Clients) (seen : List Seen) (conn moment : ℕ) (bytes : List ℕ) → Goes medium limits opened old h seen
      → ServesFeed medium old fed conn bytes moment → ((l : Limits) (h : Clients) → StoredMatches l fed h → StoredMatches l new h)
      → Takes medium fed.store [] new.store → Ends medium limits opened new seen
  asks-well old fed new h seen conn moment bytes goes serves still takes =
      let then = goes-feed old fed h seen conn moment bytes goes serves in
      record { last = fed; now = then.0; then = then.0; serving = then.1.serving; call = releases fed new then.0 then.1.matches still takes }

  pub asks-ill : (counts : D → Counts) (old fed new : StoredHub D) (h : Clients) (seen : List Seen) (conn moment : ℕ) (bytes : List ℕ) (e : CommitError)
      → Goes medium limits opened old h seen → ServesFeed medium old fed conn bytes moment → e ≡ Device → Halts medium counts fed new e
      → Ends medium limits opened new seen
  asks-ill counts old fed new h seen conn moment bytes e goes serves is halts =
      let then = goes-feed old fed h seen conn moment bytes goes serves in
      let failed = (subst (Halts medium counts fed new) is halts).0 in
      record {
        last = fed;
        now = then.0;
        then = fail fed.store.confirmed then.0;
        serving = then.1.serving;
        call = Fails failed.takes (failed.matches limits then.0 then.1.matches);
      }

  -- a call does not go back in time, and the history goes on
  goes-on : (old new : StoredHub D) (h next : Clients) (before : History) → HubCall medium limits old h new next
      → Keeps (medium old.store.disk) old.store before
      → ((medium old.store.disk).moment ≤ (medium new.store.disk).moment) × ((after : History) × Keeps (medium new.store.disk) new.store after)
  goes-on old new h _ before (Serves next call comes) keeps =
      let moves = comes.takes before keeps in (moves.crash.later, (moves.after, moves.keeps))
  goes-on old new h _ before (Still next call same store matches) keeps =
      subst (λ (s : StoreView D). ((medium old.store.disk).moment ≤ (medium s.disk).moment) × ((after : History) × Keeps (medium s.disk) s after)) (sym store)
      (omega arith, (before, keeps))
  goes-on old new h _ before (Fails takes matches) keeps = let moves = takes before keeps in (moves.crash.later, (moves.after, moves.keeps))

  keeps-on : (last : StoredHub D) (now : Clients) (seen : List Seen) (before : History) → Keeps (medium opened.disk) opened before
      → Serving medium limits opened last now seen → (after : History) × Keeps (medium last.store.disk) last.store after
  keeps-on hub _ _ before keeps (New _ store matches) = (before, subst (λ (s : StoreView D). Keeps (medium s.disk) s before) (sym store) keeps)
  keeps-on next then seen before keeps (Call last _ now _ _ serving call) =
      let so_far = keeps-on last now seen before keeps serving in (goes-on last next now then so_far.0 call so_far.1).1
  keeps-on last now _ before keeps (Look _ _ seen more conn serving shows) = keeps-on last now seen before keeps serving

  -- the events are those of before and more; the restart is the first
  adds : (old new : StoredHub D) (h next : Clients) → HubCall medium limits old h new next → (more : List PlainEvent) × (next.events ≡ h.events ++ more)
  adds old new h _ (Serves next call comes) = (comes.events, comes.adds)
  adds old new h _ (Still next call same store matches) = ([], same ∙ sym (append-nil h.events))
  adds old new h _ (Fails takes matches) = ([], sym (append-nil h.events))

  begins-call : (old new : StoredHub D) (h next : Clients) → HubCall medium limits old h new next → (more : List PlainEvent) × (h.events ≡ Restart ∷ more)
      → (more : List PlainEvent) × (next.events ≡ Restart ∷ more)
  begins-call old new h next call so_far =
      let added = adds old new h next call in
      (so_far.0 ++ added.0, added.1 ∙ ap (λ (es : List PlainEvent). es ++ added.0) so_far.1)

  begins : (last : StoredHub D) (now : Clients) (seen : List Seen) → Serving medium limits opened last now seen
      → (more : List PlainEvent) × (now.events ≡ Restart ∷ more)
  begins hub _ _ (New _ store matches) = ([], refl)
  begins next then seen (Call last _ now _ _ serving call) = begins-call last next now then call (begins last now seen serving)
  begins last now _ (Look _ _ seen more conn serving shows) = begins last now seen serving

  -- the whole life
  pub one-life-with-a-crash : (disk end left : D) (store : StoreView D) (hub : StoredHub D) (out : List ℕ) (frames : List Seen) (before : History) (at : ℕ)
      → OpensOn (medium disk).contents (medium opened.disk) opened → Keeps (medium opened.disk) opened before → AreSeen out frames
      → Ends medium limits opened hub frames → end ≡ hub.store.disk → at ≡ (medium end).moment → IsHonest (medium left)
      → ((t : ℕ) (image : Image) → t ≤ at → (medium left).images_now image → (medium end).images_since t image)
      → OpensOn (medium left).contents (medium store.disk) store → (life : Life) × Saw out life × Lives medium limits disk (life ∷ []) store
  one-life-with-a-crash disk end left store hub out frames before at opens keeps seen ends is moment honest images again =
      let last = ends.last in
      let start : ℕ = (medium last.store.disk).moment in
      let later = (goes-on last hub ends.now ends.then _ ends.call (keeps-on last ends.now frames before keeps ends.serving).1).0 in
      let within : start ≤ at = omega (arith, later, moment, ap (λ (d : D). (medium d).moment) is) in
      let is-left : IsLeft (medium last.store.disk) (medium hub.store.disk) (medium left) =
      record { honest = honest; images = λ image now. subst (λ (d : D). (medium d).images_since start image) is (images start image within now) } in
      let first = begins-call last hub ends.now ends.then ends.call (begins last ends.now frames ends.serving) in (
        life_of opened last ends.then frames,
        record { more = first.0; first = first.1; seen = seen },
        record {
          left = left;
          rested = Lived [] disk opened last hub ends.now ends.then frames left Begun opens ends.serving ends.call is-left;
          opens = again;
        },
      )
