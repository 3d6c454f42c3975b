-- What steps come to, one after another: calls of the hub were made, and their events were taken.
use Rattle.std.proofs.Common.{◌≡◌, ℕ, Bool, true, ◌||◌, ◌==◌, List, [], ◌∷◌, ◌++◌, Option, Some, None, refl, sym, ap, ◌∙◌, append_assoc, append-nil, inr, subst}
use Rattle.std.proofs.Common.{take, drop, take-append-drop, length-take-le}
use Rattle.std.specs.Prelude.{◌≤◌, ◌↔◌, ⊤, Result, Ok, Err, OnOk, OnErr, length}
use Rattle.std.proofs.lemmas.List.Elements.{All-cons, All-nil}
use Rattle.ipc_limits.specs.declared.limits.Limits.{Limits}
use Rattle.ipc_disk.specs.Counts.{Counts}
use Rattle.ipc_disk.specs.Medium.{Image, Medium}
use Rattle.ipc_store.specs.declared.fault.CommitError.{CommitError}
use Rattle.ipc_store.specs.declared.fault.CommitError.TheVariants as commit
use Rattle.ipc_store.specs.Histories.{Takes}
use Rattle.ipc_store.proofs.CallerLemmas.{Takes-none, Takes-both}
use Rattle.ipc_hub.specs.declared.fault.ConnectError.{ConnectError}
use Rattle.ipc_hub.specs.declared.fault.ConnectError.TheVariants.{InUse, Stopped}
use Rattle.ipc_hub.specs.Clients.{Client, Clients, client_at, consume, tick}
use Rattle.ipc_hub.specs.Lives.{ClientCall, HubCall, Seen}
use Rattle.ipc_hub.specs.Lives.ClientCall.{Connects as to_connect, Consumes as to_consume, Ticks as to_tick}
use Rattle.ipc_hub.specs.Lives.ClientCall.{Feeds as to_feed, HangsUp as to_hang_up, Stays as to_stay}
use Rattle.ipc_hub.specs.Lives.HubCall.{Serves as call_serves}
use Rattle.ipc_hub.specs.View.{HasStopped, StoredHub, is_connected, output_of}
use Rattle.ipc_hub.specs.Relations.Faults.{Halts}
use Rattle.ipc_hub.specs.Relations.Matches.{Comes, HubMatches, Serves, Simulates, StoredMatches}
use Rattle.ipc_server.specs.Acts.{Act, IsAt, IsShown, Sees, Spares, after, after_one}
use Rattle.ipc_server.specs.Acts.Act.{Connects, Ticks, Feeds, HangsUp, Releases, Consumes}
use Rattle.ipc_server.specs.Fault.{of_commit_error}
use Rattle.ipc_server.specs.Runs.{Steps, CallsMade, RunsCalls, RunsRound, RunsSuch, Sends, StopsAt, BreaksOff}
use Rattle.ipc_server.specs.Runs.Steps.{None as no_step, More as one_step}
use Rattle.ipc_server.specs.Runs.Sends.{None as no_send, More as one_send}
use Rattle.ipc_server.specs.Streams.{OnlyJoins}
use Rattle.ipc_server.proofs.Showing.{shows-some}
use Rattle.ipc_server.proofs.Standing.{or-true}

-- ---- calls, one after another

pub after-both : (limits : Limits) (h : Clients) (acts others : List Act) → after limits h (acts ++ others) ≡ after limits (after limits h acts) others
after-both limits h [] others = refl
after-both limits h (act ∷ acts) others = after-both limits (after_one limits h act) acts others

-- a client that was sent something accepts no event
pub consume-events : (h : Clients) (conn count : ℕ) → (consume h conn count).events ≡ h.events
consume-events h conn count = by (client_at h conn) refl
  where
    by : (found : Option Client) → client_at h conn ≡ found → (consume h conn count).events ≡ h.events
    by None is = rw is refl
    by (Some c) is = rw is refl

-- ---- what clients were sent

pub sends-store : {D : Type 0} (old new : StoredHub D) (told : List Act) → Sends old new told → new.store ≡ old.store
sends-store old _ _ no_send = refl
sends-store old new _ (one_send last _ told conn bytes before begins does store) = store ∙ sends-store old last told before

pub sends-none : {D : Type 0} (hub : StoredHub D) → Sends hub hub []
sends-none hub = no_send

pub sends-both : {D : Type 0} (old mid new : StoredHub D) (told more : List Act) → Sends old mid told → Sends mid new more → Sends old new (told ++ more)
sends-both old mid _ told _ one no_send = subst (λ (all : List Act). Sends old mid all) (sym (append-nil told)) one
sends-both old mid new told _ one (one_send last _ more conn bytes before begins does store) =
    subst (λ (all : List Act). Sends old new all) (append_assoc told more (Consumes conn bytes ∷ []))
    (one_send last new (told ++ more) conn bytes (sends-both old mid last told more one before) begins does store)

-- one client was sent the first so many bytes of its output
pub sends-one : {D : Type 0} (old new : StoredHub D) (conn count : ℕ) → count ≤ length (output_of old.hub conn) → is_connected old.hub conn ≡ true
    → Simulates old.hub new.hub (λ _ h. consume h conn count) → new.store ≡ old.store
    → Sends old new (Consumes conn (take count (output_of old.hub conn)) ∷ [])
sends-one old new conn count within there does store =
    let shown : List ℕ = output_of old.hub conn in
    one_send old new [] conn (take count shown) no_send
    (record { connected = there; rest = drop count shown; first = sym (take-append-drop count shown) })
    (subst (λ (n : ℕ). Simulates old.hub new.hub (λ _ h. consume h conn n)) (sym (length-take-le count shown within)) does) store

-- ---- calls, one after another

-- each is one of the definitions
client-call : (limits : Limits) (h : Clients) (act : Act) → ClientCall limits h (after_one limits h act)
client-call limits h (Connects conn) = to_connect conn
client-call limits h (Ticks moment) = to_tick moment
client-call limits h (Feeds conn bytes moment refused) = to_feed conn bytes moment refused
client-call limits h (HangsUp conn moment) = to_hang_up conn moment
client-call limits h Releases = to_stay
client-call limits h (Consumes conn bytes) = to_consume conn (length bytes)

module _ {D : Type 0} (medium : D → Medium) (moment : ℕ) (limits : Limits) where
  pub steps-both : (old mid : StoredHub D) (h : Clients) (acts : List Act) (seen : List Seen) (new : StoredHub D) (others : List Act) (more : List Seen)
      → Steps medium moment limits old h mid acts seen → Steps medium moment limits mid (after limits h acts) new others more
      → Steps medium moment limits old h new (acts ++ others) (more ++ seen)
  steps-both old mid h acts seen _ _ _ one no_step =
      subst (λ (all : List Act). Steps medium moment limits old h mid all seen) (sym (append-nil acts)) one
  steps-both old mid h acts seen new _ _ one (one_step last _ others more act frames before is shown sees call) =
      let same : after limits (after limits h acts) others ≡ after limits h (acts ++ others) = sym (after-both limits h acts others) in
      subst (λ (all : List Act). Steps medium moment limits old h new all ((frames ++ more) ++ seen)) (append_assoc acts others (act ∷ []))
      (subst (λ (all : List Seen). Steps medium moment limits old h new ((acts ++ others) ++ act ∷ []) all) (sym (append_assoc frames more seen))
      (one_step last new (acts ++ others) (more ++ seen) act frames (steps-both old mid h acts seen last others more one before) is shown
      (subst (λ (k : Clients). Sees last.hub k act frames) same sees)
      (subst (λ (k : Clients). HubCall medium limits last k new (after_one limits k act)) same call)))

-- ---- steps that go on

module _ {D : Type 0} (medium : D → Medium) where
  -- two calls, one after another
  pub comes-both : (limits : Limits) (old mid new : StoredHub D) (h now then : Clients) → Comes medium limits old mid h now
      → Comes medium limits mid new now then → Comes medium limits old new h then
  comes-both limits old mid new h now then one two =
      record {
        matches = two.matches;
        events = one.events ++ two.events;
        adds = two.adds ∙ ap (λ es. es ++ two.events) one.adds ∙ append_assoc h.events one.events two.events;
        takes = Takes-both medium old.store mid.store new.store one.events two.events one.takes two.takes;
      }

  module _ (moment : ℕ) where
    -- calls, and then others
    pub makes-both : (limits : Limits) (old mid new : StoredHub D) (h : Clients) (acts others : List Act)
        → CallsMade medium moment limits old mid h acts → CallsMade medium moment limits mid new (after limits h acts) others
        → CallsMade medium moment limits old new h (acts ++ others)
    makes-both limits old mid new h acts others one two = record {
      seen = two.seen ++ one.seen;
      steps = steps-both medium moment limits old mid h acts one.seen new others two.seen one.steps two.steps;
      comes = rw (after-both limits h acts others)
          (comes-both limits old mid new h (after limits h acts) (after limits (after limits h acts) others) one.comes two.comes);
    }

    -- one call
    pub makes-one : (limits : Limits) (old new : StoredHub D) (h : Clients) (act : Act) (frames : List Seen) → IsAt moment act → IsShown old.hub act
        → Sees old.hub h act frames → Comes medium limits old new h (after_one limits h act) → CallsMade medium moment limits old new h (act ∷ [])
    makes-one limits old new h act frames is shown sees comes = record {
      seen = frames ++ [];
      steps = one_step old new [] [] act frames no_step is shown sees (call_serves (after_one limits h act) (client-call limits h act) comes);
      comes = comes;
    }

    -- these calls are made, whatever the clients are
    abbrev pub Makes : StoredHub D → StoredHub D → List Act → Type 0
    Makes old new acts = (limits : Limits) (h : Clients) → StoredMatches limits old h → CallsMade medium moment limits old new h acts

    pub made-both : (old mid new : StoredHub D) (acts others : List Act) → Makes old mid acts → Makes mid new others → Makes old new (acts ++ others)
    made-both old mid new acts others one two limits h m =
        let a = one limits h m in
        makes-both limits old mid new h acts others a (two limits (after limits h acts) a.comes.matches)

    -- one call that lets time pass
    pub made-one : (old new : StoredHub D) (act : Act) → IsAt moment act → IsShown old.hub act → ((h : Clients) → Sees old.hub h act [])
        → Serves medium old new (λ limits h. after_one limits h act) → Makes old new (act ∷ [])
    made-one old new act is shown sees serves limits h m = makes-one limits old new h act [] is shown (sees h) (serves limits h m)

    -- the hub's events were made to last
    pub made-released : (old new : StoredHub D) → ((limits : Limits) (h : Clients) → StoredMatches limits old h → StoredMatches limits new h)
        → Takes medium old.store [] new.store → Makes old new (Releases ∷ [])
    made-released old new same takes limits h m =
        makes-one limits old new h Releases [] tt tt refl
        (record { matches = same limits h m; events = []; adds = sym (append-nil h.events); takes = takes })

    pub made-goes : (old new : StoredHub D) (acts : List Act) → Makes old new acts → RunsCalls medium moment old new
    made-goes old new acts made limits h m = (acts, made limits h m)

    pub goes-both : (old mid new : StoredHub D) → RunsCalls medium moment old mid → RunsCalls medium moment mid new → RunsCalls medium moment old new
    goes-both old mid new one two limits h m =
        let a = one limits h m in
        let b = two limits (after limits h a.0) a.1.comes.matches in
        (a.0 ++ b.0, makes-both limits old mid new h a.0 b.0 a.1 b.1)

    -- time passes, and then the other calls are made
    pub goes-round : (old mid new : StoredHub D) → Serves medium old mid (λ limits h. tick limits h moment) → RunsCalls medium moment mid new
        → RunsRound medium moment old new
    goes-round old mid new serves goes limits h m =
        let one = made-one old mid (Ticks moment) refl tt (λ h. refl) serves limits h m in
        let a = goes limits (tick limits h moment) one.comes.matches in
        (a.0, makes-both limits old mid new h (Ticks moment ∷ []) a.0 one a.1)

    -- calls of which something holds
    pub such-goes : (old new : StoredHub D) (Such : List Act → Type 0) → RunsSuch medium moment old new Such → RunsCalls medium moment old new
    such-goes old new Such such limits h m = let a = such limits h m in (a.0, a.1)

    pub such-weaker : (old new : StoredHub D) (Such Other : List Act → Type 0) → ((acts : List Act) → Such acts → Other acts)
        → RunsSuch medium moment old new Such → RunsSuch medium moment old new Other
    such-weaker old new Such Other weaker such limits h m = let a = such limits h m in (a.0, a.1, weaker a.0 a.2)

    pub made-such : (old new : StoredHub D) (acts : List Act) (Such : List Act → Type 0) → Makes old new acts → Such acts
        → RunsSuch medium moment old new Such
    made-such old new acts Such made such limits h m = (acts, made limits h m, such)

    pub such-both : (old mid new : StoredHub D) (One Two Both : List Act → Type 0) → RunsSuch medium moment old mid One → RunsSuch medium moment mid new Two
        → ((acts others : List Act) → One acts → Two others → Both (acts ++ others)) → RunsSuch medium moment old new Both
    such-both old mid new One Two Both one two both limits h m =
        let a = one limits h m in
        let b = two limits (after limits h a.0) a.1.comes.matches in
        (a.0 ++ b.0, makes-both limits old mid new h a.0 b.0 a.1 b.1, both a.0 b.0 a.2 b.2)

  -- calls that leave the store as it is
  module _ (law : (d : D) (image : Image) → (medium d).images_since (medium d).moment image → (medium d).images_now image) where
    pub comes-still : (limits : Limits) (old new : StoredHub D) (h now : Clients) → StoredMatches limits old h → new.store ≡ old.store
        → now.events ≡ h.events → HubMatches limits old.store.confirmed new.hub now → Comes medium limits old new h now
    comes-still limits old new h now m store events does =
        record {
          matches = record { hub = rw store does; counts = rw (store, events) m.counts };
          events = [];
          adds = events ∙ sym (append-nil h.events);
          takes = rw store (Takes-none medium law old.store);
        }

    pub comes-none : (limits : Limits) (hub : StoredHub D) (h : Clients) → StoredMatches limits hub h → Comes medium limits hub hub h h
    comes-none limits hub h m = comes-still limits hub hub h h m refl refl m.hub

    pub makes-none : (moment : ℕ) (limits : Limits) (hub : StoredHub D) (h : Clients) → StoredMatches limits hub h
        → CallsMade medium moment limits hub hub h []
    makes-none moment limits hub h m = record { seen = []; steps = no_step; comes = comes-none limits hub h m }

    pub made-none : (moment : ℕ) (hub : StoredHub D) → Makes moment hub hub []
    made-none moment hub limits h m = makes-none moment limits hub h m

    pub goes-none : (moment : ℕ) (hub : StoredHub D) → RunsCalls medium moment hub hub
    goes-none moment hub limits h m = ([], makes-none moment limits hub h m)

    made-connected : (moment : ℕ) (old new : StoredHub D) (conn : ℕ) → Simulates old.hub new.hub (λ limits h. after_one limits h (Connects conn))
        → new.store ≡ old.store → Makes moment old new (Connects conn ∷ [])
    made-connected moment old new conn does store limits h m =
        makes-one moment limits old new h (Connects conn) [] tt tt refl
        (comes-still limits old new h _ m store refl (does limits old.store.confirmed h m.hub))

    -- nothing was done
    pub joins-none : (moment : ℕ) (hub : StoredHub D) → RunsSuch medium moment hub hub (OnlyJoins hub.hub hub.hub)
    joins-none moment hub =
        made-such moment hub hub [] (OnlyJoins hub.hub hub.hub) (made-none moment hub)
        (record { spares = λ number there. All-nil (Spares number); stays = λ number there. there })

    -- a connection was made, under a number that was not in use, or refused
    pub joins-asked : (moment : ℕ) (old new : StoredHub D) (conn : ℕ) (result : Result ⊤ ConnectError)
        → OnOk result (Simulates old.hub new.hub (λ limits h. after_one limits h (Connects conn)))
        → OnOk result ((other : ℕ) → is_connected new.hub other ≡ (other == conn || is_connected old.hub other)) → new.store ≡ old.store
        → ((result ≡ Err Stopped) ↔ HasStopped old) → ((result ≡ Err InUse) ↔ ((¬ HasStopped old) × (is_connected old.hub conn ≡ true)))
        → OnErr result (new ≡ old) → RunsSuch medium moment old new (OnlyJoins old.hub new.hub)
    joins-asked moment old new conn (Err refusal) ok joins store stopped in_use err = rw err (joins-none moment old)
    joins-asked moment old new conn (Ok done) ok joins store stopped in_use err =
        made-such moment old new (Connects conn ∷ []) (OnlyJoins old.hub new.hub) (made-connected moment old new conn ok store)
        (record {
          spares = λ number there. All-cons (Spares number) (Connects conn) [] (λ same. taken (rw (sym same) at there)) (All-nil (Spares number));
          stays = λ number there. joins number ∙ ap (λ (b : Bool). number == conn || b) there ∙ or-true (number == conn);
        })
      where
        going : ¬ HasStopped old
        going = λ has. let never = stopped.1 has in cc

        taken : is_connected old.hub conn ≡ true → ⊥
        taken there = let never = in_use.1 (going, there) in cc

    pub sends-made : (moment : ℕ) (old new : StoredHub D) (told : List Act) → Sends old new told → Makes moment old new told
    sends-made moment old _ _ no_send = made-none moment old
    sends-made moment old new _ (one_send last _ told conn bytes before begins does store) =
        made-both moment old last new told (Consumes conn bytes ∷ []) (sends-made moment old last told before)
        (λ limits h m.
        let shows = shows-some limits last.store.confirmed last.hub h conn m.hub begins.connected in
        makes-one moment limits last new h (Consumes conn bytes) shows.0 tt begins shows.1
        (comes-still limits last new h _ m store (consume-events h conn (length bytes)) (does limits last.store.confirmed h m.hub)))

  -- ---- steps that broke off

  module _ (counts : D → Counts) (moment : ℕ) where
    -- a call was refused after some steps
    pub breaks-at : (old mid new : StoredHub D) (error : CommitError) → RunsCalls medium moment old mid → Halts medium counts mid new error
        → StopsAt medium counts moment old new error
    breaks-at old mid new error goes halts limits h m =
        let a = goes limits h m in
        record { acts = a.0; before = mid; makes = a.1; halted = new; halts = halts; told = []; sends = sends-none new }

    -- steps broke off after some others
    pub breaks-later : (old mid new : StoredHub D) (error : CommitError) → RunsCalls medium moment old mid → StopsAt medium counts moment mid new error
        → StopsAt medium counts moment old new error
    breaks-later old mid new error goes breaks limits h m =
        let a = goes limits h m in
        let b = breaks limits (after limits h a.0) a.1.comes.matches in
        record {
          acts = a.0 ++ b.acts;
          before = b.before;
          makes = makes-both moment limits old mid b.before h a.0 b.acts a.1 b.makes;
          halted = b.halted;
          halts = b.halts;
          told = b.told;
          sends = b.sends;
        }

    -- and then clients were sent something
    pub breaks-sent : (old mid new : StoredHub D) (error : CommitError) (more : List Act) → StopsAt medium counts moment old mid error
        → Sends mid new more → StopsAt medium counts moment old new error
    breaks-sent old mid new error more breaks sent limits h m =
        let b = breaks limits h m in
        record {
          acts = b.acts;
          before = b.before;
          makes = b.makes;
          halted = b.halted;
          halts = b.halts;
          told = b.told ++ more;
          sends = sends-both b.halted mid new b.told more b.sends sent;
        }

    -- what a turn answers then
    pub breaks-off : (old new : StoredHub D) (error : CommitError) → StopsAt medium counts moment old new error
        → BreaksOff medium counts moment old new (of_commit_error error)
    breaks-off old new commit.Device breaks = breaks
    breaks-off old new commit.Stopped breaks = inr breaks
