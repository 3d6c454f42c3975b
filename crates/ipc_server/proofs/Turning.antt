-- Turns as calls on the hub.
use Rattle.std.proofs.Common.{◌≡◌, ◌≤◌, ℕ, List, [], ◌∷◌, ◌++◌, All, Contains, drop, length, inl, inr, sym, ap, subst, ◌∙◌, append_assoc, arith}
use Rattle.std.proofs.lemmas.List.Elements.{All-contains_itself, All-nil, All-push, All-weaker, Contains-append_left, Contains-append_right}
use Rattle.ipc_limits.specs.declared.limits.Limits.{Limits}
use Rattle.ipc_disk.specs.Counts.{Counts}
use Rattle.ipc_disk.specs.Medium.{Medium}
use Rattle.ipc_store.specs.declared.fault.CommitError.{CommitError}
use Rattle.ipc_store.specs.declared.fault.CommitError.TheVariants as commit
use Rattle.ipc_store.specs.View.{StoreView}
use Rattle.ipc_hub.specs.Clients.{Clients, consume, fail}
use Rattle.ipc_hub.specs.Lives.{HubCall, Seen, Serving}
use Rattle.ipc_hub.specs.Lives.ClientCall.{Consumes as to_consume}
use Rattle.ipc_hub.specs.Lives.HubCall.{Still, Fails as call_fails}
use Rattle.ipc_hub.specs.Lives.Serving.{New as serving_new, Call, Look as serving_look}
use Rattle.ipc_hub.specs.View.{HubView, StoredHub}
use Rattle.ipc_hub.specs.Relations.Faults.{Fails, Halts}
use Rattle.ipc_hub.specs.Relations.Matches.{HubMatches, StoredMatches}
use Rattle.ipc_server.specs.declared.fault.ServeFault.{ServeFault}
use Rattle.ipc_server.specs.declared.fault.ServeFault.TheVariants.{Device, Socket, Stopped}
use Rattle.ipc_server.specs.Acts.{Act, IsShown, Sees, after, after_one}
use Rattle.ipc_server.specs.Acts.Act.{Connects, Ticks, Feeds, HangsUp, Releases, Consumes}
use Rattle.ipc_server.specs.Runs.{StopsAt, BreaksOff, RunsRound, Sends, Steps}
use Rattle.ipc_server.specs.Runs.Sends.{None as no_send, More as one_send}
use Rattle.ipc_server.specs.Runs.Steps.{None as no_step, More as one_step}
use Rattle.ipc_server.specs.Served.{Served, StopsShort}
use Rattle.ipc_server.specs.Served.Served.{None as no_turn, More as one_turn}
use Rattle.ipc_server.specs.Turns.{GoesOn, SendsFrom, SendsOf, Turns}
use Rattle.ipc_server.specs.Turns.Turns.{New, Go, Break, Look}
use Rattle.ipc_server.proofs.Going.{after-both, consume-events}
use Rattle.ipc_server.proofs.Showing.{seen-own, shows-some}

-- ---- the bytes that clients were sent

-- they are of more frames too
of-wider : (frames wider : List Seen) → ((f : Seen) → Contains frames f → Contains wider f) → (acts : List Act) → All (SendsOf frames) acts
    → All (SendsOf wider) acts
of-wider frames wider more =
    All-weaker (SendsOf frames) (SendsOf wider) (λ act one. (one.0, All-weaker (Contains frames) (Contains wider) more one.0 one.1, one.2))

contained-left : (frames more : List Seen) → All (Contains (frames ++ more)) frames
contained-left frames more =
    All-weaker (Contains frames) (Contains (frames ++ more)) (Contains-append_left frames more) frames (All-contains_itself frames)

of-call : (hub : HubView) (h : Clients) (act : Act) (frames : List Seen) → IsShown hub act → Sees hub h act frames → SendsFrom frames act
of-call hub h (Connects conn) frames shown sees = tt
of-call hub h (Ticks at_moment) frames shown sees = tt
of-call hub h (Feeds conn bytes at_moment refused) frames shown sees = tt
of-call hub h (HangsUp conn at_moment) frames shown sees = tt
of-call hub h Releases frames shown sees = tt
of-call hub h (Consumes conn bytes) frames shown sees =
    let own = seen-own hub h conn frames sees in
    (own.0, sees.client.consumed, shown.rest, ap (drop sees.client.consumed) own.1 ∙ sym sees.output ∙ shown.first)

-- each byte that a client was sent is of a frame that was in an output
pub sent-of : {D : Type 0} (medium : D → Medium) (limits : Limits) (moment : ℕ) (first : StoredHub D) (h : Clients) (next : StoredHub D) (acts : List Act)
    (frames : List Seen) → Steps medium moment limits first h next acts frames → All (SendsOf frames) acts
sent-of medium limits moment first h _ _ _ no_step = All-nil (SendsOf [])
sent-of medium limits moment first h next _ _ (one_step last _ acts seen act frames before is shown sees call) =
    All-push (SendsOf (frames ++ seen)) acts act
    (of-wider seen (frames ++ seen) (Contains-append_right frames seen) acts (sent-of medium limits moment first h last acts seen before))
    (frames, contained-left frames seen, of-call last.hub (after limits h acts) act frames shown sees)

module _ {D : Type 0} (medium : D → Medium) (limits : Limits) (opened : StoreView D) where
  -- ---- turns as calls

  -- the output that a client is sent from is looked at first
  looks : (last : StoredHub D) (h : Clients) (seen frames : List Seen) (act : Act) → Serving medium limits opened last h seen
      → Sees last.hub h act frames → Serving medium limits opened last h (frames ++ seen)
  looks last h seen frames act serving sees = by act sees
    where
      nothing : frames ≡ [] → Serving medium limits opened last h (frames ++ seen)
      nothing none = rw none serving

      by : (act : Act) → Sees last.hub h act frames → Serving medium limits opened last h (frames ++ seen)
      by (Connects conn) none = nothing none
      by (Ticks at_moment) none = nothing none
      by (Feeds conn bytes at_moment refused) none = nothing none
      by (HangsUp conn at_moment) none = nothing none
      by Releases none = nothing none
      by (Consumes conn bytes) shows = serving_look last h seen frames conn serving shows

  -- the calls of a turn are calls on the hub
  serving-steps : (moment : ℕ) (first : StoredHub D) (h : Clients) (seen : List Seen) (next : StoredHub D) (acts : List Act) (frames : List Seen)
      → Serving medium limits opened first h seen → Steps medium moment limits first h next acts frames
      → Serving medium limits opened next (after limits h acts) (frames ++ seen)
  serving-steps moment first h seen _ _ _ serving no_step = serving
  serving-steps moment first h seen next _ _ serving (one_step last _ acts more act frames before is shown sees call) =
      let now : Clients = after limits h acts in
      let so_far = serving-steps moment first h seen last acts more serving before in
      rw (after-both limits h acts (act ∷ []), append_assoc frames more seen)
      (Call last next now (after_one limits now act) (frames ++ (more ++ seen)) (looks last now (more ++ seen) frames act so_far sees) call)

  -- so are those of all turns
  pub serving : (moment : ℕ) (last : StoredHub D) (now : Clients) (seen : List Seen) → Turns medium limits opened moment last now seen
      → Serving medium limits opened last now seen
  serving _ hub _ _ (New _ store matches) = serving_new hub store matches
  serving moment next _ _ (Go before _ last _ now seen sent acts turns later steps) =
      serving-steps moment last now seen next acts sent (serving before last now seen turns) steps
  serving moment next _ seen (Break _ last _ now _ turns takes matches) =
      Call last next now (fail last.store.confirmed now) seen (serving moment last now seen turns) (call_fails takes matches)
  serving moment last now _ (Look _ _ _ seen frames conn turns shows) =
      serving_look last now seen frames conn (serving moment last now seen turns) shows

  -- ---- turns that go on

  -- from a turn on, and from there
  abbrev goes-further : (mid moment : ℕ) (hub next : StoredHub D) (seen : List Seen) (one : GoesOn medium limits opened mid hub seen)
      → GoesOn medium limits opened moment next (one.sent ++ seen) → GoesOn medium limits opened moment next seen
  goes-further mid moment hub next seen one two = record {
    clients = two.clients;
    sent = two.sent ++ one.sent;
    turns = subst (Turns medium limits opened moment next two.clients) (sym (append_assoc two.sent one.sent seen)) two.turns;
  }

  -- nothing more was done
  abbrev goes-nowhere : (moment : ℕ) (hub : StoredHub D) (now : Clients) (seen : List Seen) → Turns medium limits opened moment hub now seen
      → GoesOn medium limits opened moment hub seen
  goes-nowhere moment hub now seen turns = record { clients = now; sent = []; turns = turns }

  -- calls at one moment
  abbrev goes-steps : (before moment : ℕ) (last next : StoredHub D) (now : Clients) (seen sent : List Seen) (acts : List Act)
      → Turns medium limits opened before last now seen → before ≤ moment → Steps medium moment limits last now next acts sent
      → GoesOn medium limits opened moment next seen
  goes-steps before moment last next now seen sent acts turns later steps =
      record { clients = after limits now acts; sent = sent; turns = Go before moment last next now seen sent acts turns later steps }

  -- clients were sent something after a turn was broken off
  sent-on : (moment : ℕ) (first : StoredHub D) (h : Clients) (seen : List Seen) (confirmed : ℕ) → HubMatches limits confirmed first.hub h
      → (next : StoredHub D) (told : List Act) → Turns medium limits opened moment first h seen → Sends first next told
      → (goes : GoesOn medium limits opened moment next seen) × HubMatches limits confirmed next.hub goes.clients
  sent-on moment first h seen confirmed m _ _ turns no_send = (goes-nowhere moment first h seen turns, m)
  sent-on moment first h seen confirmed m next _ turns (one_send last _ told conn bytes before begins does store) =
      let so_far = sent-on moment first h seen confirmed m last told turns before in
      let now : Clients = so_far.0.clients in
      let shows = shows-some limits confirmed last.hub now conn so_far.1 begins.connected in
      let call : HubCall medium limits last now next (consume now conn (length bytes)) =
      Still (consume now conn (length bytes)) (to_consume conn (length bytes)) (consume-events now conn (length bytes)) store
      (λ sure m. does limits sure now m) in (
        goes-further moment moment last next seen so_far.0
            (goes-steps moment moment last next now (so_far.0.sent ++ seen) (shows.0 ++ []) (Consumes conn bytes ∷ []) so_far.0.turns (omega arith)
            (one_step last next [] [] (Consumes conn bytes) shows.0 no_step tt begins shows.1 call)),
        does limits confirmed now so_far.1,
      )

  -- one turn more
  pub turned : (before moment : ℕ) (last next : StoredHub D) (now : Clients) (seen : List Seen) → StoredMatches limits last now
      → Turns medium limits opened before last now seen → before ≤ moment → RunsRound medium moment last next
      → (goes : GoesOn medium limits opened moment next seen) × StoredMatches limits next goes.clients
  turned before moment last next now seen m turns later goes =
      let a = goes limits now m in
      (goes-steps before moment last next now seen a.1.seen (Ticks moment ∷ a.0) turns later a.1.steps, a.1.comes.matches)

  -- as many as a server has served for
  pub all-served : (since : ℕ) (last : StoredHub D) (now : Clients) (seen : List Seen) → StoredMatches limits last now
      → Turns medium limits opened since last now seen → (turns moment : ℕ) (next : StoredHub D) → Served medium since last turns moment next
      → (goes : GoesOn medium limits opened moment next seen) × StoredMatches limits next goes.clients
  all-served since last now seen m so_far _ _ _ no_turn = (goes-nowhere since last now seen so_far, m)
  all-served since last now seen m so_far _ moment next (one_turn count before _ mid _ served later goes lasts) =
      let went = all-served since last now seen m so_far count before mid served in
      let more = turned before moment mid next went.0.clients (went.0.sent ++ seen) went.1 went.0.turns later goes in
      (goes-further before moment mid next seen went.0 more.0, more.1)

  -- a turn that did nothing
  stays : (before moment : ℕ) (last next : StoredHub D) (now : Clients) (seen : List Seen) → Turns medium limits opened before last now seen
      → before ≤ moment → next ≡ last → GoesOn medium limits opened moment next seen
  stays before moment last next now seen turns later same =
      subst (λ (v : StoredHub D). GoesOn medium limits opened moment v seen) (sym same)
      (goes-steps before moment last last now seen [] [] turns later no_step)

  module _ (counts : D → Counts) where
    -- the call that broke off a turn, and what clients were sent after it
    broke-off : (moment : ℕ) (last halted next : StoredHub D) (now : Clients) (seen : List Seen) (error : CommitError) (told : List Act)
        → StoredMatches limits last now → Turns medium limits opened moment last now seen → Halts medium counts last halted error
        → Sends halted next told → GoesOn medium limits opened moment next seen
    broke-off moment last halted next now seen error told m turns halts sends = by error halts
      where
        failed : Fails medium last halted → GoesOn medium limits opened moment next seen
        failed fails =
            let matches = fails.matches limits now m in
            let then : Clients = fail last.store.confirmed now in
            (sent-on moment halted then seen last.store.confirmed matches next told
            (Break moment last halted now seen turns fails.takes matches) sends).0

        by : (e : CommitError) → Halts medium counts last halted e → GoesOn medium limits opened moment next seen
        by commit.Device halts = failed halts.0
        by commit.Stopped (inl same) =
            (sent-on moment last now seen last.store.confirmed m.hub next told turns (subst (λ (v : StoredHub D). Sends v next told) same.1 sends)).0
        by commit.Stopped (inr fails) = failed fails.0

    -- a turn that was broken off
    pub broken : (before moment : ℕ) (last next : StoredHub D) (now : Clients) (seen : List Seen) (error : CommitError) → StoredMatches limits last now
        → Turns medium limits opened before last now seen → before ≤ moment → StopsAt medium counts moment last next error
        → GoesOn medium limits opened moment next seen
    broken before moment last next now seen error m turns later breaks =
        let b = breaks limits now m in
        let gone = goes-steps before moment last b.before now seen b.makes.seen b.acts turns later b.makes.steps in
        goes-further moment moment b.before next seen gone
        (broke-off moment b.before b.halted next gone.clients (b.makes.seen ++ seen) error b.told b.makes.comes.matches gone.turns b.halts b.sends)

    -- a turn that was broken off, by any fault
    off : (fault : ServeFault) (before moment : ℕ) (last next : StoredHub D) (now : Clients) (seen : List Seen) → StoredMatches limits last now
        → Turns medium limits opened before last now seen → before ≤ moment → BreaksOff medium counts moment last next fault
        → GoesOn medium limits opened moment next seen
    off Socket before moment last next now seen m turns later same = stays before moment last next now seen turns later same
    off Device before moment last next now seen m turns later breaks = broken before moment last next now seen commit.Device m turns later breaks
    off Stopped before moment last next now seen m turns later (inl same) = stays before moment last next now seen turns later same.1
    off Stopped before moment last next now seen m turns later (inr breaks) = broken before moment last next now seen commit.Stopped m turns later breaks

    -- as many as a server has served for until a fault
    pub short : (since turns : ℕ) (last next : StoredHub D) (now : Clients) (seen : List Seen) (fault : ServeFault) → StoredMatches limits last now
        → Turns medium limits opened since last now seen → StopsShort medium counts since last turns next fault
        → (moment : ℕ) × GoesOn medium limits opened moment next seen
    short since turns last next now seen fault m so_far stops =
        let went = all-served since last now seen m so_far stops.count stops.before stops.last stops.served in (
          stops.moment,
          goes-further stops.before stops.moment stops.last next seen went.0
              (off fault stops.before stops.moment stops.last next went.0.clients (went.0.sent ++ seen) went.1 went.0.turns stops.later stops.breaks),
        )
