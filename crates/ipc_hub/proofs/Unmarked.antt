-- What a server does is the same, whatever number of events it has accepted; and a tick at a moment that has been does
-- nothing else than to be counted.
use Rattle.std.proofs.Common.{◌≡◌, ℕ, ◌≤◌, Bool, List, [], ◌∷◌, ◌++◌, length, max, get_or, Option, Some, None, refl, sym, ap, subst, ◌∙◌, arith, rules}
use Rattle.std.specs.Prelude.{nat_eq, if◌then◌else◌, option_map}
use Rattle.ipc_limits.specs.declared.limits.Limits.{Limits}
use Rattle.ipc_base.specs.Table.{value_at, EachValue, ArePaired}
use Rattle.ipc_base.proofs.CallerLemmas.{at-map}
use Rattle.ipc_wire.specs.Request.{PlainRequest}
use Rattle.ipc_wire.specs.Stream.{stream_of}
use Rattle.ipc_state.specs.State.{State}
use Rattle.ipc_engine.specs.Event.{PlainEvent, PlainOutcome, Tick, moment_of}
use Rattle.ipc_engine.specs.Sound.{NoneIsDue}
use Rattle.ipc_engine.specs.Step.{Step, step, silent}
use Rattle.ipc_hub.specs.Hub.{heard, deliver_all, refusal}
use Rattle.ipc_hub.specs.Clients.{Client, Clients, Frame, client_at, client_endpoint, take_in, tick, feed, arriving, fitted}
use Rattle.ipc_hub.specs.Unmarked.{unmarked}
use Rattle.ipc_hub.proofs.Framed.{Framed, Says, framed-kept, framed-push, framed-own, framed-self, framed-each}
use Rattle.ipc_hub.proofs.Kept.{CanPush, Related, Allows, taken-kept}
use Rattle.ipc_hub.proofs.Pieces.{heard-same, take_in-pieces}

-- any frame
abbrev Any : List PlainEvent → Option ℕ → Frame → Type 0
Any es p f = Unit {0}

any-push : (es : List PlainEvent) (o : PlainOutcome) → CanPush client_endpoint client_endpoint (Framed Any) es o
any-push es o = framed-push Any es o (λ p mine. tt)

any-each : (es : List PlainEvent) (cs : List (ℕ × Client)) → EachValue (Says Any es) cs
any-each es [] = tt
any-each es (c ∷ cs) = (λ k d within. tt, any-each es cs)

-- by what the laws of a step say, no deadline is left that has come, and the clock does not fall
module _ (limits : Limits) (step-early : (s : State) (e : PlainEvent) → NoneIsDue (step limits s e).state)
    (step-clock : (s : State) (e : PlainEvent) → (step limits s e).state.clock ≡ max s.clock (moment_of e)) (moment : ℕ) where
  abbrev Quiet : List PlainEvent → State → List PlainEvent → Type 0
  Quiet ds s es = (moment ≤ s.clock) × NoneIsDue s

  allowed : Allows client_endpoint client_endpoint (Framed Any) Quiet limits
  allowed =
      record {
        next = λ ds s es e quiet. (omega (arith, quiet.0, step-clock s e), step-early s e);
        replies = λ ds s es e quiet k d within. any-push (es ++ e ∷ []) (get_or (step limits s e).outcomes k d);
        refusals = λ es serial error is. any-push es (refusal serial error);
      }

  -- they differ in marks and counted events alone, and the second is quiet
  abbrev Alike : Clients → Clients → Type 0
  Alike = Related client_endpoint client_endpoint (Framed Any) Quiet

  taken-alike : (g h : Clients) (conn : ℕ) (bytes : List ℕ) (refused : List Bool) → Alike g h
      → Alike (take_in limits g conn bytes moment refused) (take_in limits h conn bytes moment refused)
  taken-alike g h conn bytes refused = search (rules, allowed, framed-kept, taken-kept)

  module _ (late-tick : (s : State) → NoneIsDue s → moment ≤ s.clock → step limits s (Tick moment) ≡ silent s) where
    tick-alike : (h : Clients) → Quiet [] h.state h.events → Alike (tick limits h moment) h
    tick-alike h quiet =
        let late = late-tick h.state quiet.1 quiet.0 in
        let mark : ℕ = length (h.events ++ Tick moment ∷ []) in
        record {
          state = ap (λ (t : Step). t.state) late;
          clients = subst (λ (t : Step). ArePaired (Framed Any h.events) (deliver_all client_endpoint mark h.clients t.outcomes) h.clients) (sym late)
              (framed-own Any h.events (heard client_endpoint mark []) (λ c. refl) h.clients (any-each h.events h.clients));
          known = quiet;
        }

    pub fed-pieces : (h : Clients) (conn : ℕ) (bytes more : List ℕ) (xs ys : List Bool)
        → unmarked (feed limits (feed limits h conn bytes moment xs) conn more moment ys)
        ≡ unmarked (feed limits h conn (bytes ++ more) moment (fitted (length (arriving (client_at h conn) bytes)) xs ++ ys))
    fed-pieces h conn bytes more xs ys =
        let now : Clients = tick limits h moment in
        let part : Clients = feed limits h conn bytes moment xs in
        let mark : ℕ = length (h.events ++ Tick moment ∷ []) in
        let os : List PlainOutcome = (step limits h.state (Tick moment)).outcomes in
        let quiet : Quiet [] now.state now.events = (omega (arith, step-clock h.state (Tick moment)), step-early h.state (Tick moment)) in
        let self : Alike now now =
        record { state = refl; clients = framed-self Any now.events now.clients (any-each now.events now.clients); known = quiet } in
        let both = taken-alike (tick limits part moment) part conn more ys (tick-alike part (taken-alike now now conn bytes xs self).known) in
        let last : Clients = take_in limits (tick limits part moment) conn more moment ys in
        let once : Clients = take_in limits part conn more moment ys in
        let bare = framed-each Any once.events last.clients once.clients both.clients in
        (λ i. record { state = both.state i; events = []; clients = bare.1 i })
        ∙ ap unmarked (take_in-pieces limits now conn moment bytes more xs ys)
        ∙ ap (λ (rs : List PlainRequest). unmarked (take_in limits now conn (bytes ++ more) moment (fitted (length rs) xs ++ ys)))
        (ap (λ (r : Option Client). arriving r bytes) (at-map (heard client_endpoint mark os) h.clients conn)
        ∙ by_client mark os (value_at nat_eq h.clients conn))
      where
        by_client : (mark : ℕ) (os : List PlainOutcome) (r : Option Client) → arriving (option_map (heard client_endpoint mark os) r) bytes ≡ arriving r bytes
        by_client mark os None = refl
        by_client mark os (Some c) = let same = heard-same mark os c in λ i. if same.1 i then [] else (stream_of (same.0 i ++ bytes)).requests
