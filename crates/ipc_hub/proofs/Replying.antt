-- Each frame of a client is an answer to it, whatever calls of the definitions came.
use Rattle.std.proofs.Common.{◌≡◌, ℕ, ◌+◌, List, [], ◌∷◌, ◌++◌, Option, Some, None, inl, inr, refl, sym, ap, ◌∙◌, append_assoc}
use Rattle.std.specs.Prelude.{All, nat_eq}
use Rattle.std.proofs.lemmas.List.Elements.{All-nil, All-cons, All-push}
use Rattle.ipc_base.specs.declared.errno.Errno.TheVariants.{EIO}
use Rattle.ipc_limits.specs.declared.limits.Limits.{Limits}
use Rattle.ipc_base.specs.Table.{without, EachValue}
use Rattle.ipc_base.proofs.CallerLemmas.{each-at, each-with, each-without, each-entry, each-seen}
use Rattle.ipc_state.specs.State.{State}
use Rattle.ipc_engine.specs.Event.{PlainEvent, PlainOutcome, Tick}
use Rattle.ipc_engine.specs.Step.{step, run}
use Rattle.ipc_engine.proofs.CallerLemmas.{run-parts}
use Rattle.ipc_hub.specs.Hub.{client_at, refusal}
use Rattle.ipc_hub.specs.Clients.{Frame, Client, Clients, client_endpoint, confirmed_frames, consume, consumed_from, cut_off, fail, process_at}
use Rattle.ipc_hub.specs.Clients.{start_client, tick}
use Rattle.ipc_hub.specs.Lives.{ClientCall}
use Rattle.ipc_hub.specs.Lives.ClientCall.{Connects as to_connect, Consumes as to_consume, Ticks as to_tick}
use Rattle.ipc_hub.specs.Lives.ClientCall.{Feeds as to_feed, HangsUp as to_hang_up, Stays as to_stay}
use Rattle.ipc_hub.specs.Replies.{IsAnswer, IsFor}
use Rattle.ipc_hub.specs.Replies.IsAnswer.{Reply, Refusal}
use Rattle.ipc_hub.proofs.Framed.{Framed, Says, framed-kept, framed-push, framed-self, framed-each}
use Rattle.ipc_hub.proofs.Deliveries.{confirmed-weaker, consumed-all}
use Rattle.ipc_hub.proofs.Kept.{Related, Allows, CanPush, IsKept, accepts, leaves, taken-kept}

-- what is for a connection that has joined as none is for it after it has joined
for-none : (p : Option ℕ) (pid : ℕ) → IsFor None pid → IsFor p pid
for-none p pid (inl own) = cc
for-none p pid (inr none) = inr none

-- the first of the events are these
module _ (limits : Limits) (base : State) (from : List PlainEvent) where
  abbrev pub Answer : List PlainEvent → Option ℕ → Frame → Type 0
  Answer = IsAnswer limits base

  pub answer-more : (events more : List PlainEvent) (p : Option ℕ) (f : Frame) → Answer events p f → Answer (events ++ more) p f
  answer-more events more p f (Reply before after e front back o is gave mine mark bytes) =
      Reply before (after ++ more) e front back o
      (sym (append_assoc before (e ∷ after) more) ∙ ap (λ (es : List PlainEvent). es ++ more) is) gave mine mark bytes
  answer-more events more p f (Refusal serial e which bytes) = Refusal serial e which bytes

  answer-joined : (events : List PlainEvent) (pid : ℕ) (f : Frame) → Answer events None f → Answer events (Some pid) f
  answer-joined events pid f (Reply before after e front back o is gave mine mark bytes) =
      Reply before after e front back o is gave (for-none (Some pid) o.pid mine) mark bytes
  answer-joined events pid f (Refusal serial e which bytes) = Refusal serial e which bytes

  -- each reply of the next event may be put to the frames, and a refusal at any time
  each-reply : (es : List PlainEvent) (e : PlainEvent) (front os : List PlainOutcome) → front ++ os ≡ (step limits (run limits base es).state e).outcomes
      → All (CanPush client_endpoint client_endpoint (Framed Answer) (es ++ e ∷ [])) os
  each-reply es e front [] is = All-nil (CanPush client_endpoint client_endpoint (Framed Answer) (es ++ e ∷ []))
  each-reply es e front (o ∷ os) is =
      All-cons (CanPush client_endpoint client_endpoint (Framed Answer) (es ++ e ∷ [])) o os
      (framed-push Answer (es ++ e ∷ []) o (λ p mine. Reply es [] e front os o refl is mine refl refl))
      (each-reply es e (front ++ o ∷ []) os (append_assoc front (o ∷ []) os ∙ is))

  -- the state is that after the events, of which those were the first
  abbrev Ran : List PlainEvent → State → List PlainEvent → Type 0
  Ran ds s es = (s ≡ (run limits base es).state) × ((more : List PlainEvent) × (es ≡ from ++ more))

  allowed : Allows client_endpoint client_endpoint (Framed Answer) Ran limits
  allowed =
      record {
        next = λ ds s es e ran. (
          ap (λ (t : State). (step limits t e).state) ran.0 ∙ sym (run-parts limits base es (e ∷ [])),
          (
            ran.1.0 ++ e ∷ [],
            ap (λ (xs : List PlainEvent). xs ++ e ∷ []) ran.1.1 ∙ append_assoc from ran.1.0 (e ∷ []),
          ),
        );
        replies = λ ds s es e ran. each-reply es e [] (step limits s e).outcomes (ap (λ (t : State). (step limits t e).outcomes) ran.0);
        refusals = λ es serial error which. framed-push Answer es (refusal serial error) (λ p mine. Refusal serial error which refl);
      }

  -- ---- all clients

  pub record IsTold (h : Clients) : Type 0 where
    pub state : Ran h.events h.state h.events
    pub each : EachValue (Says Answer h.events) h.clients

  -- so it is of a hub that is the same but for marks
  as-one : (h : Clients) → IsTold h → Related client_endpoint client_endpoint (Framed Answer) Ran h h
  as-one h t = record { state = refl; clients = framed-self Answer h.events h.clients t.each; known = t.state }

  told-of : (g h : Clients) → Related client_endpoint client_endpoint (Framed Answer) Ran g h → IsTold h
  told-of g h b = record { state = b.known; each = (framed-each Answer h.events g.clients h.clients b.clients).0 }

  answers-kept : IsKept client_endpoint client_endpoint (Framed Answer)
  answers-kept = framed-kept Answer (λ es e. answer-more es (e ∷ [])) answer-joined

  told-tick : (h : Clients) (moment : ℕ) → IsTold h → IsTold (tick limits h moment)
  told-tick h moment t =
      told-of (tick limits h moment) (tick limits h moment)
      (accepts client_endpoint client_endpoint (Framed Answer) answers-kept Ran limits allowed (Tick moment) (as-one h t))

  -- frames are taken
  told-consume : (h : Clients) (conn count : ℕ) → IsTold h → IsTold (consume h conn count)
  told-consume h conn count told = by_client (client_at h conn) refl
    where
      by_client : (found : Option Client) → client_at h conn ≡ found → IsTold (consume h conn count)
      by_client None is = rw is told
      by_client (Some c) is =
          let rest = consumed_from c.frames (c.consumed + count) in
          let says = consumed-all (Answer h.events c.joined_as) c.frames (c.consumed + count) (each-at (Says Answer h.events) h.clients conn c told.each is) in
          rw is (record {
            state = told.state;
            each = each-with (Says Answer h.events) h.clients conn (record c { frames = rest.0; consumed = rest.1 }) told.each says;
          })

  pub told-fail : (h : Clients) (confirmed : ℕ) → IsTold h → IsTold (fail confirmed h)
  told-fail h confirmed told =
      let P : Client → Type 0 = Says Answer h.events in
      record {
        state = told.state;
        each = each-seen P P P h.clients (cut_off confirmed) told.each told.each
            (λ c says also.
            let Mine : Frame → Type 0 = Answer h.events c.joined_as in
            All-push Mine (confirmed_frames confirmed c.frames) _
            (confirmed-weaker Mine Mine confirmed c.frames (λ f le is. is) says) (Refusal 0 EIO (inr (inr refl)) refl));
      }

  -- a call of the definitions
  pub told-call : (h next : Clients) → IsTold h → ClientCall limits h next → IsTold next
  told-call h _ told (to_connect conn) =
      record { state = told.state; each = each-entry (Says Answer h.events) h.clients conn start_client told.each (All-nil (Answer h.events None)) }
  told-call h _ told (to_consume conn count) = told-consume h conn count told
  told-call h _ told (to_tick moment) = told-tick h moment told
  told-call h _ told (to_feed conn bytes moment refused) =
      let now : Clients = tick limits h moment in
      told-of _ _ (taken-kept client_endpoint client_endpoint (Framed Answer) answers-kept Ran limits allowed conn moment now now bytes
      refused (as-one now (told-tick h moment told)))
  told-call h _ told (to_hang_up conn moment) =
      let now : Clients = tick limits h moment in
      let gone : Clients = record now { clients = without nat_eq now.clients conn } in
      let timed = told-tick h moment told in
      told-of _ _ (leaves client_endpoint client_endpoint (Framed Answer) answers-kept Ran limits allowed (process_at now conn) moment
      (as-one gone (record { state = timed.state; each = each-without (Says Answer now.events) now.clients conn timed.each })))
  told-call h _ told to_stay = told
