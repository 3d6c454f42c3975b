-- What batches lead to, and what one batch more does.
use Rattle.std.proofs.Common.{◌≡◌, ℕ, List, [], ◌∷◌, ◌++◌, refl, sym, ap, subst, ◌∙◌, append-nil}
use Rattle.std.specs.Prelude.{All}
use Rattle.std.proofs.lemmas.List.Elements.{All-nil, All-cons, All-append}
use Rattle.std.proofs.lemmas.List.Concat.{flat_map-append}
use Rattle.ipc_limits.specs.declared.limits.Limits.{Limits}
use Rattle.ipc_state.specs.State.{State}
use Rattle.ipc_engine.specs.Event.{PlainEvent}
use Rattle.ipc_engine.specs.Step.{step, run}
use Rattle.ipc_engine.proofs.CallerLemmas.{run-parts}
use Rattle.ipc_store.specs.Batch.{AreBatchOf}
use Rattle.ipc_store.specs.Image.{AreFor, events_of, LeadToBy}

-- events that were for the state, and events for the state after them
pub AreFor-parts : (limits : Limits) (s : State) (before after : List PlainEvent) → AreFor limits s before
    → AreFor limits (run limits s before).state after → AreFor limits s (before ++ after)
AreFor-parts limits s [] after here then = then
AreFor-parts limits s (e ∷ before) after here then = (here.0, AreFor-parts limits (step limits s e).state before after here.1 then)

pub AreFor-first : (limits : Limits) (s : State) (xs ys : List PlainEvent) → AreFor limits s (xs ++ ys) → AreFor limits s xs
AreFor-first limits s [] ys all = tt
AreFor-first limits s (x ∷ xs) ys all = (all.0, AreFor-first limits (step limits s x).state xs ys all.1)

-- no batch leads to the same state
pub LeadTo-start : (most : ℕ) (limits : Limits) (from : State) → LeadToBy most limits from [] from
LeadTo-start most limits from = record { each = All-nil (AreBatchOf most); named = tt; state = refl }

-- more batches lead on
pub LeadTo-many : (most : ℕ) (limits : Limits) (from : State) (batches more : List (List PlainEvent)) (s : State)
    → LeadToBy most limits from batches s → All (AreBatchOf most) more → AreFor limits s (events_of more)
    → LeadToBy most limits from (batches ++ more) (run limits s (events_of more)).state
LeadTo-many most limits from batches more s leads each named =
    let all : events_of (batches ++ more) ≡ events_of batches ++ events_of more = flat_map-append (λ (es : List PlainEvent). es) batches more in
    let next : AreFor limits (run limits from (events_of batches)).state (events_of more) =
    subst (λ (t : State). AreFor limits t (events_of more)) leads.state named in
    record {
      each = All-append (AreBatchOf most) batches more leads.each each;
      named = subst (λ (es : List PlainEvent). AreFor limits from es) (sym all)
          (AreFor-parts limits from (events_of batches) (events_of more) leads.named next);
      state =
          ap (λ (t : State). (run limits t (events_of more)).state) leads.state ∙ sym (run-parts limits from (events_of batches) (events_of more))
          ∙ ap (λ (es : List PlainEvent). (run limits from es).state) (sym all);
    }

-- so does one
pub LeadTo-more : (most : ℕ) (limits : Limits) (from : State) (batches : List (List PlainEvent)) (events : List PlainEvent) (s : State)
    → LeadToBy most limits from batches s → AreBatchOf most events → AreFor limits s events
    → LeadToBy most limits from (batches ++ events ∷ []) (run limits s events).state
LeadTo-more most limits from batches events s leads batch named =
    let one : events_of (events ∷ []) ≡ events = append-nil events in
    subst (λ (es : List PlainEvent). LeadToBy most limits from (batches ++ events ∷ []) (run limits s es).state) one
    (LeadTo-many most limits from batches (events ∷ []) s leads (All-cons (AreBatchOf most) events [] batch (All-nil (AreBatchOf most)))
    (subst (λ (es : List PlainEvent). AreFor limits s es) (sym one) named))
