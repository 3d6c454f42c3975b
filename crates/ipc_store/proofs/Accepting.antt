-- An event that is accepted waits after the others.
use Rattle.std.proofs.Common.{◌≡◌, ℕ, ◌+◌, ◌++◌, List, [], ◌∷◌, sym, ap, subst, ◌∙◌, append-nil, arith}
use Rattle.std.proofs.lemmas.List.{length-append}
use Rattle.std.proofs.lemmas.List.Elements.{All-nil, All-cons, All-append}
use Rattle.std.proofs.lemmas.List.Concat.{flat_map-append}
use Rattle.ipc_limits.specs.declared.limits.Limits.{Limits}
use Rattle.ipc_disk.specs.Medium.{Medium}
use Rattle.ipc_state.specs.State.{State}
use Rattle.ipc_engine.specs.Changes.{IsTracked}
use Rattle.ipc_engine.specs.Engine.{Machine, IsForProcess}
use Rattle.ipc_engine.specs.Event.{PlainEvent}
use Rattle.ipc_engine.specs.Step.{step, run}
use Rattle.ipc_engine.proofs.CallerLemmas.{run-parts}
use Rattle.ipc_image.specs.Records.{record_bytes, HasRecord}
use Rattle.ipc_store.specs.Batch.{records_of}
use Rattle.ipc_store.specs.Image.{AreFor}
use Rattle.ipc_store.specs.View.{StoreView}
use Rattle.ipc_store.specs.Relations.Matches.{DeviceMatches, StoreMatches}
use Rattle.ipc_store.proofs.Histories.{AreFor-parts}

-- the records with one more
pub records-more : (events : List PlainEvent) (e : PlainEvent) → records_of (events ++ e ∷ []) ≡ records_of events ++ record_bytes e
records-more events e =
    flat_map-append record_bytes events (e ∷ []) ∙ ap (λ (x : List ℕ). records_of events ++ x) (append-nil (record_bytes e))

module _ {D : Type 0} (medium : Medium) (store : StoreView D) (base : State) (pending : List PlainEvent) where
  -- the event is the last of those that wait
  pub accepted : StoreMatches medium store base pending → (e : PlainEvent) → HasRecord e → IsForProcess store.machine.state e
      → (machine : Machine) → machine.limits ≡ store.machine.limits → machine.state ≡ (step store.machine.limits store.machine.state e).state
      → ((saved : State) → IsTracked store.machine.changed saved store.machine.state → IsTracked machine.changed saved machine.state)
      → (records : List ℕ) → records ≡ store.records ++ record_bytes e → (waiting : ℕ) → waiting ≡ store.waiting + 1
      → StoreMatches medium (record store { machine = machine; records = records; waiting = waiting }) base (pending ++ e ∷ [])
  accepted at e has named machine limits state tracks records records-are waiting waiting-is =
      let waits = at.waits in
      let before : State = (run store.machine.limits base pending).state in
      let for : IsForProcess before e = subst (λ (s : State). IsForProcess s e) waits.state named in
      let events : AreFor store.machine.limits base (pending ++ e ∷ []) =
      AreFor-parts store.machine.limits base pending (e ∷ []) waits.named (for, tt) in
      let after : machine.state ≡ (run store.machine.limits base (pending ++ e ∷ [])).state =
      state ∙ ap (λ (s : State). (step store.machine.limits s e).state) waits.state ∙ sym (run-parts store.machine.limits base pending (e ∷ [])) in
      let Both : Limits → Type 0 =
      λ l. (d : DeviceMatches medium l store.checkpoint store.journal base) × IsTracked machine.changed d.from machine.state in
      let both : Both machine.limits = subst Both (sym limits) (at.device, tracks at.device.from at.tracked) in
      record {
        running = at.running;
        device = both.0;
        waits = record {
          records = records-are ∙ ap (λ (x : List ℕ). x ++ record_bytes e) waits.records ∙ sym (records-more pending e);
          count = omega (arith, waiting-is, waits.count, length-append pending (e ∷ []));
          each = All-append HasRecord pending (e ∷ []) waits.each (All-cons HasRecord e [] has (All-nil HasRecord));
          named = subst (λ (l : Limits). AreFor l base (pending ++ e ∷ [])) (sym limits) events;
          state = subst (λ (l : Limits). machine.state ≡ (run l base (pending ++ e ∷ [])).state) (sym limits) after;
        };
        tracked = both.1;
      }
