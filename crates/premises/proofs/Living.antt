-- A life of one tick that is made to last, from the clauses of its calls.
use Rattle.std.proofs.Common.{◌≡◌, [], ◌∷◌, ℕ, refl, sym, subst, append-nil, arith}
use Rattle.ipc_limits.specs.declared.limits.Limits.{Limits}
use Rattle.ipc_disk.specs.Medium.{Medium, IsHonest}
use Rattle.ipc_engine.specs.Event.{Restart}
use Rattle.ipc_store.specs.Histories.{OpensOn, Takes}
use Rattle.ipc_store.specs.Lives.{IsLeft}
use Rattle.ipc_store.specs.View.{StoreView}
use Rattle.ipc_hub.specs.Clients.{Clients, no_clients, tick}
use Rattle.ipc_hub.specs.Lives.{Life, Lives, Serving, life_of}
use Rattle.ipc_hub.specs.Lives.ClientCall.{Ticks as to_tick, Stays as to_stay}
use Rattle.ipc_hub.specs.Lives.HubCall.{Serves as call_serves, Still}
use Rattle.ipc_hub.specs.Lives.Rested.{Begun, Lived}
use Rattle.ipc_hub.specs.Lives.Serving.{New, Call}
use Rattle.ipc_hub.specs.Relations.Matches.{Serves, StoredMatches}
use Rattle.ipc_hub.specs.View.{StoredHub}

module _ {D : Type 0} (medium : D → Medium) (limits : Limits) (disk left : D) (opened store : StoreView D) (new ticked last : StoredHub D) (moment : ℕ) where
  abbrev pub clients : Clients
  clients = no_clients opened.machine.state (Restart ∷ [])

  -- what is left of a hub that was closed
  pub is-left : IsHonest (medium last.store.disk) → left ≡ last.store.disk → IsLeft (medium last.store.disk) (medium last.store.disk) (medium left)
  is-left honest same =
      subst (λ (d : D). IsLeft (medium last.store.disk) (medium last.store.disk) (medium d)) (sym same)
      (record { honest = honest; images = λ image now. honest.since (medium last.store.disk).moment image (omega arith) now })

  pub one-life : OpensOn (medium disk).contents (medium opened.disk) opened → new.store ≡ opened → StoredMatches limits new clients
      → Serves medium new ticked (λ limits h. tick limits h moment)
      → ((l : Limits) (h : Clients) → StoredMatches l ticked h → StoredMatches l last h) → Takes medium ticked.store [] last.store
      → IsHonest (medium last.store.disk) → left ≡ last.store.disk → OpensOn (medium left).contents (medium store.disk) store
      → (life : Life) × Lives medium limits disk (life ∷ []) store
  one-life opens same matches serves still takes honest is again =
      let now : Clients = tick limits clients moment in
      let came = serves limits clients matches in
      let begun : Serving medium limits opened new clients [] = New new same matches in
      let timed : Serving medium limits opened ticked now [] = Call new ticked clients now [] begun (call_serves now (to_tick moment) came) in
      let lasts : Serving medium limits opened last now [] =
      Call ticked last now now [] timed
      (call_serves now to_stay (record { matches = still limits now came.matches; events = []; adds = sym (append-nil now.events); takes = takes })) in (
        life_of opened last now [],
        record {
          left = left;
          rested = Lived [] disk opened last last now now [] left Begun opens lasts (Still now to_stay refl refl (λ confirmed m. m)) (is-left honest is);
          opens = again;
        },
      )
