-- A device that is opened again is in the state of the server that was dropped, after a restart.
use Rattle.std.proofs.Common.{◌≡◌, ◌+◌, ◌<◌, ◌≤◌, ◌^◌, List, [], ◌∷◌, length, sym, ap, subst, ◌∙◌, arith}
use Rattle.ipc_limits.specs.declared.limits.Limits.{Limits}
use Rattle.ipc_disk.specs.Medium.{Image, Medium, IsHonest}
use Rattle.ipc_state.specs.State.{State, restart}
use Rattle.ipc_engine.specs.Event.{PlainEvent, Restart}
use Rattle.ipc_store.specs.Histories.{OpensOn}
use Rattle.ipc_store.specs.Image.{StandsFor, epoch_at}
use Rattle.ipc_store.specs.Relations.Matches.{HasPending, StoreMatches}
use Rattle.ipc_store.specs.View.{StoreView, numbers_used}
use Rattle.ipc_store.proofs.CallerLemmas.{StandsFor-one, StoreMatches-stands, StoreMatches-epoch}
use Rattle.ipc_hub.specs.Clients.{Clients, no_clients}
use Rattle.ipc_hub.specs.View.{StoredHub}
use Rattle.ipc_hub.specs.Relations.Matches.{StoredMatches}

module _ {D : Type 0} (medium : D → Medium) (old now : StoreView D) where
  -- the base is the state if nothing waits
  at-base : (base : State) (pending : List PlainEvent) → HasPending old base pending → old.waiting ≡ 0 → old.machine.state ≡ base
  at-base base [] waits none = waits.state
  at-base base (e ∷ pending) waits none = absurd (omega (arith, waits.count, none))

  -- a store that was closed while nothing waited, and opened on its disk
  module _ (disk : D) (same : disk ≡ old.disk) (fits : length (medium disk).contents < 2 ^ 32) (honest : IsHonest (medium old.disk)) (none : old.waiting ≡ 0)
      (there : (base : State) × ((pending : List PlainEvent) × StoreMatches (medium old.disk) old base pending)) where
    -- the disk stands for its state
    pub stood : StandsFor old.machine.limits old.machine.state (medium disk).contents
    stood =
        let at : old.machine.state ≡ there.0 = at-base there.0 there.1.0 there.1.1.waits none in
        let image : Image = (medium old.disk).contents in
        let was : StandsFor old.machine.limits there.0 image = StoreMatches-stands (medium old.disk) old there.0 there.1.0 there.1.1 image honest.reads in
        subst (λ (d : D). StandsFor old.machine.limits old.machine.state (medium d).contents) (sym same)
        (subst (λ (s : State). StandsFor old.machine.limits s image) (sym at) was)

    -- the epoch of the disk is among the numbers that the store has used
    pub root : epoch_at (medium disk).contents ≤ numbers_used old
    root =
        subst (λ (d : D). epoch_at (medium d).contents ≤ numbers_used old) (sym same)
        (StoreMatches-epoch (medium old.disk) old there.0 there.1.0 there.1.1)

    module _ (opens : OpensOn (medium disk).contents (medium now.disk) now) where
      same-limits : now.machine.limits ≡ old.machine.limits
      same-limits =
          (StandsFor-one now.machine.limits old.machine.limits opens.found.0 old.machine.state (medium disk).contents fits opens.found.1 stood).0

      same-state : now.machine.state ≡ restart now.machine.limits old.machine.state
      same-state =
          opens.found.2.waits.state
          ∙ ap (restart now.machine.limits)
          (StandsFor-one now.machine.limits old.machine.limits opens.found.0 old.machine.state (medium disk).contents fits opens.found.1 stood).1

      -- a hub over it has no client
      pub reopens : (limits : Limits) (h : Clients) (hub next : StoredHub D) → StoredMatches limits hub h → old.machine.limits ≡ hub.hub.limits
          → old.machine.state ≡ hub.hub.state → now.confirmed ≡ 1
          → ((events : List PlainEvent) → length events ≡ now.confirmed + now.waiting
          → StoredMatches now.machine.limits next (no_clients now.machine.state events))
          → StoredMatches limits next (no_clients (restart limits h.state) (Restart ∷ []))
      reopens limits h hub next m limited stated one begins =
          let count : length (Restart ∷ []) ≡ now.confirmed + now.waiting = omega (arith, one, opens.found.2.waits.count) in
          subst (λ (l : Limits). StoredMatches l next (no_clients (restart l h.state) (Restart ∷ []))) (same-limits ∙ limited ∙ m.hub.same)
          (subst (λ (s : State). StoredMatches now.machine.limits next (no_clients s (Restart ∷ [])))
          (same-state ∙ ap (restart now.machine.limits) (stated ∙ m.hub.state))
          (begins (Restart ∷ []) count))
