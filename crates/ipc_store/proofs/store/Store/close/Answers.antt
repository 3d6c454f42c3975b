use Rattle.std.proofs.Common.{◌≡◌, false, List, subst}
use Rattle.ipc_disk.specs.Medium.{IsHonest}
use Rattle.ipc_state.specs.State.{State}
use Rattle.ipc_engine.specs.Event.{PlainEvent}
use Rattle.ipc_store.specs.Relations.Matches.{StoreMatches}
use Rattle.ipc_store.specs.View.{StoreView}
use Rattle.ipc_store.proofs.store.Store.close.Goals as goal

pub returns-clause-matches : goal.returns-clause-matches
returns-clause-matches g c =
    subst (λ (v : StoreView _). v.stopped ≡ false → IsHonest (g.D.SectorDisk.medium v.disk)
    → (base : State) × ((pending : List PlainEvent) × StoreMatches (g.D.SectorDisk.medium v.disk) v base pending)) c.self.view_is c.self.invariant.2
