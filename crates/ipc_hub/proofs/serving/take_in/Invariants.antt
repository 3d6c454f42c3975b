use Rattle.std.proofs.Common.{◌≡◌, ◌⊎◌, ◌-◌, ◌≤◌, length, take}
use Rattle.ipc_hub.specs.View.{HasNoFrame}
use Rattle.ipc_hub.specs.Relations.Delivery.{unanswered_at}
use Rattle.ipc_hub.specs.Relations.Rows.{hub_view, stored_view}
use Rattle.ipc_hub.specs.Relations.Invariant.{Continues}
use Rattle.ipc_hub.specs.Relations.Matches.{Adds, TakesIn}
use Rattle.ipc_hub.specs.Relations.Requests.{RunsOut}
use Rattle.ipc_hub.proofs.serving.take_in.Given as goal

-- The hub goes on and has taken in the bytes so far; before the first it is as it was. While the connection keeps no
-- frame, no event has come, or a request of its process waits and none did before.
abbrev pub invariant-loop-taken : goal.invariant-loop-taken
invariant-loop-taken g l = record {
  within : l.taken ≤ length l.piece;
  continues : Continues (hub_view l.fn.store.machine l.fn.connections) (hub_view l.store.machine l.connections);
  bytes : TakesIn g.D.SectorDisk.medium (stored_view l.fn.store l.fn.connections) (stored_view l.store l.connections) l.conn
      (take l.taken l.piece) l.moment.0;
  first : l.taken ≡ 0 → (l.connections ≡ l.fn.connections) × (l.store ≡ l.fn.store);
  adds : Adds l.taken l.fn.store l.store;
  quiet : HasNoFrame (hub_view l.store.machine l.connections) l.conn
      → ((l.store ≡ l.fn.store) × (unanswered_at (hub_view l.fn.store.machine l.fn.connections) l.conn
      ≡ unanswered_at (hub_view l.store.machine l.connections) l.conn))
      ⊎ RunsOut (stored_view l.fn.store l.fn.connections) (stored_view l.store l.connections) l.conn l.moment.0 l.taken;
}

-- the bytes that are left
abbrev pub decreases-loop-taken : goal.decreases-loop-taken
decreases-loop-taken g l = length l.piece - l.taken
