use Rattle.std.proofs.Common.{◌≤◌, ◌<◌, ◌+◌, ◌-◌, ◌*◌, length}
use Rattle.ipc_disk.specs.Medium.{IsHonest}
use Rattle.ipc_limits.specs.declared.limits.Limits.{Limits}
use Rattle.ipc_store.specs.View.{Spends}
use Rattle.ipc_script.specs.Script.{Run}
use Rattle.ipc_script.specs.Relations.Numbers.{HasNumbers}
use Rattle.ipc_script.specs.Relations.Lasts.{StaysCommitted}
use Rattle.ipc_script.specs.Relations.Matches.{RunMatchesBetween}
use Rattle.ipc_script.proofs.FedPieces.{PartlyFed}
use Rattle.ipc_script.proofs.script.feed.Given as goal

-- some pieces are fed, each of at least one byte, and some bytes are left; each round uses four numbers, and one for each byte
abbrev pub invariant-pieces : goal.invariant-pieces
invariant-pieces g l = record {
  honest : IsHonest (g.D.SectorDisk.medium l.fn.hub.store.disk) → IsHonest (g.D.SectorDisk.medium l.hub.store.disk);
  left : length l.rest ≤ length l.bytes;
  spends : HasNumbers (5 * length l.bytes) l.fn.hub.store
      → Spends g.D.SectorDisk.counts (4 * l.counter + (length l.bytes - length l.rest)) l.fn.hub.store l.hub.store;
  committed : StaysCommitted l.fn.hub.store l.hub.store;
  runs : (limits : Limits) (r : Run) → RunMatchesBetween limits l.fn.hub l.fn.opened r
      → (length l.rest + l.counter ≤ length l.bytes) × (0 < length l.rest)
      × PartlyFed g.D.SectorDisk.medium limits r l.sender l.bytes l.fn.hub l.hub l.opened l.rest (g.W.Write.contents l.fn.writer) (g.W.Write.contents l.writer);
}
