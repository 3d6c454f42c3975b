use Rattle.std.proofs.Common.{◌≡◌, ◌+◌, ◌-◌, ◌*◌, ◌≤◌, [], length}
use Rattle.ipc_limits.specs.declared.limits.Limits.{Limits}
use Rattle.ipc_hub.specs.Clients.{Clients}
use Rattle.ipc_hub.specs.Relations.Matches.{StoredMatches}
use Rattle.ipc_store.specs.View.{Spends}
use Rattle.ipc_script.specs.Script.{MayStop, HasNoStop}
use Rattle.ipc_script.specs.Stops.{LivesOn}
use Rattle.ipc_script.specs.Relations.Lasts.{Lasts, StaysCommitted}
use Rattle.ipc_script.specs.Relations.Numbers.{HasNumbers, byte_cost}
use Rattle.ipc_script.proofs.ScriptLines.{PartlyRun}
use Rattle.ipc_script.proofs.script.run_lines.Given as goal

-- There are no more lines so far than bytes, and they are run; the next may be a stop if the first might be. Eight numbers at
-- most were used for each byte.
abbrev pub invariant-lines : goal.invariant-lines
invariant-lines g l = record {
  few : l.number + length l.rest ≤ length l.initial.rest;
  may : MayStop (g.D.SectorDisk.medium l.fn.hub.store.disk) l.fn.script → MayStop (g.D.SectorDisk.medium l.hub.store.disk) l.rest;
  left : length l.rest ≤ length l.fn.script;
  spends : HasNumbers (byte_cost * length l.fn.script) l.fn.hub.store → MayStop (g.D.SectorDisk.medium l.fn.hub.store.disk) l.fn.script
      → Spends g.D.SectorDisk.counts (byte_cost * (length l.fn.script - length l.rest)) l.fn.hub.store l.hub.store;
  none : HasNoStop l.fn.script → HasNoStop l.rest;
  lasts : (limits : Limits) (h : Clients) → StoredMatches limits l.fn.hub h → h.clients ≡ [] → HasNoStop l.fn.script
      → Lasts g.D.SectorDisk.medium l.fn.hub.store l.hub.store;
  lives : (limits : Limits) (h : Clients) → StoredMatches limits l.fn.hub h → h.clients ≡ []
      → MayStop (g.D.SectorDisk.medium l.fn.hub.store.disk) l.fn.script → LivesOn g.D.SectorDisk.medium l.fn.hub.store l.hub.store;
  committed : MayStop (g.D.SectorDisk.medium l.fn.hub.store.disk) l.fn.script → StaysCommitted l.fn.hub.store l.hub.store;
  runs : (limits : Limits) (h : Clients) → StoredMatches limits l.fn.hub h → h.clients ≡ []
      → MayStop (g.D.SectorDisk.medium l.fn.hub.store.disk) l.fn.script
      → PartlyRun limits h l.fn.script g.D.SectorDisk.medium l.fn.hub.store (l.number + 1) l.hub l.opened.items l.rest
      (g.W.Write.contents l.fn.writer) (g.W.Write.contents l.writer);
}

-- the text after the lines so far
abbrev pub decreases-lines : goal.decreases-lines
decreases-lines g l = length l.rest
