-- The sectors so far are given back, and nothing has come to use one from the top on.
use Rattle.std.proofs.Common.{take}
use Rattle.ipc_heap.specs.Relations.Uses.{AreGiven, HasTop}
use Rattle.ipc_heap.proofs.uses.Uses.give_back.Given as goal

abbrev pub invariant-loop-sector : goal.invariant-loop-sector
invariant-loop-sector l = record {
  given : AreGiven l.first l.fn.self (take l.sector-index l.sectors) l.self-inside.uses.items;
  top : HasTop l.self-inside.uses.items l.self-inside.top;
}
