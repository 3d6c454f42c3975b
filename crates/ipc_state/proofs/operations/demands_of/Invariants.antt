use Rattle.std.proofs.Common.{◌≡◌, take}
use Rattle.ipc_wire.specs.SemBufs.{bytes_of, operations_in}
use Rattle.ipc_state.specs.Demands.{demands_of}
use Rattle.ipc_state.proofs.operations.demands_of.Given as goal

-- the demands of those before this one
abbrev pub invariant-loop-place : goal.invariant-loop-place
invariant-loop-place l = l.demands ≡ demands_of (take l.place (operations_in (bytes_of l.operations)))
