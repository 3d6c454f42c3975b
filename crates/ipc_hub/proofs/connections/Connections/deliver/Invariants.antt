use Rattle.std.proofs.Common.{◌≡◌, map, drop}
use Rattle.ipc_engine.specs.View.{plain_outcome}
use Rattle.ipc_hub.specs.Relations.Delivery.{HaveSpace, put_all}
use Rattle.ipc_hub.specs.Relations.Invariant.{AreApart}
use Rattle.ipc_hub.proofs.connections.Connections.deliver.Given as goal

-- the replies to come have room, and after them it is as it should be
abbrev pub invariant-loop-outcome : goal.invariant-loop-outcome
invariant-loop-outcome l =
    let rest = map plain_outcome (drop l.outcome-index l.outcomes) in
    record { apart : AreApart l.self; space : HaveSpace rest l.self; all : put_all rest l.self ≡ put_all (map plain_outcome l.outcomes) l.initial.self }
