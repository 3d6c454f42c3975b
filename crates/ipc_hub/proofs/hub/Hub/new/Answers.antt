use Rattle.std.proofs.Common.{sym, subst, arith}
use Rattle.ipc_hub.specs.Relations.Invariant.{HubInvariant}
use Rattle.ipc_hub.specs.Relations.Rows.{Table, hub_view}
use Rattle.ipc_hub.proofs.hub.Hub.new.Goals as goal

pub invariant_of-result : goal.invariant_of-result
invariant_of-result g c _ =
    subst (λ (t : Table). HubInvariant (hub_view c.args.store.machine t)) (sym c.new.ensures)
    (record { own = record { connected = λ conn pid there. cc; one = λ conn other pid there too. cc }; each = tt; rising = omega arith })
