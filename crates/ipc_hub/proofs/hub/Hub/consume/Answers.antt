use Rattle.std.proofs.Common.{sym, refl, rules}
use Rattle.ipc_hub.specs.Relations.Rows.{hub_view}
use Rattle.ipc_hub.proofs.Changes.{consumed-stands, consumed-others, consumed-output, consume-matches}
use Rattle.ipc_hub.proofs.Keeping.{changed-keys}
use Rattle.ipc_hub.proofs.hub.Hub.consume.Goals as goal

pub invariant_of-self : goal.invariant_of-self
invariant_of-self g c = search (rules, consumed-stands)

pub returns-clause-ok : goal.returns-clause-ok
returns-clause-ok g c limits confirmed h m =
    consume-matches limits confirmed (hub_view c.self.inside.store.machine c.self.inside.connections) _ h c.args.conn c.args.count
    (rw (sym c.self.view_is) at m) (rw (sym c.self.view_is) at c.requires) refl refl c.consume.ensures

pub returns-clause-output : goal.returns-clause-output
returns-clause-output g c = search (rules, consumed-output)

pub returns-clause-numbers : goal.returns-clause-numbers
returns-clause-numbers g c = search (rules, changed-keys)

pub returns-clause-others : goal.returns-clause-others
returns-clause-others g c other apart = search (rules, consumed-others)
