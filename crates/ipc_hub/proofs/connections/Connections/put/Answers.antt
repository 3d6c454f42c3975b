use Rattle.std.proofs.Common.{◌≡◌, ◌<◌, true, length, sym, subst, arith, rules}
use Rattle.std.specs.Prelude.{set}
use Rattle.ipc_base.specs.Table.{seen_as}
use Rattle.ipc_engine.specs.View.{plain_outcome}
use Rattle.ipc_hub.specs.declared.connection.Connection.{Connection}
use Rattle.ipc_hub.specs.Hub.{is_for}
use Rattle.ipc_hub.specs.Relations.Delivery.{put_for, HasSpaceIn}
use Rattle.ipc_hub.specs.Relations.Rows.{rows}
use Rattle.ipc_hub.proofs.Rows.{each-get, put-nowhere, put-there, rising-seen}
use Rattle.ipc_hub.proofs.connections.Connections.put.Goals.{After-index_mut-connection}
use Rattle.ipc_hub.proofs.connections.Connections.put.Goals as goal

-- the reply is for the connection at the place
mine : (c : After-index_mut-connection) → is_for c.args.outcome.now.pid.0 c.index_mut-connection.result.now.session.process ≡ true
mine c =
    let was = c.index_mut-connection.result.now in
    subst (λ (d : Connection). is_for c.args.outcome.now.pid.0 d.session.process ≡ true) (sym c.index_mut-connection.ensures.value)
    (rw c.deref.ensures.value at (c.in-Some.ensures.found was))

within : (c : After-index_mut-connection) → c.in-Some.place < length c.self.inside.items.items
within c = rw c.deref.ensures.value at c.in-Some.ensures.within

pub push-requires-clause-space : goal.push-requires-clause-space
push-requires-clause-space c =
    let o = plain_outcome c.args.outcome.now in
    let here = (goal.at.push-requires-clause-space c).After-index_mut-connection in
    let was = c.index_mut-connection.result.now in
    let has = subst (λ (d : Connection). HasSpaceIn o d.session) (sym c.index_mut-connection.ensures.value)
    (each-get (HasSpaceIn o) c.self.inside.items.items c.in-Some.place was (rw c.self.view_is c.requires.space) (within here)) in
    let space = has (mine here) in
    rw c.reply.ensures (omega (arith, space))

pub invariant_of-self : goal.invariant_of-self
invariant_of-self c =
    let items = c.self.inside.items.items in
    let now : Connection = record c.index_mut-connection.result.now { session = c.push.new.self } in
    let put : rows (set items c.in-Some.place now) ≡ seen_as (put_for (plain_outcome c.args.outcome.now)) (rows items) = search (rules, put-there) in
    rising-seen (put_for (plain_outcome c.args.outcome.now)) (rows items) _ put c.self.invariant

pub returns-in-Some : goal.returns-in-Some
returns-in-Some c = search (rules, put-there)

pub returns-in_default : goal.returns-in_default
returns-in_default c = search (rules, put-nowhere)
