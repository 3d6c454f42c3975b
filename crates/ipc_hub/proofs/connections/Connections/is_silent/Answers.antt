use Rattle.std.proofs.Common.{Some, sym, ap, ◌∙◌}
use Rattle.std.proofs.lemmas.Bool.{ltb-true}
use Rattle.ipc_hub.proofs.Rows.{place-at, same_value}
use Rattle.ipc_hub.proofs.connections.Connections.is_silent.Goals as goal

pub returns-then-connection-conn : goal.returns-then-connection-conn
returns-then-connection-conn c =
    let at = place-at c.self.inside.items.items c.deref.result.now c.args.place c.in-Some.connection.now c.deref.ensures.value c.self.invariant
    (ltb-true _ _ (sym c.in-Some.ensures.lookup.0)) c.in-Some.ensures.lookup.1 in
    rw (← c.self.view_is) (λ never. cc, λ all. absurd (c.if-connection-conn.true (same_value _ c.args.conn (sym at.0 ∙ all.0))))

pub returns : goal.returns
returns c =
    let at = place-at c.self.inside.items.items c.deref.result.now c.args.place c.in-Some.connection.now c.deref.ensures.value c.self.invariant
    (ltb-true _ _ (sym c.in-Some.ensures.lookup.0)) c.in-Some.ensures.lookup.1 in
    let here = rw c.if-connection-conn.false at at.1 in
    rw (← c.self.view_is, here) (
      λ said. let none = c.is_silent.ensures.0 said in (at.0 ∙ ap Some c.if-connection-conn.false, none.0, none.1),
      λ all. c.is_silent.ensures.1 (all.1, all.2),
    )
