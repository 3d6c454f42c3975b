-- A number stands once in the table.
use Rattle.std.proofs.Common.{◌≡◌, ◌^◌, ℕ, ap, sym, ◌∙◌}
use Rattle.std.specs.Prelude.{nat_eq, position}
use Rattle.std.proofs.lemmas.Bool.{ltb-true}
use Rattle.ipc_base.proofs.CallerLemmas.{first-at}
use Rattle.ipc_hub.specs.declared.connection.Connection.{Connection}
use Rattle.ipc_hub.specs.Relations.Rows.{row}
use Rattle.ipc_hub.proofs.connections.place_from.Goals as goal

pub returns-then-connection-conn : goal.returns-then-connection-conn
returns-then-connection-conn c =
    let cs = c.args.connections.now in
    let number : c.in-Some.connection.now.number ≡ c.args.conn = c.if-connection-conn.true in
    sym (ap (λ (n : ℕ). position (λ (e : Connection). nat_eq e.number n) cs) (sym number)
    ∙ first-at row cs c.args.first (2 ^ 32) c.in-Some.connection.now c.requires (ltb-true _ _ (sym c.in-Some.ensures.lookup.0))
    c.in-Some.ensures.lookup.1)
