use Rattle.std.proofs.Common.{◌≡◌, ◌<◌, ◌^◌, ℕ, length, ap, sym, ◌∙◌, arith}
use Rattle.std.specs.Prelude.{nat_eq, position}
use Rattle.ipc_base.proofs.CallerLemmas.{first-at, nowhere-at, passed-over}
use Rattle.ipc_hub.specs.declared.connection.Connection.{Connection}
use Rattle.ipc_hub.specs.Relations.Rows.{row}
use Rattle.ipc_hub.proofs.connections.place_of.Goals as goal

pub returns-then-place-connections : goal.returns-then-place-connections
returns-then-place-connections c =
    sym (nowhere-at row c.args.connections.now c.place_for-place.result c.args.conn c.place_for-place.ensures.below
    (λ k d past within. absurd (omega (arith, past, within, c.if-place-connections.true))))

pub returns-then-connection-conn : goal.returns-then-connection-conn
returns-then-connection-conn c =
    let cs = c.args.connections.now in
    let place = c.place_for-place.result in
    let found = c.place_for-place.ensures in
    let was = c.index-connections-place.result in
    let inside : place < length cs = omega (arith, found.within, c.if-place-connections.false) in
    let here : c.args.conn < was.number = omega
    (arith, found.rest place was (omega arith) inside, c.if-connection-conn.true, ap (λ (e : Connection). e.number) c.index-connections-place.is) in
    sym (passed-over row cs place c.args.conn (2 ^ 32) was c.requires c.index-connections-place.is found.below here)

pub returns : goal.returns
returns c =
    let cs = c.args.connections.now in
    let place = c.place_for-place.result in
    let was = c.index-connections-place.result in
    let inside : place < length cs = omega (arith, c.place_for-place.ensures.within, c.if-place-connections.false) in
    let number : was.number ≡ c.args.conn = c.if-connection-conn.false in
    sym (ap (λ (n : ℕ). position (λ (e : Connection). nat_eq e.number n) cs) (sym number)
    ∙ first-at row cs place (2 ^ 32) was c.requires inside c.index-connections-place.is)
