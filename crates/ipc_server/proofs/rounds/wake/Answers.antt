use Rattle.std.proofs.Common.{sym, ap, ◌∙◌}
use Rattle.ipc_server.proofs.Standing.{keeps-value}
use Rattle.ipc_server.proofs.rounds.wake.Goals as goal

pub returns-in-Some : goal.returns-in-Some
returns-in-Some g c =
    keeps-value c.args.clients.now c.args.key c.in-Some.client.now c.wake.new.self (sym c.in-Some.ensures.value) (ap (λ v. v.conn) c.wake.ensures)
    (λ bad. ap (λ v. v.failed) c.wake.ensures ∙ bad)
