use Rattle.std.proofs.Common.{sym, ◌∙◌}
use Rattle.ipc_server.proofs.Standing.{keeps-both, keeps-value}
use Rattle.ipc_server.proofs.rounds.ask_for_space.Goals.{in-Some, in_default}
use Rattle.ipc_server.proofs.rounds.ask_for_space.Goals as goal

pub loop-key-preserved : goal.loop-key-preserved
loop-key-preserved g c = elim c.match-get_mut.branch [
  | in-Some w ↦ rw w.clients-is (keeps-both c.args.clients.now c.loop-key.clients _ c.loop-key.invariant
      (keeps-value c.loop-key.clients c.loop-key.key w.in-Some.client.now w.ask_for_space.new.self (sym w.in-Some.ensures.value) w.ask_for_space.ensures.conn
      (λ bad. w.ask_for_space.ensures.failed ∙ bad)))
  | in_default w ↦ rw w.clients-is c.loop-key.invariant
]
