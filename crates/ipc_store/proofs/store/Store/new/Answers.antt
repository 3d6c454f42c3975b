use Rattle.std.proofs.Common.{[], ap, arith}
use Rattle.ipc_store.proofs.Openings.{new-matches}
use Rattle.ipc_store.proofs.store.Store.new.Goals as goal

pub invariant_of-result : goal.invariant_of-result
invariant_of-result g c = (
  c.requires.on_disk,
  omega (arith, ap (λ b. b.count) c.requires.empty),
  λ goes honest. rw c.requires.empty (
    c.args.engine.state,
    ([], new-matches _ c.args.disk c.args.checkpoint c.args.journal c.args.engine (c.requires.matches honest)),
  ),
  λ goes. c.requires.spare,
)
