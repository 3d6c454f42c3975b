use Rattle.std.proofs.Common.{ap, arith}
use Rattle.ipc_limits.specs.Limits.{longest_reply}
use Rattle.ipc_limits.specs.declared.limits.Limits.{Limits}
use Rattle.ipc_engine.proofs.CallerLemmas.{owed-most}
use Rattle.ipc_engine.proofs.engine.Engine.most_owed.Goals as goal

pub returns-clause-bound : goal.returns-clause-bound
returns-clause-bound c pid =
    let same = c.limits-limits.ensures.limits in
    omega (
      arith,
      owed-most c.args.self.now.limits c.args.self.now.state pid c.limits-limits.ensures.sound,
      c.longest_reply.ensures.longest,
      ap longest_reply same,
      ap (λ (l : Limits). l.queues) same,
    )
