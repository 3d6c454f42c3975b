use Rattle.std.proofs.Common.{rules}
use Rattle.ipc_limits.specs.Limits.{AreWithin, greatest_limits}
use Rattle.ipc_limits.proofs.CallerLemmas.{within-greater}
use Rattle.ipc_limits.proofs.limits.Limits.check.Goals as goal

pub returns-in-None-clause-passed : goal.returns-in-None-clause-passed
returns-in-None-clause-passed c = λ passed.
    let within : AreWithin c.args.most.now c.args.self.now = search rules in
    within-greater c.args.most.now greatest_limits c.args.self.now passed within
