use Rattle.std.proofs.Common.{sym}
use Rattle.ipc_engine.proofs.Doing.{does-as, does-nothing}
use Rattle.ipc_engine.proofs.Going.{untouched-settled}
use Rattle.ipc_engine.proofs.settling.settle_all.Goals as goal

pub returns-then-not-may_have_changed-clause-does : goal.returns-then-not-may_have_changed-clause-does
returns-then-not-may_have_changed-clause-does c =
    let s = c.args.state.now in does-as (sym (untouched-settled s.limits s.state (c.requires.others c.if-not-may_have_changed.true))) does-nothing
