use Rattle.std.proofs.Common.{Option, sym, subst}
use Rattle.ipc_state.specs.declared.parked.Object.{Object}
use Rattle.ipc_engine.specs.Settling.{OthersWait}
use Rattle.ipc_engine.proofs.Doing.{does-as, does-nothing}
use Rattle.ipc_engine.proofs.Going.{untouched-settled}
use Rattle.ipc_engine.proofs.settling.settle.Goals as goal

pub returns-in_default-clause-does : goal.returns-in_default-clause-does
returns-in_default-clause-does c =
    let s = c.args.state.now in
    let none = untouched-settled s.limits s.state (subst (λ (o : Option Object). OthersWait s.limits s.state o) c.in_default.is c.requires.others) in
    does-as (sym none) does-nothing

pub settle_among-requires-clause-rest : goal.settle_among-requires-clause-rest
settle_among-requires-clause-rest c =
    let s = c.args.state.now in subst (λ (o : Option Object). OthersWait s.limits s.state o) c.in-Some.is c.requires.others
