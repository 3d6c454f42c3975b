use Rattle.std.proofs.Common.{◌-◌, ◌≤◌, ap, arith, subst}
use Rattle.std.specs.Bool.{Decides}
use Rattle.std.proofs.lemmas.Bool.Decides.{nat_tests}
use Rattle.ipc_state.specs.Held.{Held}
use Rattle.ipc_state.specs.Sound.{semaphore_count}
use Rattle.ipc_state.proofs.state.State.may_have_more.Goals as goal

pub returns-then-nsems-most : goal.returns-then-nsems-most
returns-then-nsems-most c =
    let few : c.args.nsems ≤ c.self.inside.limits.semmns = grind (arith, nat_tests, c.if-nsems-most.true) in
    let most = ap (λ (m : Held). m.limits.semmns) c.self.view_is in
    let told = subst (λ (m : Held). Decides c.count_at_most.result (semaphore_count m.state.semset ≤ m.limits.semmns - c.args.nsems)) c.self.view_is
    c.count_at_most.ensures in
    (λ yes. omega (arith, told.0 yes, most, few), λ fit. told.1 (omega (arith, fit)))
