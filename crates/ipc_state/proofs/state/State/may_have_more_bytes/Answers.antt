use Rattle.std.proofs.Common.{◌-◌, ◌≤◌, ap, arith, subst}
use Rattle.std.specs.Bool.{Decides}
use Rattle.std.proofs.lemmas.Bool.Decides.{nat_tests}
use Rattle.ipc_state.specs.Held.{Held}
use Rattle.ipc_state.specs.Sound.{shm_bytes}
use Rattle.ipc_state.proofs.state.State.may_have_more_bytes.Goals as goal

pub returns-then-size-most : goal.returns-then-size-most
returns-then-size-most c =
    let few : c.args.size ≤ c.self.inside.limits.shmall = grind (arith, nat_tests, c.if-size-most.true) in
    let most = ap (λ (m : Held). m.limits.shmall) c.self.view_is in
    let told = subst (λ (m : Held). Decides c.count_at_most.result (shm_bytes m.state.shm ≤ m.limits.shmall - c.args.size)) c.self.view_is
    c.count_at_most.ensures in
    (λ yes. omega (arith, told.0 yes, most, few), λ fit. told.1 (omega (arith, fit)))
