use Rattle.std.proofs.Common.{◌≡◌, ◌<◌, ◌+◌, false, refl, ◌∙◌, arith, rules}
use Rattle.std.specs.Prelude.{nat_lt, ◌==◌}
use Rattle.std.proofs.lemmas.Bool.{le-ltb}
use Rattle.std.proofs.lemmas.Bool.Decides.{nat_tests}
use Rattle.ipc_perm.specs.Perm.{perm_of}
use Rattle.ipc_wire.specs.declared.reply.Body.TheVariants.{Number}
use Rattle.ipc_state.specs.Finish.{Finishes, done}
use Rattle.ipc_state.specs.Held.{left}
use Rattle.ipc_state.specs.Numbered.{is_full}
use Rattle.ipc_state.specs.Sound.{semaphore_count}
use Rattle.ipc_state.specs.State.{with_new_semset}
use Rattle.sysv_calls.proofs.Lent.{set_in}
use Rattle.sysv_calls.proofs.sem.make_set.Goals.{After-is_full}
use Rattle.sysv_calls.proofs.sem.make_set.Goals as goal

some : (c : After-is_full) → 0 < c.args.count
some c = omega (arith, c.if-count-eq0.false)

pub add_semset-requires : goal.add_semset-requires
add_semset-requires c =
    let g = (goal.at.add_semset-requires c).After-is_full in
    let ready = c.requires.ready (some g) in
    (rw ready refl, (rw ready c.requires.unused, (c.requires.sound.semset.held.bound.numbered.numbers, search rules)))

pub returns-clause-finish : goal.returns-clause-finish
returns-clause-finish c =
    let old = c.args.state.now in
    let g = (goal.at.returns-clause-finish c).After-is_full in
    let there : (c.args.count == 0) ≡ false = grind (arith, nat_tests, some g) in
    let more : nat_lt old.limits.semmns (semaphore_count old.state.semset + c.args.count) ≡ false =
    le-ltb old.limits.semmns (semaphore_count old.state.semset + c.args.count) (c.may_have_more.ensures.0 c.if-not-may_have_more.false) in
    let ready = c.requires.ready (some g) in
    let full : is_full old.limits.semmni old.state.semset ≡ false = search rules in
    let made : c.add_semset.new.self ≡ left old (with_new_semset old.state c.args.key (perm_of c.args.cred c.args.flags.0) c.args.count) =
    c.add_semset.ensures.added ∙ (λ i. left old (with_new_semset old.state (set_in (ready i)).0 (c.new.ensures.perm i) (set_in (ready i)).1)) in
    rw there (rw full (rw more (λ i. Finishes (done (made i).state (Number (c.add_semset.ensures.id i))))))
