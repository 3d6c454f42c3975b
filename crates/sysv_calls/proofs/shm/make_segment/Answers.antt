use Rattle.std.proofs.Common.{◌≡◌, ◌<◌, ◌≤◌, ◌+◌, false, ℕ, ℤ, sym, ap, subst, ◌∙◌, arith, rules}
use Rattle.std.specs.Prelude.{None, nat_lt, ◌==◌, ◌||◌}
use Rattle.std.proofs.lemmas.Bool.{le-ltb}
use Rattle.std.proofs.lemmas.Bool.Decides.{nat_tests}
use Rattle.ipc_limits.specs.declared.limits.Limits.{Limits}
use Rattle.ipc_limits.proofs.CallerLemmas.{passed-bounds}
use Rattle.ipc_perm.specs.Perm.{perm_of}
use Rattle.ipc_wire.specs.declared.reply.Body.TheVariants.{Number}
use Rattle.ipc_state.specs.Finish.{Finishes, done}
use Rattle.ipc_state.specs.Held.{left, zero_bytes}
use Rattle.ipc_state.specs.Held.Ready.{Shm}
use Rattle.ipc_state.specs.Keyed.{keyed}
use Rattle.ipc_state.specs.Numbered.{is_full}
use Rattle.ipc_state.specs.Sound.{shm_bytes}
use Rattle.ipc_state.specs.State.{with_new_shm}
use Rattle.sysv_calls.proofs.Lent.{segment-in, segment_in}
use Rattle.sysv_calls.proofs.Reaching.{segment-reserved}
use Rattle.sysv_calls.proofs.shm.make_segment.Goals.{After-is_full}
use Rattle.sysv_calls.proofs.shm.make_segment.Goals as goal

-- the size is one that a segment may have
sized : (c : After-is_full) → (0 < c.args.size) × (c.args.size ≤ c.args.state.now.limits.shmmax)
sized c = (
  omega (arith, c.if-size-eq0.false),
  omega (arith, c.if-size-from.false, c.from.ensures, ap (λ (l : Limits). l.shmmax) c.limits.ensures.limits),
)

-- so it is reserved
reserved : (c : After-is_full) → c.args.state.now.ready ≡ Shm c.args.key (zero_bytes c.args.size)
reserved c =
    let limits = c.args.state.now.limits in
    c.requires.ready ∙ segment-reserved limits c.args.key c.args.size (passed-bounds limits c.shm.ensures.passed).shmmax.1 (sized c).0 (sized c).1

asked : (c : After-is_full) → segment_in c.args.state.now.ready ≡ (c.args.key, c.args.size)
asked c = segment-in c.args.state.now.ready c.args.key c.args.size (reserved c)

pub add_shm-requires : goal.add_shm-requires
add_shm-requires c =
    let g = (goal.at.add_shm-requires c).After-is_full in (
      reserved g ∙ ap (λ (a : ℤ × ℕ). Shm a.0 (zero_bytes a.1)) (sym (asked g)),
      (
        subst (λ (a : ℤ × ℕ). keyed c.args.state.now.state.shm a.0 ≡ None) (sym (asked g)) c.requires.unused,
        (c.requires.sound.shm.held.bound.numbered.numbers, search rules),
      ),
    )

pub returns-clause-finish : goal.returns-clause-finish
returns-clause-finish c =
    let old = c.args.state.now in
    let g = (goal.at.returns-clause-finish c).After-is_full in
    let two = sized g in
    let fits : (c.args.size == 0 || nat_lt old.limits.shmmax c.args.size) ≡ false = grind (arith, nat_tests, two) in
    let more : nat_lt old.limits.shmall (shm_bytes old.state.shm + c.args.size) ≡ false =
    le-ltb old.limits.shmall (shm_bytes old.state.shm + c.args.size) (c.may_have_more_bytes.ensures.0 c.if-not-may_have_more_bytes.false) in
    let full : is_full old.limits.shmmni old.state.shm ≡ false = search rules in
    let made : c.add_shm.new.self ≡ left old (with_new_shm old.state c.args.key (perm_of c.args.cred c.args.flags.0) c.args.pid.0 c.args.size) =
    c.add_shm.ensures.added ∙ (λ i. left old (with_new_shm old.state (asked g i).0 (c.new.ensures.perm i) c.args.pid.0 (asked g i).1)) in
    rw fits (rw full (rw more (λ i. Finishes (done (made i).state (Number (c.add_shm.ensures.id i))))))
