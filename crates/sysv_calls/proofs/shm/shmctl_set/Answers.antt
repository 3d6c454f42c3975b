use Rattle.std.proofs.Common.{◌≡◌, Some, refl, ap, ◌∙◌, rules}
use Rattle.std.specs.Prelude.{Ok}
use Rattle.ipc_wire.specs.declared.reply.Body.TheVariants.{Empty}
use Rattle.shm_segment.specs.SysSegment.{SysSegment, changed}
use Rattle.ipc_state.specs.Finish.{Finishes, done}
use Rattle.ipc_state.specs.Held.{Held}
use Rattle.ipc_state.specs.Bound.{holding, permitting}
use Rattle.ipc_state.specs.Keyed.{Keyed}
use Rattle.ipc_state.specs.Numbered.{entry_of}
use Rattle.ipc_state.specs.State.{with_shm}
use Rattle.sysv_calls.specs.Access.{owned}
use Rattle.sysv_calls.proofs.Lent.{permitted, permitted-put, state-alone, with_state}
use Rattle.sysv_calls.proofs.Reaching.{owned-there}
use Rattle.sysv_calls.proofs.shm.shmctl_set.Goals.{After-shm_mut, After-set}
use Rattle.sysv_calls.proofs.shm.shmctl_set.Goals as goal

-- the segment of a caller that owns it
owns_it : (c : After-shm_mut) → owned c.args.state.now.state.shm c.args.cred c.args.id.0 ≡ Ok c.in_ok-perm.field-0.now
owns_it c = search rules

has : (c : After-shm_mut) → entry_of c.args.state.now.state.shm c.args.id.0 ≡ Some c.in_ok-perm.field-0.now
has c = owned-there c.args.state.now.state.shm c.args.cred c.args.id.0 c.in_ok-perm.field-0.now (owns_it c)

-- it is lent with its other permissions
lends : (c : After-shm_mut) → entry_of c.set_shm_perm.new.self.state.shm c.args.id.0 ≡ Some (permitting c.in_ok-perm.field-0.now c.owned_by.result)
lends c =
    ap (λ (h : Held). entry_of h.state.shm c.args.id.0) (c.set_shm_perm.ensures c.in_ok-perm.field-0.now (has c))
    ∙ permitted c.args.state.now.state.shm c.args.id.0 c.in_ok-perm.field-0.now c.owned_by.result (has c)

-- and left changed
leaves : (c : After-set) → entry_of c.args.state.now.state.shm c.args.id.0 ≡ Some c.in_ok-perm.field-0.now
    → entry_of c.set_shm_perm.new.self.state.shm c.args.id.0 ≡ Some (permitting c.in_ok-perm.field-0.now c.owned_by.result)
    → c.shm_mut.follows.lender c.set.new.self ≡ with_state c.args.state.now
    (with_shm c.args.state.now.state c.args.id.0 (holding (permitting c.in_ok-perm.field-0.now c.owned_by.result) c.set.new.self))
leaves c has lends =
    let s = c.args.state.now.state in
    let id = c.args.id.0 in
    let e = c.in_ok-perm.field-0.now in
    let x = c.set.new.self in
    c.shm_mut.follows.holds x (permitting e c.owned_by.result) lends
    ∙ ap (λ (h : Held). with_state h (with_shm h.state id (holding (permitting e c.owned_by.result) x))) (c.set_shm_perm.ensures e has)
    ∙ ap (λ (o : Keyed SysSegment). with_state c.args.state.now (record s { shm = o })) (permitted-put s.shm id e c.owned_by.result x)

pub unwrap-requires : goal.unwrap-requires
unwrap-requires c = let there = lends (goal.at.unwrap-requires c).After-shm_mut in search (rules, there)

pub returns-clause-finish : goal.returns-clause-finish
returns-clause-finish c =
    let g = goal.at.returns-clause-finish c in
    let l = g.After-shm_mut in
    let s = c.args.state.now.state in
    let e = c.in_ok-perm.field-0.now in
    let there = lends l in
    let sets : c.set.new.self ≡ changed e.object s.clock = search (rules, there) in
    ap (λ (h : Held). Finishes (done h.state Empty)) (leaves g.After-set (has l) (lends l))
    ∙ (λ i. Finishes (done (with_shm s c.args.id.0 (holding (permitting e (c.owned_by.ensures.perm i)) (sets i))) Empty))
    ∙ rw (owns_it l) refl

pub returns-clause-held : goal.returns-clause-held
returns-clause-held c =
    let g = goal.at.returns-clause-held c in
    let l = g.After-shm_mut in
    state-alone c.args.state.now _ (leaves g.After-set (has l) (lends l))
