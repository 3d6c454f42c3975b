use Rattle.std.proofs.Common.{◌≡◌, ◌∙◌, false, Some, refl, ap, rules}
use Rattle.std.specs.Prelude.{Ok}
use Rattle.ipc_wire.specs.declared.reply.Body.TheVariants.{Number}
use Rattle.shm_segment.specs.SysSegment.{attached}
use Rattle.ipc_state.specs.Bound.{holding}
use Rattle.ipc_state.specs.Finish.{Finishes, done}
use Rattle.ipc_state.specs.Held.{Held}
use Rattle.ipc_state.specs.State.{has_all_descriptors, shm_of, with_descriptor, with_shm}
use Rattle.sysv_calls.specs.Access.{accessible}
use Rattle.sysv_calls.specs.Shm.{asked_by_attach, attachment_to}
use Rattle.sysv_calls.proofs.Lent.{state-alone, with_state}
use Rattle.sysv_calls.proofs.Reaching.{accessible-there}
use Rattle.sysv_calls.proofs.shm.shmat.Goals.{After-attach, After-open_descriptor-attachment}
use Rattle.sysv_calls.proofs.shm.shmat.Goals as goal

-- the segment of a caller that may attach it
is : (c : After-open_descriptor-attachment) → accessible false c.args.state.now.state.shm c.args.cred c.args.id.0 (asked_by_attach c.args.flags.0)
    ≡ Ok c.in_ok-accessible.field-0.now
is c = search rules

-- it is there still
there : (c : After-open_descriptor-attachment) → shm_of c.open_descriptor-attachment.new.self.state c.args.id.0 ≡ Some c.in_ok-accessible.field-0.now
there c =
    ap (λ (h : Held). shm_of h.state c.args.id.0) c.open_descriptor-attachment.ensures.state
    ∙ accessible-there c.args.state.now.state.shm c.args.cred c.args.id.0 c.in_ok-accessible.field-0.now (asked_by_attach c.args.flags.0) (is c)

pub unwrap-requires : goal.unwrap-requires
unwrap-requires c = let found = there (goal.at.unwrap-requires c).After-open_descriptor-attachment in search (rules, found)

-- and left attached
leaves : (c : After-attach) → shm_of c.open_descriptor-attachment.new.self.state c.args.id.0 ≡ Some c.in_ok-accessible.field-0.now
    → c.shm_mut.follows.lender c.attach.new.self ≡ with_state c.args.state.now (with_descriptor
    (with_shm c.args.state.now.state c.args.id.0 (holding c.in_ok-accessible.field-0.now c.attach.new.self)) c.args.pid.0
    (attachment_to c.args.id.0 c.args.flags.0))
leaves c found =
    let e = c.in_ok-accessible.field-0.now in
    let x = c.attach.new.self in
    c.shm_mut.follows.holds x e found ∙ ap (λ (h : Held). with_state h (with_shm h.state c.args.id.0 (holding e x))) c.open_descriptor-attachment.ensures.state

pub returns-clause-finish : goal.returns-clause-finish
returns-clause-finish c =
    let g = goal.at.returns-clause-finish c in
    let s = c.args.state.now.state in
    let e = c.in_ok-accessible.field-0.now in
    let found = there g.After-open_descriptor-attachment in
    let sets : c.attach.new.self ≡ attached e.object c.args.pid s.clock = search (rules, found) in
    let few : has_all_descriptors c.args.state.now.limits s c.args.pid.0 ≡ false = search rules in
    ap (λ (h : Held). Finishes (done h.state (Number c.open_descriptor-attachment.result))) (leaves g.After-attach found)
    ∙ (λ i. Finishes (done (with_descriptor (with_shm s c.args.id.0 (holding e (sets i))) c.args.pid.0 (attachment_to c.args.id.0 c.args.flags.0))
    (Number (c.open_descriptor-attachment.ensures.fd i))))
    ∙ rw (is g.After-open_descriptor-attachment) (rw few refl)

pub returns-clause-held : goal.returns-clause-held
returns-clause-held c =
    let g = goal.at.returns-clause-held c in
    state-alone c.args.state.now _ (leaves g.After-attach (there g.After-open_descriptor-attachment))
