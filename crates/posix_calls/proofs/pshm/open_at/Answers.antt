use Rattle.std.proofs.Common.{◌≡◌, ◌∙◌, Some, refl, sym, ap, subst}
use Rattle.shm_segment.specs.Segment.{Segment}
use Rattle.ipc_keys.specs.declared.check.NameKind.TheVariants as names
use Rattle.ipc_state.specs.Opening.{opened_as}
use Rattle.ipc_state.specs.declared.processes.Process.{Process}
use Rattle.ipc_state.specs.Finish.{Attempt, Done, ended, ◌>>=◌}
use Rattle.ipc_state.specs.Held.{Held}
use Rattle.ipc_state.specs.Named.{Named, NamedEntry}
use Rattle.ipc_state.specs.Numbered.{Numbered, entry_of}
use Rattle.ipc_state.specs.Sound.{HasSoundParts}
use Rattle.ipc_state.specs.State.{State, has_all_descriptors, is_process}
use Rattle.posix_calls.specs.Open.{access_of, opens, usable}
use Rattle.posix_calls.specs.Pshm.{asked_of_pshm, cut_as}
use Rattle.posix_calls.proofs.Ending.{cut-same, cut-sound}
use Rattle.posix_calls.proofs.pshm.open_at.Goals.{After-cut}
use Rattle.posix_calls.proofs.pshm.open_at.Goals as goal

-- the segment of the number
there : (c : After-cut) → entry_of c.args.state.now.state.pshm c.args.number ≡ Some c.in_ok-usable.field-0.now
there c = subst (λ (o : Named Segment). entry_of o c.args.number ≡ Some c.in_ok-usable.field-0.now) c.pshms.ensures.objects c.in_ok-usable.ensures.there

cut-is : (c : After-cut) → c.cut.new.state
    ≡ (let h : Held = record c.args.state.now { state = cut_as c.args.flags.0 c.args.state.now.state c.args.number c.in_ok-usable.field-0.now } in h)
cut-is c = c.cut.ensures.held c.in_ok-usable.field-0.now (there c)

same-processes : (c : After-cut) → c.cut.new.state.state.processes ≡ c.args.state.now.state.processes
same-processes c =
    ap (λ (h : Held). h.state.processes) (cut-is c)
    ∙ cut-same (λ (u : State). u.processes) (λ x t m. refl) c.args.flags.0 c.args.state.now.state c.args.number c.in_ok-usable.field-0.now

pub open_on-requires-clause-sound : goal.open_on-requires-clause-sound
open_on-requires-clause-sound c =
    let a = (goal.at.open_on-requires-clause-sound c).After-cut in
    let old = c.args.state.now in
    subst (λ (h : Held). HasSoundParts h.limits h.state) (sym (cut-is a))
    (cut-sound c.args.flags.0 old.state c.args.number c.in_ok-usable.field-0.now old.limits (there a) c.requires.sound)

pub open_on-requires-clause-process : goal.open_on-requires-clause-process
open_on-requires-clause-process c =
    let old = c.args.state.now.state in
    ap (λ (ps : Numbered Process). let s : State = record old { processes = ps } in is_process s c.args.pid.0)
    (same-processes (goal.at.open_on-requires-clause-process c).After-cut) ∙ c.requires.process

pub open_on-requires-clause-few : goal.open_on-requires-clause-few
open_on-requires-clause-few c =
    let a = (goal.at.open_on-requires-clause-few c).After-cut in
    let old = c.args.state.now.state in
    ap (λ (h : Held). has_all_descriptors h.limits c.cut.new.state.state c.args.pid.0) (cut-is a)
    ∙ (ap (λ (ps : Numbered Process). let s : State = record old { processes = ps } in has_all_descriptors c.args.state.now.limits s c.args.pid.0)
    (same-processes a) ∙ c.requires.few)

pub returns-clause-finish : goal.returns-clause-finish
returns-clause-finish c =
    let a = (goal.at.returns-clause-finish c).After-cut in
    let s = c.args.state.now.state in
    let n = c.args.number in
    let flags = c.args.flags.0 in
    let next : NamedEntry Segment → Attempt Done = λ e. opens (cut_as flags s n e) c.args.pid.0 (access_of flags) (opened_as names.Pshm n) in
    let used : Attempt (NamedEntry Segment) = usable s.pshm c.args.cred n (asked_of_pshm flags) in
    let found : (let r : Attempt (NamedEntry Segment) = _ in r) ≡ used =
    c.in_ok-usable.ensures.entry ∙ ((λ i. usable (c.pshms.ensures.objects i) c.args.cred n c.asked_of_pshm.result.0)
    ∙ ap (usable s.pshm c.args.cred n) c.asked_of_pshm.ensures) in
    ap (ended s) c.open_on.ensures.opens
    ∙ ((λ i. ended s (opens (cut-is a i).state c.args.pid.0 (c.access_mode.ensures i) (opened_as names.Pshm n)))
    ∙ ap (λ (r : Attempt (NamedEntry Segment)). ended s (r >>= next)) found)

pub returns-clause-held : goal.returns-clause-held
returns-clause-held c = rw c.open_on.ensures.held (rw (cut-is (goal.at.returns-clause-held c).After-cut) refl)
