use Rattle.std.proofs.Common.{◌≡◌, ◌∙◌, false, sym, subst, arith}
use Rattle.ipc_limits.specs.declared.limits.Limits.{Limits}
use Rattle.shm_segment.specs.Segment.{empty_segment}
use Rattle.ipc_keys.specs.declared.check.NameKind.TheVariants as names
use Rattle.ipc_state.specs.declared.parked.ObjectKind.TheVariants as kinds
use Rattle.ipc_state.specs.Held.{Held}
use Rattle.ipc_state.specs.Numbered.{is_full}
use Rattle.ipc_state.specs.Sound.{HasSoundParts}
use Rattle.ipc_state.specs.State.{has_all_pshms}
use Rattle.ipc_state.proofs.CallerLemmas.{kind-bounds, with_new-sound}
use Rattle.posix_calls.proofs.pshm.make_pshm.Goals.{Else-is_full}
use Rattle.posix_calls.proofs.pshm.make_pshm.Goals as goal

-- there may be one more
more : (g : _) (c : Else-is_full g) → has_all_pshms c.args.state.now.limits c.args.state.now.state ≡ false
more g c =
    subst (λ (l : Limits). is_full l.segments c.args.state.now.state.pshm ≡ false) c.limits.ensures.limits
    (subst (λ o. is_full c.limits.result.now.segments o ≡ false) c.pshms.ensures.objects (sym c.is_full.ensures ∙ c.if-is_full.false))

pub add_pshm-number-requires : goal.add_pshm-number-requires
add_pshm-number-requires g c =
    let a = (goal.at.add_pshm-number-requires g c).Else-is_full in
    let rising = (kind-bounds c.args.state.now.limits c.args.state.now.state (kinds.Named names.Pshm) c.requires.0).numbers in
    (c.requires.1.1.1.1.1, (c.requires.1.1.1.1.0, (rising, more g a)))

pub open_on-requires-clause-sound : goal.open_on-requires-clause-sound
open_on-requires-clause-sound g c =
    let a = (goal.at.open_on-requires-clause-sound g c).Else-is_full in
    let old = c.args.state.now in
    subst (λ (h : Held). HasSoundParts h.limits h.state) (sym c.add_pshm-number.ensures.added)
    (with_new-sound old.limits old.state (kinds.Named names.Pshm) g.name c.args.cred c.args.mode empty_segment c.requires.1.1.1.1.0 (more g a)
    c.requires.1.1.1.0 tt (omega (arith, (c.requires.0.named names.Pshm).together)) c.requires.0)
