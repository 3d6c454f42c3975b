use Rattle.std.proofs.Common.{◌≡◌, ◌∙◌, ◌≤◌, false, sym, subst, arith}
use Rattle.ipc_limits.specs.declared.limits.Limits.{Limits}
use Rattle.posix_sem.specs.Semaphore.{sem_value_max}
use Rattle.ipc_keys.specs.declared.check.NameKind.TheVariants as names
use Rattle.ipc_state.specs.declared.parked.ObjectKind.TheVariants as kinds
use Rattle.ipc_state.specs.Held.{Held}
use Rattle.ipc_state.specs.Numbered.{is_full}
use Rattle.ipc_state.specs.Sound.{HasSoundParts}
use Rattle.ipc_state.specs.State.{has_all_psems}
use Rattle.ipc_state.proofs.CallerLemmas.{kind-bounds, with_new-sound}
use Rattle.posix_calls.proofs.psem.make_semaphore.Goals.{Else-is_full}
use Rattle.posix_calls.proofs.psem.make_semaphore.Goals as goal

-- there may be one more, of this value
more : (g : _) (c : Else-is_full g) → has_all_psems c.args.state.now.limits c.args.state.now.state ≡ false
more g c =
    subst (λ (l : Limits). is_full l.named_semaphores c.args.state.now.state.psem ≡ false) c.limits.ensures.limits
    (subst (λ o. is_full c.limits.result.now.named_semaphores o ≡ false) c.psems.ensures.objects (sym c.is_full.ensures ∙ c.if-is_full.false))

short : (g : _) (c : Else-is_full g) → c.args.value ≤ sem_value_max
short g c = omega (arith, c.if-value-gt-SEM_VALUE_MAX.false)

pub add_psem-number-requires : goal.add_psem-number-requires
add_psem-number-requires g c =
    let a = (goal.at.add_psem-number-requires g c).Else-is_full in
    let rising = (kind-bounds c.args.state.now.limits c.args.state.now.state (kinds.Named names.Psem) c.requires.0).numbers in
    (c.requires.1.1.1.1.1, (c.requires.1.1.1.1.0, (rising, (more g a, short g a))))

pub open_on-requires-clause-sound : goal.open_on-requires-clause-sound
open_on-requires-clause-sound g c =
    let a = (goal.at.open_on-requires-clause-sound g c).Else-is_full in
    let old = c.args.state.now in
    subst (λ (h : Held). HasSoundParts h.limits h.state) (sym c.add_psem-number.ensures.added)
    (with_new-sound old.limits old.state (kinds.Named names.Psem) g.name c.args.cred c.args.mode c.args.value c.requires.1.1.1.1.0 (more g a)
    c.requires.1.1.1.0 (short g a) tt c.requires.0)
