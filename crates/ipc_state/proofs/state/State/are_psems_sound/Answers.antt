use Rattle.std.proofs.Common.{◌≤◌, subst, []}
use Rattle.std.specs.Bool.{Decides}
use Rattle.std.specs.Str.{bytes_eq}
use Rattle.ipc_keys.specs.declared.check.NameKind.TheVariants as names
use Rattle.posix_sem.specs.Semaphore.{sem_value_max}
use Rattle.ipc_state.specs.declared.parked.ObjectKind.TheVariants as kinds
use Rattle.ipc_state.specs.Held.{Held}
use Rattle.ipc_state.specs.Named.{is_named_so}
use Rattle.ipc_state.specs.Opening.{stays}
use Rattle.ipc_state.specs.Sound.{AreHeld}
use Rattle.ipc_state.proofs.state.State.are_psems_sound.Goals as goal

pub returns : goal.returns
returns c =
    let told = subst
    (λ (m : Held). Decides c.are_held.result (AreHeld bytes_eq [] m.limits.named_semaphores (λ x. x ≤ sem_value_max) (is_named_so names.Psem)
    (stays (kinds.Named names.Psem) m.state.processes.entries) m.state.psem))
    c.self.view_is c.are_held.ensures in
    (λ yes. record { held = told.0 yes; together = tt }, λ h. told.1 h.held)
