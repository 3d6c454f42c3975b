use Rattle.std.proofs.Common.{sym, ◌∙◌}
use Rattle.ipc_keys.specs.declared.check.NameKind.TheVariants as names
use Rattle.ipc_state.specs.declared.parked.ObjectKind.TheVariants as kinds
use Rattle.ipc_state.specs.Sound.{AreSound}
use Rattle.ipc_state.specs.State.{named_of}
use Rattle.ipc_state.proofs.SoundMqs.{on-names}
use Rattle.ipc_state.proofs.state.State.are_named_sound.Goals.{then-are_mqs_sound, else-are_mqs_sound}
use Rattle.ipc_state.proofs.state.State.are_named_sound.Goals as goal

pub returns-then-are_psems_sound : goal.returns-then-are_psems_sound
returns-then-are_psems_sound c =
    let s = c.args.self.now in (
      λ yes. elim c.if-are_mqs_sound.branch [
        | then-are_mqs_sound w ↦ on-names (λ kind. AreSound s.limits s.state.processes.entries (kinds.Named kind) (named_of s.state kind))
            (c.are_mqs_sound.ensures.0 w.if-are_mqs_sound.true)
            (w.are_psems_sound.ensures.0 (sym w.value-is ∙ c.if-are_psems_sound.true)) (c.are_pshms_sound.ensures.0 yes)
        | else-are_mqs_sound w ↦ let no = sym w.value-is ∙ c.if-are_psems_sound.true in cc
      ],
      λ h. c.are_pshms_sound.ensures.1 (h names.Pshm),
    )

pub returns-else-are_psems_sound : goal.returns-else-are_psems_sound
returns-else-are_psems_sound c = (
  λ yes. let no = c.if-are_psems_sound.false in cc,
  λ h. elim c.if-are_mqs_sound.branch [
    | then-are_mqs_sound w ↦ w.value-is ∙ w.are_psems_sound.ensures.1 (h names.Psem)
    | else-are_mqs_sound w ↦ w.value-is ∙ c.are_mqs_sound.ensures.1 (h names.Mq)
  ],
)
