use Rattle.std.proofs.Common.{take}
use Rattle.std.specs.Prelude.{All}
use Rattle.ipc_state.specs.State.{objects_in}
use Rattle.ipc_state.specs.Sound.{AreSoundDescriptors}
use Rattle.ipc_state.proofs.state.State.have_sound_descriptors.Given as goal

-- those before this one are
abbrev pub invariant-loop-item : goal.invariant-loop-item
invariant-loop-item l = All (λ p. AreSoundDescriptors l.self.limits (objects_in l.self.state) p.value.descriptors) (take l.item-index l.items)
