use Rattle.std.proofs.Common.{take}
use Rattle.std.specs.Prelude.{All}
use Rattle.ipc_state.proofs.sound.each_is_sound.Given as goal

-- those before this one are
abbrev pub invariant-loop-item : goal.invariant-loop-item
invariant-loop-item g l = All (λ e. g.T.SoundAlone.IsSound l.limits e.value) (take l.item-index l.items)
