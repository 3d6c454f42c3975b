-- The slots so far are chosen.
use Rattle.std.proofs.Common.{take}
use Rattle.premises.specs.Remembered.{slots_of, IsLeftOf}
use Rattle.premises.proofs.remembering.choose.Given as goal

abbrev pub invariant-loop-place : goal.invariant-loop-place
invariant-loop-place l = IsLeftOf (take l.place (slots_of l.slots)) (slots_of l.left.items)
