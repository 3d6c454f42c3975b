use Rattle.std.proofs.Common.{◌≡◌, ℕ, ◌<◌, get_or}
use Rattle.ipc_state.specs.declared.numbered.Item.{Item}
use Rattle.ipc_state.proofs.adjustments.have_same_numbers.Given as goal

-- those before this place have the same numbers
abbrev pub invariant-loop-place : goal.invariant-loop-place
invariant-loop-place g l =
    (k : ℕ) (d : Item _) (e : Item _) → k < l.place → (get_or l.items k d).number ≡ (get_or l.others k e).number
