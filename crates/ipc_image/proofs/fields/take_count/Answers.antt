-- Too few bytes for the number.
use Rattle.std.proofs.Common.{[], ◌∷◌}
use Rattle.ipc_image.proofs.fields.take_count.Goals as goal

pub returns-in_err-numbers-clause-none : goal.returns-in_err-numbers-clause-none
returns-in_err-numbers-clause-none c =
    rw c.from_residual.ensures (λ n rest lt. c.in_err-numbers.ensures.none (n ∷ []) rest (lt, tt))
