-- Too few bytes for the token.
use Rattle.std.proofs.Common.{[], ◌∷◌, arith}
use Rattle.ipc_image.proofs.marked_queue.take_token.Goals as goal

pub returns-in_err-numbers-clause-none : goal.returns-in_err-numbers-clause-none
returns-in_err-numbers-clause-none c = rw c.from_residual.ensures (λ rest. c.in_err-numbers.ensures.none (1 ∷ []) rest (omega arith, tt))
