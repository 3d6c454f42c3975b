-- One slot more of zeros.
use Rattle.std.proofs.Common.{List, [], ◌∷◌, ◌++◌, ◌∙◌, ap}
use Rattle.ipc_disk.specs.declared.memory.Slot.{Slot}
use Rattle.ipc_disk.specs.declared.memory.TheConstants.{ZEROS}
use Rattle.ipc_disk.proofs.SlotsLemmas.{replicate_more}
use Rattle.ipc_disk.proofs.memory.zeros.Goals as goal

pub loop-preserved : goal.loop-preserved
loop-preserved c =
    c.in_ok-push.ensures.items ∙ ap (λ (l : List Slot). l ++ ZEROS ∷ []) c.loop.invariant ∙ replicate_more c.loop.counter ZEROS
