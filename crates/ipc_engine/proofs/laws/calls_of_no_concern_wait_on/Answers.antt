use Rattle.std.proofs.Common.{◌≡◌, false, not, ap, refl}
use Rattle.ipc_state.specs.Finish.{Tried, Finishes, Waits, has_to_wait}
use Rattle.ipc_engine.proofs.Going.{spared-waits}
use Rattle.ipc_engine.proofs.laws.calls_of_no_concern_wait_on.Goals as goal

waits-on : (t : Tried) → not (has_to_wait t) ≡ false → t ≡ Waits
waits-on (Finishes f) is = cc
waits-on Waits is = refl

pub returns : goal.returns
returns c limits s pid other again kind waiting f is apart spared waits =
    waits-on _ (spared-waits limits s pid again kind f is other apart waiting spared (ap (λ (t : Tried). not (has_to_wait t)) waits))
