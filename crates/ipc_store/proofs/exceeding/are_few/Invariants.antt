use Rattle.std.proofs.Common.{◌≡◌, ◌+◌, take}
use Rattle.std.specs.Prelude.{sum_by}
use Rattle.ipc_store.specs.Larger.{room}
use Rattle.ipc_store.proofs.exceeding.are_few.Given as goal

-- so much may still come
abbrev pub invariant-loop-queue : goal.invariant-loop-queue
invariant-loop-queue l = sum_by (λ e. room e.value.object) (take l.queue-index l.queues) + l.left ≡ l.most
