-- What a root says.
use Rattle.std.specs.Prelude.{◌≡◌, ℕ, List}
use Rattle.ipc_heap.specs.declared.root.Root.{Root}
use Rattle.ipc_heap.specs.Heap.{epoch_in, first_in, len_in}

-- it says these numbers
pub record IsRead (sector : List ℕ) (root : Root) : Type 0 where
  pub epoch : epoch_in sector ≡ root.epoch
  pub first : first_in sector ≡ root.first
  pub len : len_in sector ≡ root.len
