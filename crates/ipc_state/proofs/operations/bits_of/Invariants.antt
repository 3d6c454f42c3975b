use Rattle.std.proofs.Common.{◌≡◌, ◌≤◌, length, take}
use Rattle.std.specs.List.{fold}
use Rattle.ipc_wire.specs.SemBufs.{bytes_of, operations_in}
use Rattle.ipc_state.specs.Bits.{with_bit}
use Rattle.ipc_state.proofs.operations.bits_of.Given as goal

-- the semaphores of those before this one
abbrev pub invariant-loop-place : goal.invariant-loop-place
invariant-loop-place l =
    record {
      inside : l.place ≤ length (operations_in (bytes_of l.operations));
      named : l.word ≡ fold with_bit 0 (take l.place (operations_in (bytes_of l.operations)));
    }
