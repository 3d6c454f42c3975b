use Rattle.std.proofs.Common.{◌≡◌, ◌≤◌, length, take}
use Rattle.ipc_wire.specs.Values.{bytes_of, numbers_in}
use Rattle.sysv_calls.proofs.sem.put_values.Given as goal

-- those before this one are put
abbrev pub invariant-loop-place : goal.invariant-loop-place
invariant-loop-place l =
    record {
      inside : l.place ≤ length (numbers_in (bytes_of l.values));
      put : take l.place l.all ≡ take l.place (numbers_in (bytes_of l.values));
    }
