use Rattle.std.proofs.Common.{◌≡◌, true, take}
use Rattle.std.specs.Prelude.{nat_le}
use Rattle.std.specs.List.{list_all}
use Rattle.ipc_wire.specs.Values.{bytes_of, numbers_in}
use Rattle.sysv_sem.specs.Operation.{most_value}
use Rattle.sysv_calls.proofs.sem.are_values.Given as goal

-- those before this one are in range
abbrev pub invariant-loop-place : goal.invariant-loop-place
invariant-loop-place l = list_all (λ v. nat_le v most_value) (take l.place (numbers_in (bytes_of l.values))) ≡ true
