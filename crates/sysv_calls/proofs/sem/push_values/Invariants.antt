use Rattle.std.proofs.Common.{◌≡◌, ◌≤◌, ◌++◌, map, take, vec_capacity}
use Rattle.ipc_base.specs.Numbers.{record_bytes}
use Rattle.ipc_base.specs.declared.field.Field.TheVariants.{U16}
use Rattle.sysv_calls.proofs.sem.push_values.Given as goal

-- the values so far follow what was there
abbrev pub invariant-loop-semaphore : goal.invariant-loop-semaphore
invariant-loop-semaphore l =
    record {
      bytes : l.body.items ≡ l.initial.body.items ++ record_bytes (map (λ x. U16 x.value) (take l.semaphore-index l.semaphores));
      room : vec_capacity l.initial.body ≤ vec_capacity l.body;
    }
