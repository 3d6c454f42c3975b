-- What a list of operations demands of its set, so that it may be tried (semop(2)): how many semaphores there have to
-- be, and which access its process needs. And whether it is patient.
use Rattle.std.specs.Prelude.{◌+◌, max, Bool, true, false, not, ◌&&◌, ◌||◌, pos, List}
use Rattle.std.specs.List.{fold}
use Rattle.std.specs.Ordering.{int_eq}
use Rattle.ipc_wire.specs.declared.sem_bufs.SemBuf.{SemBuf}
use Rattle.sysv_sem.specs.declared.operation.Operation.{Operation}
use Rattle.sysv_sem.specs.Operation.{is_patient}
use Rattle.ipc_state.specs.declared.operations.Demands.{Demands}

-- an operation as it stands in a request
abbrev pub operation_of : SemBuf → Operation
operation_of b = record { num = b.num; sem_op = b.op; flags = record { 0 = b.flags } }

-- an operation that waits for 0 reads its semaphore, and any other alters it
abbrev pub is_read : SemBuf → Bool
is_read o = int_eq o.op (pos 0)

-- the demands of no operation, of a list, and of an operation more
abbrev pub no_demands : Demands
no_demands = record { semaphores = 0; reads = false; alters = false; patient = true }

abbrev pub demanding : Demands → SemBuf → Demands
demanding d o =
    record {
      semaphores = max d.semaphores (o.num + 1);
      reads = d.reads || is_read o;
      alters = d.alters || not (is_read o);
      patient = d.patient && is_patient (operation_of o);
    }

abbrev pub demands_of : List SemBuf → Demands
demands_of operations = fold demanding no_demands operations
