use Rattle.std.proofs.Common.{◌≡◌, ◌∙◌, ◌-◌, ℕ, true, List, Some, All, sym, ap, subst}
use Rattle.std.specs.Prelude.{slice_get}
use Rattle.std.proofs.lemmas.List.Folds.{list_all-map}
use Rattle.std.proofs.lemmas.List.Sums.{AllPass-from_list_all}
use Rattle.ipc_wire.specs.SemBufs.{operations_in}
use Rattle.sysv_sem.specs.Operation.{is_patient}
use Rattle.sysv_calls.specs.Semop.{decided, operation_of, operations_of}
use Rattle.sysv_calls.proofs.Stopping.{patient-gives, patient-waits}
use Rattle.sysv_calls.proofs.semop.lacks_its_last.Goals as goal

pub returns-then-count-gt0 : goal.returns-then-count-gt0
returns-then-count-gt0 c = λ is held.
    let ops = operations_of c.args.operations.now.bytes.items in
    let patient : c.are_patient.result ≡ true = search in
    let all : All (λ o. is_patient o ≡ true) ops =
    AllPass-from_list_all is_patient ops
    (list_all-map is_patient operation_of (operations_in c.args.operations.now.bytes.items) ∙ sym c.are_patient.ensures ∙ patient) in
    let there : slice_get ops (c.len-count.result - 1) ≡ Some c.operation_at.result =
    subst (λ (l : List ℕ). slice_get (operations_of l) (c.len-count.result - 1) ≡ Some c.operation_at.result) c.lend-list.ensures
    c.operation_at.ensures in
    let stop = c.lacks.ensures.waits is held ops (c.len-count.result - 1) there (patient-gives ops all) in
    ap (decided ops) stop.1 ∙ patient-waits ops stop.0 all
