use Rattle.ipc_heap.proofs.Opens.{AreGone}
use Rattle.ipc_heap.proofs.opening.note_objects.Given as goal

-- as many objects were gone through as turns were taken
abbrev pub invariant-loop : goal.invariant-loop
invariant-loop l = AreGone l.range l.table l.words l.uses l.counter l.at l.last l.some_empty
