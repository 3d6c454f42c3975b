use Rattle.ipc_engine.proofs.Marks.{or-thrice}
use Rattle.ipc_engine.proofs.changed.Changed.mark_exit.Goals as goal

pub returns-clause-marked : goal.returns-clause-marked
returns-clause-marked c o =
    or-thrice _ _ _ _ _ _ _ (c.mark_sets.ensures.marked o) (c.mark_segments.ensures.marked o) (c.mark_queues.ensures.marked o)
