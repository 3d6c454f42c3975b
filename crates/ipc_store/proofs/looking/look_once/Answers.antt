-- Each exit: nothing but reads, and what they found.
use Rattle.std.proofs.Common.{subst}
use Rattle.ipc_store.specs.Image.{StandsFor}
use Rattle.ipc_store.proofs.Looks.{LeavesAlone-reads, LeavesAlone-then}
use Rattle.ipc_store.proofs.looking.look_once.Goals as goal

pub returns-in_default-clause-alone : goal.returns-in_default-clause-alone
returns-in_default-clause-alone g c =
    LeavesAlone-then c.read_heads-before.ensures.alone
    (LeavesAlone-then (LeavesAlone-reads c.read_all-found.ensures.reads) c.read_heads-after.ensures.alone)

pub returns-then-ne-clause-alone : goal.returns-then-ne-clause-alone
returns-then-ne-clause-alone g c =
    LeavesAlone-then c.read_heads-before.ensures.alone
    (LeavesAlone-then (LeavesAlone-reads c.read_all-found.ensures.reads) c.read_heads-after.ensures.alone)

pub returns-in-Ok-clause-alone : goal.returns-in-Ok-clause-alone
returns-in-Ok-clause-alone g c =
    LeavesAlone-then c.read_heads-before.ensures.alone
    (LeavesAlone-then (LeavesAlone-reads c.read_all-found.ensures.reads) c.read_heads-after.ensures.alone)

pub returns-in-Ok-clause-tells : goal.returns-in-Ok-clause-tells
returns-in-Ok-clause-tells g c = λ honest.
    let reads = c.read_heads-before.ensures.alone.stays honest in
    subst (StandsFor c.in-Ok.engine.limits c.in-Ok.engine.state) (reads.contents honest) (c.in-Ok.ensures.stands (reads.time.honest.0 honest))
