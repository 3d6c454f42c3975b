-- A look tells of the disk as it was before the first of them.
use Rattle.std.proofs.Common.{subst}
use Rattle.ipc_store.specs.Relations.Look.{Tells}
use Rattle.ipc_store.proofs.Looks.{told-ok, told-refusals, told-refused}
use Rattle.ipc_store.proofs.looking.look.Goals as goal

pub returns-in-Some-clause-ok : goal.returns-in-Some-clause-ok
returns-in-Some-clause-ok g c =
    let before = c.loop.invariant.alone in
    told-ok c.in-Some.found (g.D.SectorDisk.medium c.args.disk.now).contents
    (λ honest. subst (Tells c.in-Some.found) ((before.stays honest).contents honest) (c.in-Some.ensures.tells ((before.stays honest).time.honest.0 honest)))

pub returns-in-Some-clause-refusals : goal.returns-in-Some-clause-refusals
returns-in-Some-clause-refusals g c =
    let before = c.loop.invariant.alone in
    told-refusals c.in-Some.found (g.D.SectorDisk.medium c.args.disk.now).contents
    (λ honest. subst (Tells c.in-Some.found) ((before.stays honest).contents honest) (c.in-Some.ensures.tells ((before.stays honest).time.honest.0 honest)))

pub returns-in-Some-clause-refused : goal.returns-in-Some-clause-refused
returns-in-Some-clause-refused g c =
    let before = c.loop.invariant.alone in
    told-refused c.in-Some.found (g.D.SectorDisk.medium c.args.disk.now).contents
    (λ honest. subst (Tells c.in-Some.found) ((before.stays honest).contents honest) (c.in-Some.ensures.tells ((before.stays honest).time.honest.0 honest)))
