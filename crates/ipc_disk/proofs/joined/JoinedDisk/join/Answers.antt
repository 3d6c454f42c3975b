-- One sector is written into what waits.
use Rattle.std.proofs.Common.{subst}
use Rattle.ipc_disk.specs.declared.run.Run.{Run}
use Rattle.ipc_disk.proofs.RunsLemmas.{IsWritten, Writes-run, contents-run}
use Rattle.ipc_disk.proofs.joined.JoinedDisk.join.Goals as goal

written : (g : _) (c : goal.After-self-2-1 g) → IsWritten c.args.at c.args.from.now c.args.self.now.run.value c.set.new.self
written g c =
    let e = c.set.ensures in
    subst (λ (r : Run). IsWritten c.args.at c.args.from.now r c.set.new.self) c.deref_mut.ensures.value
    (record { first = e.first; inside = e.inside; replaces = e.replaces; next = e.next; appends = e.appends })

pub returns-clause-medium : goal.returns-clause-medium
returns-clause-medium g c =
    let disk = c.args.self.now in
    Writes-run c.args.at (g.D.RunDisk.size disk.disk) c.args.from.now disk.run.value c.set.new.self (g.D.RunDisk.medium disk.disk)
    c.requires.joins c.requires.size disk.inside (g.met.D.RunDisk.shaped disk.disk) (written g c)

pub returns-clause-written : goal.returns-clause-written
returns-clause-written g c =
    let disk = c.args.self.now in
    contents-run c.args.at (g.D.RunDisk.size disk.disk) c.args.from.now disk.run.value c.set.new.self (g.D.RunDisk.medium disk.disk)
    c.requires.joins c.requires.size disk.inside (g.met.D.RunDisk.shaped disk.disk) (written g c)
