-- Nothing waits then, and the disk under it is synced.
use Rattle.std.proofs.Common.{ℕ, sym, subst}
use Rattle.std.specs.Prelude.{OnOk, Result}
use Rattle.std.proofs.lemmas.Result.{on_ok_weaker}
use Rattle.ipc_disk.specs.declared.disk.DiskFault.{DiskFault}
use Rattle.ipc_disk.specs.Medium.{Image, IsDurable, IsShaped}
use Rattle.ipc_disk.specs.Runs.{with_waiting}
use Rattle.ipc_disk.proofs.RunsLemmas.{Stays-after, Stays-synced, IsDurable-joined, honest-before}
use Rattle.ipc_disk.proofs.joined.JoinedDisk.flush.Goals as goal

pub returns-clause-medium : goal.returns-clause-medium
returns-clause-medium g c =
    let mid = c.put.new.self in
    Stays-after _ _ _
    (honest-before (g.D.RunDisk.size mid.disk) mid.run.value _ (g.D.RunDisk.medium mid.disk) mid.inside (g.met.D.RunDisk.shaped mid.disk) c.put.ensures.medium)
    c.put.ensures.medium
    (Stays-synced (g.D.RunDisk.size mid.disk) mid.run.value (g.D.RunDisk.medium mid.disk) (g.D.RunDisk.medium c.sync.new.self) mid.inside
    (g.met.D.RunDisk.shaped mid.disk)
    (λ image now. subst (λ (n : ℕ). IsShaped n image) c.sync.ensures.size (g.met.D.RunDisk.shaped c.sync.new.self image now))
    c.sync.ensures.medium)

pub returns-clause-durable : goal.returns-clause-durable
returns-clause-durable g c =
    let mid = c.put.new.self in
    let under = g.D.RunDisk.medium c.sync.new.self in
    let P : Image → Type 0 = λ l. IsDurable (with_waiting mid.run.value.range.first l under) in
    on_ok_weaker c.count_fault.result
    (λ durable. subst P (sym c.in_ok-put.ensures.values) (IsDurable-joined mid.run.value.range.first under durable))
    (subst (λ (r : Result (Unit {0}) DiskFault). OnOk r (IsDurable under)) (sym c.count_fault.ensures.same) c.sync.ensures.durable)
