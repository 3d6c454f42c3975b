-- A sector that waits is read as it was written, another one from the disk under it.
use Rattle.std.proofs.Common.{◌≡◌, ◌-◌, ℕ, ◌∙◌, true, false, refl, sym, subst}
use Rattle.std.specs.Prelude.{OnOk, Result, Some, slice_get}
use Rattle.std.proofs.lemmas.Result.{on_ok_weaker}
use Rattle.ipc_disk.specs.declared.disk.DiskFault.{DiskFault}
use Rattle.ipc_disk.specs.declared.run.Run.{Run}
use Rattle.ipc_disk.specs.Medium.{IsHonest, IsShaped}
use Rattle.ipc_disk.specs.Range.{IsInside}
use Rattle.ipc_disk.specs.Run.{run_values}
use Rattle.ipc_disk.proofs.RunsLemmas.{Stays-synced, read-waiting, read-under}
use Rattle.ipc_disk.proofs.joined.JoinedDiskSectorDisk.read.Goals as goal

pub returns-in-Some-clause-bytes : goal.returns-in-Some-clause-bytes
returns-in-Some-clause-bytes g c = λ honest.
    let disk = c.args.self.now in
    read-waiting c.args.at (g.D.RunDisk.size disk.disk) c.in-Some.sector.now disk.run.value (g.D.RunDisk.medium disk.disk)
    disk.inside (g.met.D.RunDisk.shaped disk.disk)
    (subst (λ (r : Run). IsInside r.range c.args.at) c.deref.ensures (c.in-Some.ensures.inside.0 refl))
    (subst (λ (r : Run). slice_get (run_values r) (c.args.at - r.range.first) ≡ Some c.in-Some.sector.now) c.deref.ensures c.in-Some.ensures.value)
    honest.reads.0

pub returns-clause-bytes : goal.returns-clause-bytes
returns-clause-bytes g c =
    let disk = c.args.self.now in
    let outside : IsInside disk.run.value.range c.args.at → ⊥ = λ inside.
    let got : false ≡ true = c.in_default.ensures.inside.1 (subst (λ (r : Run). IsInside r.range c.args.at) (sym c.deref.ensures) inside) in cc in
    on_ok_weaker c.count_fault.result
    (λ bytes honest. read-under c.args.at (g.D.RunDisk.size disk.disk) disk.run.value (g.D.RunDisk.medium disk.disk) disk.inside
    (g.met.D.RunDisk.shaped disk.disk) outside honest.reads.0 ∙ bytes honest.reads.0)
    (subst (λ (r : Result (Unit {0}) DiskFault). OnOk r (IsHonest (g.D.RunDisk.medium disk.disk)
    → slice_get (g.D.RunDisk.medium disk.disk).contents c.args.at ≡ Some c.read.new.into))
    (sym c.count_fault.ensures.same) c.read.ensures.bytes)

pub returns-clause-medium : goal.returns-clause-medium
returns-clause-medium g c =
    let disk = c.args.self.now in
    Stays-synced (g.D.RunDisk.size disk.disk) disk.run.value (g.D.RunDisk.medium disk.disk) (g.D.RunDisk.medium c.read.new.self) disk.inside
    (g.met.D.RunDisk.shaped disk.disk)
    (λ image now. subst (λ (n : ℕ). IsShaped n image) c.read.ensures.size (g.met.D.RunDisk.shaped c.read.new.self image now))
    c.read.ensures.medium
