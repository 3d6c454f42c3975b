-- What waits is put into the disk under it, or waits on.
use Rattle.std.proofs.Common.{◌≡◌, ℕ, ◌∙◌, ap, sym, subst, arith}
use Rattle.std.specs.Prelude.{OnOk, Result}
use Rattle.ipc_disk.specs.declared.disk.DiskFault.{DiskFault}
use Rattle.ipc_disk.specs.declared.range.Range.{Range}
use Rattle.ipc_disk.specs.declared.run.Run.{Run}
use Rattle.ipc_disk.specs.Medium.{IsHonest, IsShaped}
use Rattle.ipc_disk.specs.Run.{run_values}
use Rattle.ipc_disk.specs.Runs.{set_run}
use Rattle.ipc_disk.proofs.RunsLemmas.{Stays-failed, Stays-put}
use Rattle.ipc_disk.proofs.joined.JoinedDisk.put.Goals as goal

pub returns-in_err-count_fault-clause-medium : goal.returns-in_err-count_fault-clause-medium
returns-in_err-count_fault-clause-medium g c =
    let disk = c.args.self.now in
    Stays-failed (g.D.RunDisk.size disk.disk) _ _ disk.run.value (g.D.RunDisk.medium disk.disk) (g.D.RunDisk.medium c.write-done.new.self)
    (ap (λ (r : Run). r.range.first) c.deref.ensures) (c.sectors.ensures ∙ ap run_values c.deref-2.ensures) disk.inside (g.met.D.RunDisk.shaped disk.disk)
    (λ image now. subst (λ (n : ℕ). IsShaped n image) c.write-done.ensures.size (g.met.D.RunDisk.shaped c.write-done.new.self image now))
    c.write-done.ensures.medium

pub returns-clause-medium : goal.returns-clause-medium
returns-clause-medium g c =
    let disk = c.args.self.now in
    Stays-put (g.D.RunDisk.size disk.disk) _ _ disk.run.value (g.D.RunDisk.medium disk.disk) (g.D.RunDisk.medium c.write-done.new.self)
    (ap (λ (r : Run). r.range.first) c.deref.ensures) (c.sectors.ensures ∙ ap run_values c.deref-2.ensures) disk.inside (g.met.D.RunDisk.shaped disk.disk)
    (λ image now. subst (λ (n : ℕ). IsShaped n image) c.write-done.ensures.size (g.met.D.RunDisk.shaped c.write-done.new.self image now))
    c.write-done.ensures.medium c.start_at.new.self c.start_at.ensures.values
    (omega (arith, c.requires, ap (λ (r : Range). r.first) c.start_at.ensures.range, ap (λ (r : Range). r.count) c.start_at.ensures.range))
    (subst (λ (r : Result (Unit {0}) DiskFault). OnOk r (IsHonest (g.D.RunDisk.medium disk.disk)
    → (g.D.RunDisk.medium c.write-done.new.self).contents
    ≡ set_run c.deref.result.now.range.first c.sectors.result.now (g.D.RunDisk.medium disk.disk).contents))
    (sym c.in_ok-count_fault.ensures.same) c.write-done.ensures.written)
