-- What was read, and what is written then.
use Rattle.std.proofs.Common.{◌≡◌, ◌⊎◌, inl, inr, ⊎_elim, ◌<◌, ◌^◌, Err, length, refl, ap, subst, ◌∙◌, arith}
use Rattle.ipc_limits.specs.declared.limits.Limits.{Limits}
use Rattle.ipc_disk.specs.Counts.{counted}
use Rattle.ipc_disk.specs.Medium.{Image, Medium, IsHonest}
use Rattle.ipc_disk.specs.Since.{EachImageSince}
use Rattle.ipc_disk.proofs.CallerLemmas.{EachImageSince-join, EachImageSince-weaken}
use Rattle.ipc_checkpoint.specs.View.{epoch_of}
use Rattle.ipc_state.specs.State.{State, restart}
use Rattle.ipc_engine.specs.Engine.{Machine}
use Rattle.ipc_image.specs.Format.{format_one}
use Rattle.ipc_store.specs.Image.{StandsFor, StandsForIn}
use Rattle.ipc_store.specs.Relations.Upgrade.{IsReadOld}
use Rattle.ipc_store.specs.Upgrade.{UpgradesTo}
use Rattle.ipc_store.proofs.Upgrading.{old-stands, restart-of-two}
use Rattle.ipc_store.proofs.Upgrades.{only-read, refused-by}
use Rattle.ipc_store.proofs.upgrade.upgrade_as.Given.{Over}
use Rattle.ipc_store.proofs.upgrade.upgrade_as.Goals as goal
use Rattle.ipc_store.proofs.upgrade.upgrade_as.Goals.{After-write_new}

module _ (g : Over) (c : After-write_new g) (honest : IsHonest (g.D.SectorDisk.medium c.args.disk)) where
  abbrev old : Medium
  old = g.D.SectorDisk.medium c.args.disk

  abbrev mid : Medium
  mid = g.D.SectorDisk.medium c.read_old.new.disk

  abbrev new : Medium
  new = g.D.SectorDisk.medium c.write_new.new.disk

  abbrev machine : Machine
  machine = c.in-Ok.found.1

  -- what was read stood there before
  read : IsReadOld mid c.in-Ok.found.0 machine
  read = c.in-Ok.ensures.read honest

  stood : StandsForIn format_one machine.limits read.state old.contents
  stood =
      subst (StandsForIn format_one machine.limits read.state) ((c.read_old.ensures.reads.stays honest).contents honest)
      (old-stands format_one machine.limits (epoch_of c.in-Ok.found.0) read.objects read.batches read.base read.state mid.contents read.old read.stand
      read.leads)

  -- a restart is the same in both versions
  restarted : machine.state ≡ restart c.args.limits.now read.state
  restarted =
      read.restarted ∙ restart-of-two machine.limits c.args.limits.now read.state read.old.device.superblock.of.version
      (ap (λ (l : Limits). l.version) c.requires)

  -- what a crash leaves at any moment
  leaves : EachImageSince old new (UpgradesTo c.args.limits.now old)
  leaves =
      EachImageSince-join old mid new (UpgradesTo c.args.limits.now old)
      (only-read c.args.limits.now old mid (c.read_old.ensures.reads.stays honest) (g.met.D.SectorDisk.only_now c.args.disk))
      (EachImageSince-weaken mid new (λ image. StandsForIn format_one machine.limits read.state image ⊎ StandsFor c.args.limits.now machine.state image)
      (UpgradesTo c.args.limits.now old) (c.write_new.ensures.any_moment read)
      (λ image either. inr (
        machine.limits,
        read.state,
        stood,
        ⊎_elim (λ is. inl is) (λ is. inr (subst (λ (s : State). StandsFor c.args.limits.now s image) restarted is)) either,
      )))

pub returns-in-Err-clause-any_moment : goal.returns-in-Err-clause-any_moment
returns-in-Err-clause-any_moment g c = λ honest.
    only-read c.args.limits.now _ _ (c.read_old.ensures.reads.stays honest) (g.met.D.SectorDisk.only_now c.args.disk)

pub returns-in-Ok-write_new-clause-any_moment : goal.returns-in-Ok-write_new-clause-any_moment
returns-in-Ok-write_new-clause-any_moment g c = λ honest. leaves g (goal.at.returns-in-Ok-write_new-clause-any_moment g c).After-write_new honest

pub returns-clause-any_moment : goal.returns-clause-any_moment
returns-clause-any_moment g c = λ honest. leaves g (goal.at.returns-clause-any_moment g c).After-write_new honest

pub returns-in-Ok-write_new-clause-ok : goal.returns-in-Ok-write_new-clause-ok
returns-in-Ok-write_new-clause-ok g c = λ honest.
    let here = (goal.at.returns-in-Ok-write_new-clause-ok g c).After-write_new in
    let at = read g here honest in
    record {
      own = c.in-Ok.found.1.limits;
      greater = c.in-Ok.ensures.greater;
      state = at.state;
      stood = stood g here honest;
      honest = c.write_new.ensures.same.honest.0 (c.read_old.ensures.reads.same.honest.0 honest);
      stands = λ image now. subst (λ (s : State). StandsFor c.args.limits.now s image) (restarted g here honest)
          (c.in-Ok-write_new.ensures.ok at image now);
      whole = c.in-Ok-write_new.ensures.whole (c.read_old.ensures.reads.same.honest.0 honest);
    }

pub returns-in-Err-clause-refusals : goal.returns-in-Err-clause-refusals
returns-in-Err-clause-refusals g c = λ own s honest stands passed greater room.
    let image : Image = (g.D.SectorDisk.medium c.args.disk).contents in
    let few : length image < 2 ^ 32 =
    omega (arith, (g.met.D.SectorDisk.shaped c.args.disk image honest.reads).count, g.met.D.SectorDisk.fits c.args.disk) in
    refused-by c.args.limits.now own s (g.D.SectorDisk.size c.args.disk) image c.in-Err.error few stands passed greater room
    (c.in-Err.ensures.refused honest)

-- what had failed when all was read
read-failures : (g : Over) (c : After-write_new g)
    → (g.D.SectorDisk.counts c.read_old.new.disk).failures ≡ (g.D.SectorDisk.counts c.args.disk).failures
read-failures g c = ⊎_elim (λ bad. cc) (λ same. same) c.in-Ok.ensures.reads.no_failure

pub returns-in-Err-clause-counts : goal.returns-in-Err-clause-counts
returns-in-Err-clause-counts g c = record {
  failure = λ device. c.in-Err.ensures.reads.failure (ap Err device);
  no_failure = ⊎_elim (λ device. inl cc) inr c.in-Err.ensures.reads.no_failure;
}

pub returns-in-Ok-write_new-clause-counts : goal.returns-in-Ok-write_new-clause-counts
returns-in-Ok-write_new-clause-counts g c = record {
  failure = λ never. absurd never;
  no_failure = inr (c.in-Ok-write_new.ensures.counts.ok
      ∙ read-failures g (goal.at.returns-in-Ok-write_new-clause-counts g c).After-write_new);
}

pub returns-clause-counts : goal.returns-clause-counts
returns-clause-counts g c = record {
  failure = λ device. c.in-Err-write_new.ensures.counts.err
      ∙ ap (λ n. counted n 1) (read-failures g (goal.at.returns-clause-counts g c).After-write_new);
  no_failure = inl refl;
}
