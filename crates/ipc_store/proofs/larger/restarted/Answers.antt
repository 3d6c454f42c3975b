-- The store over what was read, and a restart.
use Rattle.std.proofs.Common.{◌≡◌, sym, ap, subst, ◌∙◌}
use Rattle.ipc_limits.specs.declared.limits.Limits.{Limits}
use Rattle.ipc_checkpoint.specs.View.{CheckpointView, epoch_of}
use Rattle.ipc_disk.specs.Calls.{OnlyReads}
use Rattle.ipc_disk.specs.Medium.{Image, Medium}
use Rattle.ipc_disk.proofs.CallerLemmas.{OnlyReads-ok}
use Rattle.ipc_engine.specs.Engine.{Machine}
use Rattle.ipc_image.specs.declared.format.Format.{Format}
use Rattle.ipc_image.specs.Format.{device_form, format}
use Rattle.ipc_image.specs.Superblock.{AreOf}
use Rattle.ipc_image.proofs.CallerLemmas.{of-format}
use Rattle.ipc_journal.proofs.CallerLemmas.{JournalMatches-headed}
use Rattle.ipc_journal.specs.declared.journal.Journal.{Journal}
use Rattle.ipc_journal.specs.declared.form.Form.TheVariants.{Headed}
use Rattle.ipc_journal.specs.View.{form_of}
use Rattle.ipc_store.specs.Image.{epoch_at_in, journal_form, StandsFor, StandsForIn}
use Rattle.ipc_store.specs.Relations.Loading.{IsLoaded}
use Rattle.ipc_store.specs.Relations.Matches.{MachineMatches}
use Rattle.ipc_store.proofs.Clearing.{each-batches, loaded-epoch, loaded-stands}
use Rattle.ipc_store.proofs.Devices.{IsPlace, device-form}
use Rattle.ipc_store.proofs.Faults.{ok-device}
use Rattle.ipc_store.proofs.Openings.{begins}
use Rattle.ipc_store.proofs.larger.restarted.Goals as goal

-- what was loaded of a journal with a header matches, whatever stands after its batches
loaded-matches : (medium : Medium) (machine : Machine) (checkpoint : CheckpointView) (journal : Journal) → form_of journal ≡ Headed
    → IsLoaded medium machine checkpoint journal → MachineMatches medium machine checkpoint journal
loaded-matches medium machine checkpoint journal headed at = record {
  device = record {
    honest = at.honest;
    form = at.form;
    range = at.range;
    epoch = at.epoch;
    device = λ image now. subst (λ (i : Image). IsPlace machine.limits checkpoint i) (sym (at.durable image now)) (at.device, at.lies);
    from = at.from;
    objects = at.objects;
    stand = at.stand;
    saved = at.saved;
    batches = at.batches;
    appended = JournalMatches-headed journal _ medium headed at.after.0 at.after.1 at.honest (each-batches medium machine checkpoint journal at);
    leads = at.leads;
  };
  tracked = at.tracked;
}

-- the journal has a header
headed : (own : Limits) (medium : Medium) (machine : Machine) (checkpoint : CheckpointView) (journal : Journal) → AreOf format own → machine.limits ≡ own
    → IsLoaded medium machine checkpoint journal → form_of journal ≡ Headed
headed own medium machine checkpoint journal of limits at =
    at.form ∙ ap (λ (l : Limits). journal_form (device_form l)) limits ∙ ap journal_form (of-format own of)

-- the image stands for the state of the machine, and has its epoch
module _ (own : Limits) (medium : Medium) (machine : Machine) (checkpoint : CheckpointView) (journal : Journal) (of : AreOf format own)
    (limits : machine.limits ≡ own) (at : IsLoaded medium machine checkpoint journal) where
  stood : StandsForIn format own machine.state medium.contents
  stood =
      subst (λ (f : Format). StandsForIn f own machine.state medium.contents) (of-format own of)
      (subst (λ (l : Limits). StandsFor l machine.state medium.contents) limits (loaded-stands medium machine checkpoint journal at))

  its-epoch : epoch_of checkpoint ≡ epoch_at_in format medium.contents
  its-epoch =
      sym (loaded-epoch medium machine checkpoint journal at)
      ∙ ap (λ (f : Format). epoch_at_in f medium.contents)
      (sym (device-form machine.limits medium.contents at.device) ∙ ap device_form limits ∙ of-format own of)

pub new-store-requires-clause-matches : goal.new-store-requires-clause-matches
new-store-requires-clause-matches g c = λ now.
    let honest = c.read_whole.ensures.reads.same.honest.1 now in
    let at = c.in-Ok.ensures.loaded honest (c.requires.durable honest) (c.requires.named honest) in
    loaded-matches _ _ _ _ (headed c.args.superblock.limits _ _ _ _ c.requires.of c.in-Ok.ensures.limits at) at

pub returns-clause-ok : goal.returns-clause-ok
returns-clause-ok g c = λ honest.
    let own : Limits = c.args.superblock.limits in
    let mid : Medium = g.D.SectorDisk.medium c.read_whole.new.disk in
    let same = (c.read_whole.ensures.reads.stays honest).contents honest in
    let checkpoint = c.in-Ok.found.0 in
    let journal = c.in-Ok.found.1 in
    let machine = c.in-Ok.found.2 in
    let at : IsLoaded mid machine checkpoint journal = c.in-Ok.ensures.loaded honest (c.requires.durable honest) (c.requires.named honest) in
    let limits = c.in-Ok.ensures.limits in
    let matches = loaded-matches mid machine checkpoint journal (headed own mid machine checkpoint journal c.requires.of limits at) at in
    record {
      state = machine.state;
      stood = subst (StandsForIn format own machine.state) same (stood own mid machine checkpoint journal c.requires.of limits at);
      matches = c.take_restart.ensures.matches machine.state
          (begins g.D.SectorDisk.medium c.read_whole.new.disk checkpoint journal machine matches c.new-store.result c.new-store.ensures);
      epoch = ap epoch_of (c.take_restart.ensures.checkpoint ∙ ap (λ v. v.checkpoint) c.new-store.ensures)
          ∙ its-epoch own mid machine checkpoint journal c.requires.of limits at ∙ ap (epoch_at_in format) same;
    }

pub returns-clause-reads : goal.returns-clause-reads
returns-clause-reads g c =
    subst (λ d. OnlyReads g.D.SectorDisk.size g.D.SectorDisk.medium g.D.SectorDisk.counts ⊥ c.args.disk d)
    (sym (c.take_restart.ensures.disk ∙ ap (λ v. v.disk) c.new-store.ensures))
    (OnlyReads-ok (ok-device _) c.in-Ok.ensures.reads)
