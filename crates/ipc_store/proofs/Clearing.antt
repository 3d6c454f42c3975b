-- What was read of a device, and what stands after its batches is cleared: it stands for the same state all the while.
use Rattle.std.proofs.Common.{◌≡◌, inl, ℕ, sym, ap, subst, ◌∙◌, arith}
use Rattle.std.specs.Prelude.{map}
use Rattle.ipc_checkpoint.specs.Meanwhile.{EachLater}
use Rattle.ipc_checkpoint.specs.declared.layout.Layout.{Layout}
use Rattle.ipc_checkpoint.specs.Checkpoint.{IsOwn, epoch_in, Holds as HoldsObjects}
use Rattle.ipc_checkpoint.specs.View.{CheckpointView, epoch_of as saved_epoch, layout_of as saved_layout}
use Rattle.ipc_checkpoint.proofs.CallerLemmas.{Holds-since, CheckpointMatches-holds, CheckpointMatches-alone}
use Rattle.ipc_disk.specs.declared.range.Range.{Range}
use Rattle.ipc_disk.specs.Medium.{Image, Medium}
use Rattle.ipc_disk.specs.Range.{IsOutside}
use Rattle.ipc_disk.specs.Since.{EachImageSince, LeavesAlone}
use Rattle.ipc_disk.specs.Standing.{sector_at}
use Rattle.ipc_disk.proofs.CallerLemmas.{EachImageSince-both, EachImageSince-now, EachImageSince-weaken}
use Rattle.ipc_journal.specs.declared.journal.Journal.{Journal}
use Rattle.ipc_journal.specs.Journal.{Holds}
use Rattle.ipc_journal.specs.Matches.{JournalMatches}
use Rattle.ipc_journal.specs.View.{form_of, range_of, epoch_of}
use Rattle.ipc_engine.specs.Engine.{Machine}
use Rattle.ipc_image.specs.declared.format.Format.{Format}
use Rattle.ipc_image.specs.Format.{device_form}
use Rattle.ipc_store.specs.Batch.{batch_bytes}
use Rattle.ipc_store.specs.Image.{epoch_at, named_sectors, StandsFor}
use Rattle.ipc_store.specs.Meanwhile.{GoesOn}
use Rattle.ipc_store.specs.Relations.Loading.{IsLoaded}
use Rattle.ipc_store.specs.Relations.Matches.{MachineMatches}
use Rattle.ipc_store.proofs.Devices.{IsPlace, IsPlace-since, device-form, has-batches, of-batches, own-outside, stands-with}
use Rattle.ipc_store.proofs.Meanwhile.{kept-batches}

module _ (old : Medium) (machine : Machine) (checkpoint : CheckpointView) (journal : Journal) (at : IsLoaded old machine checkpoint journal) where
  -- the batches, as the value of the journal has them
  pub its-batches : Holds (form_of journal) (range_of journal) (epoch_of journal) (map batch_bytes at.batches) old.contents
  its-batches = of-batches (device_form machine.limits) journal (saved_epoch checkpoint) at.batches old.contents at.form at.range at.epoch at.journal_is

  pub each-batches : (image : Image) → old.images_now image
      → Holds (form_of journal) (range_of journal) (epoch_of journal) (map batch_bytes at.batches) image
  each-batches image now =
      subst (Holds (form_of journal) (range_of journal) (epoch_of journal) (map batch_bytes at.batches)) (sym (at.durable image now)) its-batches

  -- it stands for the state of the machine
  pub loaded-stands : StandsFor machine.limits machine.state old.contents
  loaded-stands =
      stands-with machine.limits (saved_layout checkpoint) (saved_epoch checkpoint) old.contents at.device at.lies at.objects
      (CheckpointMatches-holds checkpoint at.objects old at.saved old.contents at.honest.reads) at.from at.stand at.batches at.journal_is
      machine.state at.leads

  -- where the checkpoint lies
  here : (image : Image) → old.images_now image → IsPlace machine.limits checkpoint image
  here image now = subst (IsPlace machine.limits checkpoint) (sym (at.durable image now)) (at.device, at.lies)

  objects-outside : (i : ℕ) → IsOwn (saved_layout checkpoint) i → IsOutside (range_of journal) i
  objects-outside i own =
      subst (λ (r : Range). IsOutside r i) (sym at.range)
      (own-outside machine.limits (named_sectors old.contents) i (subst (λ (l : Layout). IsOwn l i) at.lies own))

  first-outside : IsOutside (range_of journal) 0
  first-outside = subst (λ (r : Range). IsOutside r 0) (sym at.range) (inl (omega arith))

  epochs : (image : Image) → old.images_now image → epoch_of journal ≡ epoch_at image
  epochs image now =
      at.epoch
      ∙ sym (ap (λ (f : Format). epoch_in (sector_at image f.root)) (sym (device-form machine.limits image (here image now).0))
      ∙ ap (λ (l : Layout). epoch_in (sector_at image l.root)) (sym (here image now).1)
      ∙ (CheckpointMatches-holds checkpoint at.objects old at.saved image now).there.current)

  -- its epoch is that of the objects
  pub loaded-epoch : epoch_at old.contents ≡ saved_epoch checkpoint
  loaded-epoch = sym (epochs old.contents at.honest.reads) ∙ at.epoch

  module _ (new : Medium) (alone : LeavesAlone (IsOutside (range_of journal)) old new) where
    places : EachImageSince old new (IsPlace machine.limits checkpoint)
    places = IsPlace-since (IsOutside (range_of journal)) machine.limits checkpoint old new first-outside alone here

    -- nothing stands after the batches
    pub cleared : JournalMatches journal (map batch_bytes at.batches) new → MachineMatches new machine checkpoint journal
    cleared appended = record {
      device = record {
        honest = alone.honest;
        form = at.form;
        range = at.range;
        epoch = at.epoch;
        device = EachImageSince-now old new (IsPlace machine.limits checkpoint) places alone.honest;
        from = at.from;
        objects = at.objects;
        stand = at.stand;
        saved = CheckpointMatches-alone checkpoint at.objects (IsOutside (range_of journal)) old new objects-outside alone at.saved;
        batches = at.batches;
        appended = appended;
        leads = at.leads;
      };
      tracked = at.tracked;
    }

    module _ (run : EachImageSince old new (Holds (form_of journal) (range_of journal) (epoch_of journal) (map batch_bytes at.batches))) where
      -- at any moment it stands for the state of the machine
      pub clearing-stands : EachImageSince old new (StandsFor machine.limits machine.state)
      clearing-stands =
          let There : Image → Type 0 = HoldsObjects (saved_layout checkpoint) (saved_epoch checkpoint) at.objects in
          let Batches : Image → Type 0 = Holds (form_of journal) (range_of journal) (epoch_of journal) (map batch_bytes at.batches) in
          let Place : Image → Type 0 = IsPlace machine.limits checkpoint in
          let there : EachImageSince old new There =
          Holds-since (saved_layout checkpoint) (IsOutside (range_of journal)) (saved_epoch checkpoint) at.objects old new objects-outside alone
          (CheckpointMatches-holds checkpoint at.objects old at.saved) in
          EachImageSince-weaken old new (λ image. (Place image × There image) × Batches image) (StandsFor machine.limits machine.state)
          (EachImageSince-both old new (λ image. Place image × There image) Batches (EachImageSince-both old new Place There places there) run)
          (λ image all.
          stands-with machine.limits (saved_layout checkpoint) (saved_epoch checkpoint) image all.0.0.0 all.0.0.1 at.objects all.0.1 at.from at.stand at.batches
          (has-batches (device_form machine.limits) journal (saved_epoch checkpoint) at.batches image at.form at.range at.epoch all.1)
          machine.state at.leads)

      -- and goes on, for who reads it
      pub clearing-goes-on : EachLater GoesOn old new
      clearing-goes-on =
          kept-batches old new machine.limits checkpoint journal (map batch_bytes at.batches) here at.form at.range epochs
          alone each-batches run
