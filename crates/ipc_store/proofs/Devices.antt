-- What a device stands for, as the values of a store know it, and what calls leave alone that touch the journal or the
-- objects.
use Rattle.std.proofs.Common.{◌≡◌, inl, inr, ℕ, ◌+◌, ◌<◌, List, sym, subst, ◌∙◌, ap, arith}
use Rattle.std.specs.Prelude.{map, Bool, true, false, if◌then◌else◌}
use Rattle.ipc_limits.specs.declared.limits.Limits.{Limits}
use Rattle.ipc_base.specs.Objects.{PlainObjects, Fit}
use Rattle.ipc_checkpoint.specs.declared.layout.Layout.{Layout}
use Rattle.ipc_checkpoint.specs.Checkpoint.{IsLaidOut, IsOwn, IsElsewhere, Holds as HoldsObjects}
use Rattle.ipc_checkpoint.specs.Matches.{sectors_of as image_sectors}
use Rattle.ipc_checkpoint.specs.View.{CheckpointView, HasSpare, epoch_of as saved_epoch, free_of, layout_of as saved_layout}
use Rattle.ipc_checkpoint.proofs.CallerLemmas.{CheckpointMatches-holds}
use Rattle.ipc_disk.specs.declared.range.Range.{Range}
use Rattle.ipc_disk.specs.Medium.{Image, Medium}
use Rattle.ipc_disk.specs.Range.{IsInside, IsOutside, IsWithin}
use Rattle.ipc_disk.specs.Since.{EachImageSince, SameAt, LeavesAlone}
use Rattle.ipc_disk.specs.Standing.{sector_at}
use Rattle.ipc_disk.proofs.CallerLemmas.{sector_at-same, LeavesAlone-keeps}
use Rattle.ipc_journal.specs.declared.journal.Journal.{Journal}
use Rattle.ipc_journal.specs.declared.form.Form.{Form}
use Rattle.ipc_journal.specs.declared.form.Form.TheVariants.{Headed, Tagged}
use Rattle.ipc_journal.specs.Journal.{Holds, IsRangeFor}
use Rattle.ipc_journal.specs.View.{form_of, range_of, epoch_of}
use Rattle.ipc_journal.proofs.CallerLemmas.{Holds-same}
use Rattle.ipc_state.specs.State.{State}
use Rattle.ipc_engine.specs.Event.{PlainEvent}
use Rattle.ipc_image.specs.Saved.{StandForStateIn}
use Rattle.ipc_image.specs.declared.format.Format.{Format}
use Rattle.ipc_image.specs.Format.{device_form, IsFormat}
use Rattle.ipc_image.specs.Superblock.{sectors_in, IsSuperblockIn}
use Rattle.ipc_image.proofs.CallerLemmas.{IsPlaced, form-known, form-placed, named-known, names-form}
use Rattle.ipc_store.specs.Batch.{batch_bytes}
use Rattle.ipc_store.specs.Image.{form_at, journal_form, journal_range, layout_of, named_sectors, HasBatches, IsDevice, IsDeviceIn, LeadTo, StandsFor}
use Rattle.ipc_store.specs.Relations.Matches.{AreOnDisk, DeviceMatches}

-- a device is one by its first sector, if the disk has the sectors that it names
pub IsDeviceIn-same : (form : Format) (places : ℕ → Type 0) (limits : Limits) (a b : Image) → places 0 → SameAt places a b → IsDeviceIn form limits a
    → IsDeviceIn form limits b
IsDeviceIn-same form places limits a b first same device =
    let sector : sector_at a 0 ≡ sector_at b 0 = sector_at-same places a b 0 same first in
    record {
      superblock = subst (λ (s : List ℕ). IsSuperblockIn form (sectors_in s) limits s) sector device.superblock;
      whole = omega (arith, device.whole, same.count, ap sectors_in sector);
    }

-- the batches that a journal value has are those of the device
pub has-batches : (d : Format) (journal : Journal) (epoch : ℕ) (batches : List (List PlainEvent)) (image : Image) → form_of journal ≡ journal_form d
    → range_of journal ≡ journal_range d → epoch_of journal ≡ epoch
    → Holds (form_of journal) (range_of journal) (epoch_of journal) (map batch_bytes batches) image → HasBatches d epoch batches image
has-batches d journal epoch batches image form range is holds =
    subst (λ (n : ℕ). Holds (journal_form d) (journal_range d) n (map batch_bytes batches) image) is
    (subst (λ (r : Range). Holds (journal_form d) r (epoch_of journal) (map batch_bytes batches) image) range
    (subst (λ (f : Form). Holds f (range_of journal) (epoch_of journal) (map batch_bytes batches) image) form holds))

-- and back
pub of-batches : (d : Format) (journal : Journal) (epoch : ℕ) (batches : List (List PlainEvent)) (image : Image) → form_of journal ≡ journal_form d
    → range_of journal ≡ journal_range d → epoch_of journal ≡ epoch → HasBatches d epoch batches image
    → Holds (form_of journal) (range_of journal) (epoch_of journal) (map batch_bytes batches) image
of-batches d journal epoch batches image form range is holds =
    subst (λ (f : Form). Holds f (range_of journal) (epoch_of journal) (map batch_bytes batches) image) (sym form)
    (subst (λ (r : Range). Holds (journal_form d) r (epoch_of journal) (map batch_bytes batches) image) (sym range)
    (subst (λ (n : ℕ). Holds (journal_form d) (journal_range d) n (map batch_bytes batches) image) (sym is) holds))

-- they stand in the journal's sectors
pub journal-same : (d : Format) → 0 < d.journal → (places : ℕ → Type 0) (epoch : ℕ) (batches : List (List PlainEvent)) (a b : Image)
    → ((i : ℕ) → IsInside (journal_range d) i → places i) → SameAt places a b → HasBatches d epoch batches a → HasBatches d epoch batches b
journal-same d some places epoch batches a b inside same holds =
    Holds-same (journal_form d) (journal_range d) epoch (map batch_bytes batches) a b some
    (λ j here. sector_at-same places a b j same (inside j here)) holds

-- the image is of a device with these limits, where the checkpoint lies
abbrev pub IsPlace : Limits → CheckpointView → Image → Type 0
IsPlace limits checkpoint image = IsDevice limits image × (saved_layout checkpoint ≡ layout_of limits (named_sectors image))

-- calls that leave the first sector alone leave it one
pub IsPlace-since : (places : ℕ → Type 0) (limits : Limits) (checkpoint : CheckpointView) (old new : Medium) → places 0
    → LeavesAlone places old new → ((image : Image) → old.images_now image → IsPlace limits checkpoint image)
    → EachImageSince old new (IsPlace limits checkpoint)
IsPlace-since places limits checkpoint old new first alone here =
    LeavesAlone-keeps places old new (IsPlace limits checkpoint) alone here
    (λ a b same is. (
      IsDeviceIn-same (device_form limits) places limits a b first same is.0,
      is.1 ∙ ap (λ (s : List ℕ). layout_of limits (sectors_in s)) (sector_at-same places a b 0 same first),
    ))

-- what is used of the places of a device that is opened
pub placed : (limits : Limits) → IsPlaced (device_form limits)
placed limits = form-placed (device_form limits) (form-known limits)

-- a journal can have the sectors that a form gives it
pub range-for : (form : Format) → IsFormat form → IsRangeFor (journal_form form) (journal_range form)
range-for form known = by-tags form.tags
  where
    by-tags : (tags : Bool) → IsRangeFor (if tags then Tagged else Headed) (journal_range form)
    by-tags true = (omega (arith, (form-placed form known).some), omega (arith, (form-placed form known).few))
    by-tags false = (omega (arith, (form-placed form known).some), omega (arith, (form-placed form known).few))

pub placed-at : (image : Image) → IsPlaced (form_at image)
placed-at image = form-placed (form_at image) (named-known (sector_at image 0))

-- the image names the form of its limits
pub device-form : (limits : Limits) (image : Image) → IsDevice limits image → device_form limits ≡ form_at image
device-form limits image is = names-form (named_sectors image) limits (sector_at image 0) is.superblock

-- objects lie outside the journal
pub own-outside : (limits : Limits) (sectors i : ℕ) → IsOwn (layout_of limits sectors) i → IsOutside (journal_range (device_form limits)) i
own-outside limits sectors i (inl root) = inl (omega (arith, root, (placed limits).root.1))
own-outside limits sectors i (inr inside) = inr (omega (arith, inside.0))

-- the journal lies elsewhere, and so does the first sector
pub journal-elsewhere : (limits : Limits) (sectors i : ℕ) → IsInside (journal_range (device_form limits)) i → IsElsewhere (layout_of limits sectors) i
journal-elsewhere limits sectors i inside =
    (λ root. absurd (omega (arith, root, inside.0, (placed limits).root.1)), inl (omega (arith, inside.1)))

-- objects and batches that are there at one epoch make a state
pub stands-with : (limits : Limits) (layout : Layout) (epoch : ℕ) (image : Image) → IsDevice limits image
    → layout ≡ layout_of limits (named_sectors image)
    → (objects : PlainObjects) → HoldsObjects layout epoch objects image → (base : State) → StandForStateIn (device_form limits) limits base objects
    → (batches : List (List PlainEvent)) → HasBatches (device_form limits) epoch batches image → (s : State) → LeadTo limits base batches s
    → StandsFor limits s image
stands-with limits layout epoch image device lies objects there base stand batches holds s leads = record {
  epoch = epoch;
  base = base;
  kept = record { device = device; objects = objects; there = subst (λ (l : Layout). HoldsObjects l epoch objects image) lies there; stand = stand };
  batches = batches;
  journal = holds;
  leads = leads;
}

module _ (medium : Medium) (limits : Limits) (checkpoint : CheckpointView) (journal : Journal) (base : State)
    (at : DeviceMatches medium limits checkpoint journal base) where
  -- each image now has the batches
  pub batches-now : (image : Image) → medium.images_now image → HasBatches (device_form limits) (saved_epoch checkpoint) at.batches image
  batches-now image now =
      has-batches (device_form limits) journal (saved_epoch checkpoint) at.batches image at.form at.range at.epoch
      (at.appended.kept.images image now)

  -- and stands for the base
  pub device-stands : (image : Image) → medium.images_now image → StandsFor limits base image
  device-stands image now =
      let is = at.device image now in
      stands-with limits (saved_layout checkpoint) (saved_epoch checkpoint) image is.0 is.1 at.objects
      (CheckpointMatches-holds checkpoint at.objects medium at.saved image now) at.from at.stand at.batches (batches-now image now) base at.leads

  -- where the checkpoint lies
  here : IsPlace limits checkpoint medium.contents
  here = at.device medium.contents at.honest.reads

  pub objects-outside : (i : ℕ) → IsOwn (saved_layout checkpoint) i → IsOutside (range_of journal) i
  objects-outside i own =
      subst (λ (r : Range). IsOutside r i) (sym at.range)
      (own-outside limits (named_sectors medium.contents) i (subst (λ (l : Layout). IsOwn l i) here.1 own))

  pub journal-outside : (i : ℕ) → IsInside (range_of journal) i → IsElsewhere (saved_layout checkpoint) i
  journal-outside i inside =
      subst (λ (l : Layout). IsElsewhere l i) (sym here.1)
      (journal-elsewhere limits (named_sectors medium.contents) i (subst (λ (r : Range). IsInside r i) at.range inside))

  pub journal-some : 0 < (range_of journal).count
  journal-some = subst (λ (r : Range). 0 < r.count) (sym at.range) (placed limits).some

  pub first-outside : IsOutside (range_of journal) 0
  first-outside = subst (λ (r : Range). IsOutside r 0) (sym at.range) (inl (omega arith))

  pub first-elsewhere : IsElsewhere (saved_layout checkpoint) 0
  first-elsewhere =
      subst (λ (l : Layout). IsElsewhere l 0) (sym here.1)
      (λ root. absurd (omega (arith, root, (placed limits).root.0)), inl (omega arith))

-- where a checkpoint and a journal lie that have changed their epoch alone
pub stays-on-disk : (limits : Limits) (old new : ℕ) (checkpoint next : CheckpointView) (journal more : Journal) → new ≡ old
    → saved_layout next ≡ saved_layout checkpoint → form_of more ≡ form_of journal → range_of more ≡ range_of journal
    → epoch_of more ≡ saved_epoch next
    → AreOnDisk old limits checkpoint journal → AreOnDisk new limits next more
stays-on-disk limits old new checkpoint next journal more size layout form range epoch on = record {
  of = on.of;
  objects = subst (λ (l : Layout). IsLaidOut l new) (sym layout) (subst (λ (n : ℕ). IsLaidOut (saved_layout checkpoint) n) (sym size) on.objects);
  room = ap (λ (l : Layout). l.area) layout ∙ on.room;
  form = form ∙ on.form;
  within = subst (λ (r : Range). IsWithin r new) (sym range) (subst (λ (n : ℕ). IsWithin (range_of journal) n) (sym size) on.within);
  epoch = epoch;
}

-- if its objects fit, all of a checkpoint's sectors are free but those of an area
pub has-spare : (layout : Layout) (checkpoint : CheckpointView) (objects : PlainObjects) → saved_layout checkpoint ≡ layout
    → Fit layout.area objects → free_of checkpoint + image_sectors objects ≡ layout.range.count → HasSpare checkpoint
has-spare layout checkpoint objects is fit free =
    omega (arith, fit, free, ap (λ (l : Layout). l.area) is, ap (λ (l : Layout). l.range.count) is)
