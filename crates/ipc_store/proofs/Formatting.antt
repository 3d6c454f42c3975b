-- What each call of a format makes of the images that a crash may leave.
use Rattle.std.specs.Prelude.{◌≡◌, ◌⊎◌, ◌<◌, ◌≤◌, ◌^◌, ℕ, List, [], length, take, replicate, slice_set, refl}
use Rattle.std.proofs.Common.{inl, inr, ⊎_elim, sym, ◌∙◌, ap, subst, arith}
use Rattle.std.proofs.lemmas.List.{get_or-set_same, length-set}
use Rattle.std.proofs.lemmas.List.Elements.{All-nil}
use Rattle.ipc_limits.specs.declared.limits.Limits.{Limits}
use Rattle.ipc_base.specs.Objects.{PlainObjects}
use Rattle.ipc_disk.specs.Medium.{Image, Medium}
use Rattle.ipc_disk.specs.Range.{IsOutside}
use Rattle.ipc_disk.specs.Since.{EachImageSince, SameAt, LeavesAlone}
use Rattle.ipc_disk.proofs.CallerLemmas.{EachImageSince-join, EachImageSince-weaken, EachImageSince-now}
use Rattle.ipc_disk.proofs.CallerLemmas.{SameAt-set, LeavesAlone-keeps, sector_at-same, sector_at-set_same}
use Rattle.ipc_disk.specs.Standing.{sector_at}
use Rattle.ipc_journal.specs.Journal.{Holds}
use Rattle.ipc_checkpoint.specs.declared.layout.Layout.{Layout}
use Rattle.ipc_checkpoint.specs.Checkpoint.{IsLaidOut, IsElsewhere, Holds as HoldsObjects}
use Rattle.ipc_checkpoint.proofs.CallerLemmas.{Holds-alone}
use Rattle.ipc_state.specs.State.{State}
use Rattle.ipc_image.specs.Saved.{StandForStateIn}
use Rattle.ipc_image.specs.declared.format.Format.{Format}
use Rattle.ipc_image.specs.Format.{device_form, IsFormat}
use Rattle.ipc_image.specs.Sizes.{need_in}
use Rattle.ipc_image.specs.Superblock.{AreOf, magic, IsFormatted, sectors_in, IsSuperblockIn}
use Rattle.ipc_image.proofs.CallerLemmas.{area-counted, form-known, form-placed, superblock-sectors}
use Rattle.ipc_store.specs.Image.{journal_form, journal_range, first_epoch, layout_in, layout_of, named_sectors, NamesAll, StandsFor, IsNotFormatted}
use Rattle.ipc_store.specs.Relations.Format.{EachNow, IsErased, IsPrepared}
use Rattle.ipc_store.proofs.Devices.{journal-elsewhere, journal-same, placed}

-- a sector of zeros
abbrev pub zeros : List ℕ
zeros = replicate 512 0

-- zeros are no superblock
pub erased-zeros : (image : Image) → 0 < length image → IsErased (slice_set image 0 zeros)
erased-zeros image has is =
    let begins : take 8 zeros ≡ magic = ap (λ (s : List ℕ). take 8 s) (sym (get_or-set_same image 0 zeros [] has)) ∙ is in
    cc

-- where the objects lie there is room for them, if the device is large enough
pub laid-out : (form : Format) → IsFormat form → (limits : Limits) (sectors size : ℕ) → AreOf form limits → need_in form limits ≤ sectors → sectors ≤ size
    → IsLaidOut (layout_in form limits sectors) size
laid-out form known limits sectors size of room there = record {
  within = omega (arith, room, there);
  root = omega (arith, room, there, (form-placed form known).root.1);
  apart = inl (omega (arith, (form-placed form known).root.1));
  not_first = omega (arith, (form-placed form known).root.0);
  room = omega (arith, room, there);
  counted = omega (arith, area-counted form known limits of);
}

-- the journal is made
pub journal-erased : (d : Format) (old mid : Medium) → EachNow old IsErased → LeavesAlone (IsOutside (journal_range d)) old mid
    → EachImageSince old mid IsErased
journal-erased d old mid erased alone =
    LeavesAlone-keeps (IsOutside (journal_range d)) old mid IsErased alone erased
    (λ a b same. subst (λ (s : List ℕ). ¬ IsFormatted s) (sector_at-same (IsOutside (journal_range d)) a b 0 same (inl (omega arith))))

-- and then the objects
pub stays-erased : (limits : Limits) (size : ℕ) (layout : Layout) (old mid new : Medium) → layout ≡ layout_of limits size → EachNow old IsErased
    → LeavesAlone (IsOutside (journal_range (device_form limits))) old mid → LeavesAlone (IsElsewhere layout) mid new
    → EachImageSince old new IsErased
stays-erased limits size layout old mid new there erased journal objects =
    let run = journal-erased (device_form limits) old mid erased journal in
    let elsewhere : IsElsewhere layout 0 = subst (λ (l : Layout). IsElsewhere l 0) (sym there)
    (λ is. absurd (omega (arith, is, (placed limits).root.0)), inl (omega arith)) in
    EachImageSince-join old mid new IsErased run
    (LeavesAlone-keeps (IsElsewhere layout) mid new IsErased objects (EachImageSince-now old mid IsErased run journal.honest)
    (λ a b same. subst (λ (s : List ℕ). ¬ IsFormatted s) (sector_at-same (IsElsewhere layout) a b 0 same elsewhere)))

-- then both are there
pub is-prepared : (limits : Limits) (s : State) (objects : PlainObjects) (mid new : Image)
    → Holds (journal_form (device_form limits)) (journal_range (device_form limits)) first_epoch [] mid
    → SameAt (IsElsewhere (layout_of limits (length new))) mid new
    → HoldsObjects (layout_of limits (length new)) first_epoch objects new → StandForStateIn (device_form limits) limits s objects → IsPrepared limits s new
is-prepared limits s objects mid new empty same there stand = record {
  epoch = first_epoch;
  objects = objects;
  there = there;
  stand = stand;
  journal = journal-same (device_form limits) (placed limits).some (IsElsewhere (layout_of limits (length new))) first_epoch [] mid new
      (journal-elsewhere limits (length new)) same empty;
}

-- a sector after the first
abbrev IsPast : ℕ → ℕ → Type 0
IsPast first i = first < i

-- a superblock that was written names all sectors
pub names-all : (limits : Limits) (bytes : List ℕ) (image : Image) → length image < 2 ^ 32 → IsSuperblockIn (device_form limits) (length image) limits bytes
    → NamesAll (slice_set image 0 bytes)
names-all limits bytes image fits is =
    ap sectors_in (sector_at-set_same image 0 bytes (omega (arith, is.room)))
    ∙ superblock-sectors (device_form limits) (form-known limits) (length image) limits bytes is fits ∙ sym (length-set image 0 bytes)

-- the superblock is written
pub becomes-device : (limits : Limits) (s : State) (bytes : List ℕ) (image : Image) → length image < 2 ^ 32
    → IsSuperblockIn (device_form limits) (length image) limits bytes → IsPrepared limits s image → StandsFor limits s (slice_set image 0 bytes)
becomes-device limits s bytes image fits is prepared =
    let new : Image = slice_set image 0 bytes in
    let here : sector_at new 0 ≡ bytes = sector_at-set_same image 0 bytes (omega (arith, is.room)) in
    let named : named_sectors new ≡ length image =
    ap sectors_in here ∙ superblock-sectors (device_form limits) (form-known limits) (length image) limits bytes is fits in
    let kept : SameAt (IsPast 0) image new = SameAt-set (IsPast 0) image 0 bytes (λ past. absurd (omega (arith, past))) in
    record {
      epoch = prepared.epoch;
      base = s;
      kept = record {
        device = record {
          superblock = subst (λ (n : ℕ). IsSuperblockIn (device_form limits) n limits (sector_at new 0)) (sym named)
              (subst (λ (s : List ℕ). IsSuperblockIn (device_form limits) (length image) limits s) (sym here) is);
          whole = omega (arith, named, length-set image 0 bytes);
        };
        objects = prepared.objects;
        there = subst (λ (n : ℕ). HoldsObjects (layout_of limits n) prepared.epoch prepared.objects new) (sym named)
            (Holds-alone (layout_of limits (length image)) (IsPast 0) prepared.epoch prepared.objects image new
            (λ i own. ⊎_elim (λ root. omega (arith, root, (placed limits).root.0)) (λ inside. omega (arith, inside.0)) own) kept prepared.there);
        stand = prepared.stand;
      };
      batches = [];
      journal = journal-same (device_form limits) (placed limits).some (IsPast 0) prepared.epoch [] image new
          (λ j inside. omega (arith, inside.0)) kept prepared.journal;
      leads = record { each = All-nil _; named = tt; state = refl };
    }

module _ (limits : Limits) (s : State) (old : Medium) where
  -- an image of then, or none of a device, or one of the new device
  abbrev OnTheWay : Image → Type 0
  OnTheWay image = old.images_now image ⊎ IsNotFormatted image ⊎ StandsFor limits s image

  -- the first call
  pub way-erase : (new : Medium) → EachImageSince old new (λ image. old.images_now image ⊎ IsErased image)
      → EachImageSince old new OnTheWay
  way-erase new run =
      EachImageSince-weaken old new (λ image. old.images_now image ⊎ IsErased image) OnTheWay run
      (λ image so. ⊎_elim (λ now. inl now) (λ erased. inr (inl (inr erased))) so)

  -- the second
  pub way-prepare : (mid new : Medium) → EachImageSince old mid OnTheWay → EachImageSince mid new IsErased
      → EachImageSince old new OnTheWay
  way-prepare mid new before run =
      EachImageSince-join old mid new OnTheWay before
      (EachImageSince-weaken mid new IsErased OnTheWay run (λ image erased. inr (inl (inr erased))))

  -- the third
  pub way-superblock : (mid new : Medium) → EachImageSince old mid OnTheWay → EachNow mid IsErased
      → EachImageSince mid new (λ image. mid.images_now image ⊎ StandsFor limits s image)
      → EachImageSince old new OnTheWay
  way-superblock mid new before erased run =
      EachImageSince-join old mid new OnTheWay before
      (EachImageSince-weaken mid new (λ image. mid.images_now image ⊎ StandsFor limits s image) OnTheWay run
      (λ image so. ⊎_elim (λ now. inr (inl (inr (erased image now)))) (λ stands. inr (inr stands)) so))
