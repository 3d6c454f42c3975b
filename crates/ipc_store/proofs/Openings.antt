-- What an open leaves at each moment, and the store that it gives.
use Rattle.std.proofs.Common.{◌≡◌, ◌⊎◌, inl, inr, ⊎_elim, ℕ, ◌+◌, List, [], true, false, length, map, refl, sym, ap, subst, ◌∙◌, arith}
use Rattle.std.proofs.lemmas.Bool.{cases_lt}
use Rattle.std.proofs.lemmas.List.Elements.{All-nil}
use Rattle.ipc_limits.specs.declared.limits.Limits.{Limits}
use Rattle.ipc_disk.specs.Medium.{Image, Medium, IsHonest, Stays}
use Rattle.ipc_disk.specs.Since.{EachImageSince, LeavesAlone}
use Rattle.ipc_disk.specs.Range.{IsOutside}
use Rattle.ipc_disk.proofs.CallerLemmas.{EachImageSince-weaken, EachImageSince-join}
use Rattle.ipc_checkpoint.specs.Meanwhile.{EachLater}
use Rattle.ipc_heap.proofs.CallerLemmas.{EachLater-join}
use Rattle.ipc_checkpoint.specs.View.{CheckpointView}
use Rattle.ipc_disk.specs.declared.range.Range.{Range}
use Rattle.ipc_journal.specs.declared.journal.Journal.{Journal}
use Rattle.ipc_journal.specs.Journal.{head, sectors_in, sectors_of, Holds}
use Rattle.ipc_journal.specs.declared.form.Form.{Form}
use Rattle.ipc_journal.specs.declared.form.Form.TheVariants.{Headed, Tagged}
use Rattle.ipc_journal.specs.View.{form_of, range_of, epoch_of, used_of, Fits}
use Rattle.ipc_state.specs.State.{State, restart}
use Rattle.ipc_engine.specs.Engine.{Machine}
use Rattle.ipc_engine.specs.Event.{Restart}
use Rattle.ipc_image.specs.Records.{record_bytes, HasRecord}
use Rattle.ipc_store.specs.declared.fault.OpenError.{OpenError}
use Rattle.ipc_store.specs.declared.fault.OpenError.TheVariants as errors
use Rattle.ipc_store.proofs.Opened.{device-begins}
use Rattle.ipc_image.specs.declared.format.Format.{Format}
use Rattle.ipc_image.specs.Format.{device_form}
use Rattle.ipc_image.specs.Superblock.{is_of}
use Rattle.ipc_disk.specs.Standing.{sector_at}
use Rattle.ipc_image.proofs.CallerLemmas.{form-known}
use Rattle.ipc_store.proofs.CallerLemmas.{stands-form, stands-none}
use Rattle.ipc_store.proofs.Clearing.{clearing-goes-on, clearing-stands, loaded-stands}
use Rattle.ipc_store.specs.Batch.{batch_bytes}
use Rattle.ipc_store.specs.Image.{form_at, journal_form, journal_range, last_epoch, epoch_at, HasBatches, IsAtEnd, StandsFor}
use Rattle.ipc_store.specs.Meanwhile.{GoesOn}
use Rattle.ipc_store.specs.Refusals.{IsRefusal}
use Rattle.ipc_store.specs.View.{StoreView, IsAtLastEpoch, store_view}
use Rattle.ipc_store.specs.Relations.Loading.{IsLoaded}
use Rattle.ipc_store.specs.Relations.Matches.{MachineMatches, StoreMatches, StandsForEither, OpensTo}
use Rattle.ipc_store.proofs.Batches.{record-length}
use Rattle.ipc_store.proofs.Committing.{stands_now, root-epoch}
use Rattle.ipc_store.proofs.Devices.{batches-now}
use Rattle.ipc_store.proofs.Meanwhile.{goes-on-then, same-refl}

-- calls that only read leave what was there before
pub only_read : (old new : Medium) → Stays old new
    → ((image : Image) → old.images_since old.moment image → old.images_now image) → EachImageSince old new (OpensTo old)
only_read old new call law = record {
  later = call.time.later;
  each = λ image left. inl (⊎_elim (law image) (call.images image) (call.time.nothing_else old.moment image (omega arith) left));
  earlier = λ t image le left. ⊎_elim inl (λ now. inr (inl (call.images image now))) (call.time.nothing_else t image le left);
}

-- and who reads meanwhile finds what was there
pub read-later : (old new : Medium) → Stays old new → ((image : Image) → old.images_since old.moment image → old.images_now image)
    → EachLater GoesOn old new
read-later old new call law = record {
  later = call.time.later;
  each = λ image left.
      let now = ⊎_elim (law image) (call.images image) (call.time.nothing_else old.moment image (omega arith) left) in
      (image, now, inl (same-refl image));
  earlier = λ t image le left. ⊎_elim inl (λ now. inr (image, call.images image now, inl (same-refl image)))
      (call.time.nothing_else t image le left);
}

-- the store over what was loaded
abbrev store_over : {D : Type 0} → D → CheckpointView → Journal → Machine → StoreView D
store_over disk checkpoint journal machine = store_view disk machine checkpoint journal (record { records = []; count = 0 }) 0 false

-- it matches
pub new-matches : {D : Type 0} (medium : Medium) (disk : D) (checkpoint : CheckpointView) (journal : Journal) (machine : Machine)
    → MachineMatches medium machine checkpoint journal → StoreMatches medium (store_over disk checkpoint journal machine) machine.state []
new-matches medium disk checkpoint journal machine matches = record {
  running = refl;
  device = matches.device;
  waits = record { records = refl; count = refl; each = All-nil HasRecord; named = tt; state = refl };
  tracked = matches.tracked;
}

module _ {D : Type 0} (m : D → Medium) (disk : D) (checkpoint : CheckpointView) (journal : Journal) (machine : Machine)
    (matches : MachineMatches (m disk) machine checkpoint journal)
    (store : StoreView D) (over : store ≡ store_over disk checkpoint journal machine) where
  -- it goes on from the state of the machine
  pub begins : StoreMatches (m store.disk) store machine.state []
  begins =
      subst (λ v. StoreMatches (m v.disk) v machine.state []) (sym over) (new-matches (m disk) disk checkpoint journal machine matches)

-- what was read, and then what stands after the batches is cleared
module _ (old mid new : Medium) (machine : Machine) (checkpoint : CheckpointView) (journal : Journal) (honest : IsHonest old) (reads : Stays old mid)
    (law : (image : Image) → old.images_since old.moment image → old.images_now image)
    (loaded : IsLoaded mid machine checkpoint journal)
    (alone : LeavesAlone (IsOutside (range_of journal)) mid new)
    (run : EachImageSince mid new (Holds (form_of journal) (range_of journal) (epoch_of journal) (map batch_bytes loaded.batches))) where
  -- each image stands for the state of the machine
  stand : EachImageSince mid new (StandsFor machine.limits machine.state)
  stand = clearing-stands mid machine checkpoint journal loaded new alone run

  -- so did what was read
  pub stood : StandsFor machine.limits machine.state old.contents
  stood = subst (StandsFor machine.limits machine.state) (reads.contents honest) (loaded-stands mid machine checkpoint journal loaded)

  pub clear-leaves : EachImageSince old new (OpensTo old)
  clear-leaves =
      EachImageSince-join old mid new (OpensTo old) (only_read old mid reads law)
      (EachImageSince-weaken mid new (StandsFor machine.limits machine.state) (OpensTo old) stand
      (λ image is. inr (machine.limits, machine.state, stood, inl is)))

  pub clear-later : EachLater GoesOn old new
  clear-later =
      EachLater-join GoesOn GoesOn old mid new (λ a b is. is) goes-on-then loaded.honest (read-later old mid reads law)
      (clearing-goes-on mid machine checkpoint journal loaded new alone run)

  -- the calls of the restart leave that state, or the state after the restart
  pub restart_leaves : (last : Medium) → EachImageSince new last (StandsForEither machine.limits machine.state (restart machine.limits machine.state))
      → EachImageSince old last (OpensTo old)
  restart_leaves last restarted =
      EachImageSince-join old new last (OpensTo old) clear-leaves
      (EachImageSince-weaken new last (StandsForEither machine.limits machine.state (restart machine.limits machine.state)) (OpensTo old) restarted
      (λ image either. inr (machine.limits, machine.state, stood, either)))

  -- and go on from what was there
  pub restart-later : (last : Medium) → EachLater GoesOn new last → EachLater GoesOn old last
  restart-later last restarted = EachLater-join GoesOn GoesOn old new last (λ a b is. is) goes-on-then alone.honest clear-later restarted

-- an event that is taken makes no call on the disk
pub taken : {D : Type 0} (m : D → Medium) (before after : StoreView D) (new : Medium) (base : State)
    → after.disk ≡ before.disk → after.machine.limits ≡ before.machine.limits
    → EachImageSince (m after.disk) new (StandsForEither after.machine.limits base (restart after.machine.limits base))
    → EachImageSince (m before.disk) new (StandsForEither before.machine.limits base (restart before.machine.limits base))
taken m before after new base disk limits moments =
    subst (λ (l : Limits). EachImageSince (m before.disk) new (StandsForEither l base (restart l base))) limits
    (subst (λ d. EachImageSince (m d) new (StandsForEither after.machine.limits base (restart after.machine.limits base))) disk moments)

-- a restart takes one sector
restart-sectors : (form : Form) → sectors_in form 17 ≡ 1
restart-sectors Headed = omega arith
restart-sectors Tagged = omega arith

-- a journal in which a restart does not fit has no sector left
pub full_journal : (journal : Journal) (records : List ℕ) → records ≡ record_bytes Restart → ¬ Fits journal (4 + length records)
    → head (form_of journal) + used_of journal ≡ (range_of journal).count
full_journal journal records are full =
    let size : length records ≡ 13 = ap (λ (x : List ℕ). length x) are ∙ record-length Restart in
    let one : sectors_in (form_of journal) (4 + length records) ≡ 1 =
    ap (sectors_in (form_of journal)) (omega (arith, size)) ∙ restart-sectors (form_of journal) in
    ⊎_elim (λ lt. absurd (full (omega (arith, one, lt)))) (λ ge. omega (arith, ge, journal.room))
    (cases_lt (head (form_of journal) + used_of journal) (range_of journal).count)

-- the image is at the end of its epochs, if the store over it is and its journal has no room for a restart
pub at_end : {D : Type 0} (medium : Medium) (store : StoreView D) (base : State) (image : Image) → StoreMatches medium store base []
    → medium.contents ≡ image → IsAtLastEpoch store → head (form_of store.journal) + used_of store.journal ≡ (range_of store.journal).count
    → IsAtEnd image
at_end medium store base image matches same last full =
    let at = matches.device in
    let d = device_form store.machine.limits in
    let holds : HasBatches d last_epoch at.batches medium.contents =
    subst (λ (n : ℕ). HasBatches d n at.batches medium.contents) last
    (batches-now medium store.machine.limits store.checkpoint store.journal base at medium.contents at.honest.reads) in
    record {
      limits = store.machine.limits;
      state = base;
      stands = subst (StandsFor store.machine.limits base) same
          (stands_now medium store base [] matches medium.contents at.honest.reads);
      epoch = subst (λ (i : Image). epoch_at i ≡ last_epoch) same
          (root-epoch medium store base [] matches ∙ last);
      full = record {
        batches = map batch_bytes at.batches;
        holds = subst (HasBatches d last_epoch at.batches) same holds;
        full = count d (form_of store.journal) (used_of store.journal) (range_of store.journal) (map batch_bytes at.batches) at.form at.range
            at.appended.used full;
      };
    }
  where
    count : (d : Format) (form : Form) (used : ℕ) (range : Range) (batches : List (List ℕ)) → form ≡ journal_form d → range ≡ journal_range d
        → used ≡ sectors_of form batches → head form + used ≡ range.count
        → head (journal_form d) + sectors_of (journal_form d) batches ≡ (journal_range d).count
    count d form used range batches is range-is used-is all =
        subst (λ (f : Form). head f + sectors_of f batches ≡ (journal_range d).count) is
        (ap (λ (n : ℕ). head form + n) (sym used-is) ∙ all ∙ ap (λ (r : Range). r.count) range-is)

-- a disk that stands for a state has no fault of its own
pub refused_by : (image : Image) (limits : Limits) (s : State) (error : OpenError) → StandsFor limits s image → IsRefusal (form_at image) image error
    → (error ≡ errors.Device) ⊎ (error ≡ errors.NoMemory) ⊎ IsAtEnd image
refused_by image limits s errors.Device stands is = inl refl
refused_by image limits s errors.NotFormatted stands is =
    absurd ((device-begins (device_form limits) (form-known limits) limits image stands.kept.device).0 is)
refused_by image limits s (errors.Version found) stands is =
    let begins = device-begins (device_form limits) (form-known limits) limits image stands.kept.device in
    let bad : true ≡ false = sym begins.2 ∙ ap (λ (f : Format). is_of f (sector_at image 0)) (stands-form limits s image stands) ∙ is.other in
    cc
refused_by image limits s (errors.Damaged sector) stands is = absurd (stands-none image limits s stands is.0.stands_for_none)
refused_by image limits s errors.NoMemory stands is = inr (inl refl)
