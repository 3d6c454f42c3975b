-- What an upgrade leaves: the old objects under the old root and the new ones under the new, beside each other.
use Rattle.std.proofs.Common.{◌≡◌, inl, ℕ, ◌+◌, ◌<◌, List, [], length, refl, sym, ap, subst, ◌∙◌, arith}
use Rattle.std.specs.Prelude.{map, nat_le, if◌then◌else◌}
use Rattle.ipc_limits.specs.declared.limits.Limits.{Limits}
use Rattle.ipc_base.specs.Objects.{PlainObjects}
use Rattle.ipc_checkpoint.specs.declared.layout.Layout.{Layout}
use Rattle.ipc_checkpoint.specs.Checkpoint.{IsElsewhere, Holds as HoldsObjects}
use Rattle.ipc_disk.specs.declared.range.Range.{Range}
use Rattle.ipc_disk.specs.Medium.{Image, Medium, IsDurable}
use Rattle.ipc_disk.specs.Range.{IsInside}
use Rattle.ipc_disk.specs.Since.{EachImageSince, SameAt, LeavesAlone}
use Rattle.ipc_disk.proofs.CallerLemmas.{EachImageSince-both, EachImageSince-weaken, LeavesAlone-keeps, sector_at-same}
use Rattle.ipc_heap.specs.Heap.{Holds as HeapHolds}
use Rattle.ipc_heap.specs.Matches.{StaysSaved}
use Rattle.ipc_journal.proofs.CallerLemmas.{Holds-turned}
use Rattle.ipc_state.specs.State.{State, next_pid_after, restart}
use Rattle.ipc_engine.specs.Event.{PlainEvent}
use Rattle.ipc_image.specs.declared.format.Format.{Format}
use Rattle.ipc_image.specs.Format.{device_form, format, format_one, objects_first, IsFormat}
use Rattle.ipc_image.specs.Saved.{StandForState, StandForStateIn}
use Rattle.ipc_image.specs.Superblock.{sectors_in}
use Rattle.ipc_image.proofs.CallerLemmas.{form-placed}
use Rattle.ipc_store.specs.Batch.{batch_bytes}
use Rattle.ipc_store.specs.Image.{journal_form, journal_range, layout_in, objects_range, named_sectors, HasBatches, IsDeviceIn, LeadToBy, StandsForIn}
use Rattle.ipc_store.specs.Relations.Format.{IsPrepared}
use Rattle.ipc_store.specs.Relations.Upgrade.{HasOld, HasOldIn}
use Rattle.ipc_store.proofs.Devices.{IsDeviceIn-same, journal-same}

-- an image that has the pieces stands for the state
pub old-stands : (form : Format) (own : Limits) (epoch : ℕ) (objects : PlainObjects) (batches : List (List PlainEvent)) (base s : State) (image : Image)
    → HasOldIn form own epoch objects batches image → StandForStateIn form own base objects
    → LeadToBy form.batch own base batches s → StandsForIn form own s image
old-stands form own epoch objects batches base s image old stand leads = record {
  epoch = epoch;
  base = base;
  kept = record { device = old.device; objects = objects; there = old.there; stand = stand };
  batches = batches;
  journal = old.journal;
  leads = leads;
}

module _ (form : Format) (known : IsFormat form) (own : Limits) (epoch : ℕ) (objects : PlainObjects) (batches : List (List PlainEvent)) (layout : Layout)
    (first : layout.range.first ≡ objects_first form) (root : (0 < layout.root) × (layout.root < 3)) where
  -- the superblock and the journal are none of the checkpoint's sectors
  superblock-elsewhere : IsElsewhere layout 0
  superblock-elsewhere = (λ is. absurd (omega (arith, is, root)), inl (omega (arith, first)))

  journal-elsewhere : (i : ℕ) → IsInside (journal_range form) i → IsElsewhere layout i
  journal-elsewhere i inside = (λ is. absurd (omega (arith, is, root, inside.0)), inl (omega (arith, first, inside.1)))

  -- a device with these batches, of so many sectors
  abbrev HasOthers : ℕ → Image → Type 0
  HasOthers sectors image = IsDeviceIn form own image × HasBatches form epoch batches image × (named_sectors image ≡ sectors)

  others-same : (sectors : ℕ) (a b : Image) → SameAt (IsElsewhere layout) a b → HasOthers sectors a → HasOthers sectors b
  others-same sectors a b same has = (
    IsDeviceIn-same form (IsElsewhere layout) own a b superblock-elsewhere same has.0,
    journal-same form (form-placed form known).some (IsElsewhere layout) epoch batches a b journal-elsewhere same has.1,
    ap sectors_in (sym (sector_at-same (IsElsewhere layout) a b 0 same superblock-elsewhere)) ∙ has.2,
  )

  -- at every moment of a save under the new root the old objects are there, and the rest as it was
  pub old-stays : (old new : Medium) → IsDurable old → HasOldIn form own epoch objects batches old.contents
      → ((i : ℕ) → IsInside (objects_range form (named_sectors old.contents)) i → IsInside layout.range i)
      → LeavesAlone (IsElsewhere layout) old new → StaysSaved layout.range form.root epoch objects old new
      → EachImageSince old new (HasOldIn form own epoch objects batches)
  old-stays old new durable has within alone saved =
      let n : ℕ = named_sectors old.contents in
      let narrow : Range = objects_range form n in
      let others : EachImageSince old new (HasOthers n) =
      LeavesAlone-keeps (IsElsewhere layout) old new (HasOthers n) alone
      (λ image now. subst (HasOthers n) (sym (durable image now)) (has.device, has.journal, refl)) (others-same n) in
      let there : EachImageSince old new (HeapHolds narrow form.root epoch objects) =
      saved narrow within (λ image now. subst (HeapHolds narrow form.root epoch objects) (sym (durable image now)) has.there) in
      EachImageSince-weaken old new (λ image. HasOthers n image × HeapHolds narrow form.root epoch objects image)
      (HasOldIn form own epoch objects batches)
      (EachImageSince-both old new (HasOthers n) (HeapHolds narrow form.root epoch objects) others there)
      (λ image both. record {
        device = both.0.0;
        there = subst (λ (k : ℕ). HeapHolds (objects_range form k) form.root epoch objects image) (sym both.0.2) both.1;
        journal = both.0.1;
      })

-- a device of the old version that has the new objects as well is all but the superblock of one of the version of today
pub old-prepared : (own limits : Limits) (epoch : ℕ) (objects new : PlainObjects) (batches : List (List PlainEvent)) (s : State) (image : Image)
    → device_form limits ≡ format → HasOld own epoch objects batches image → HoldsObjects (layout_in format limits (length image)) (epoch + 1) new image
    → StandForState limits s new → IsPrepared limits s image
old-prepared own limits epoch objects new batches s image is old there stand = record {
  epoch = epoch + 1;
  objects = new;
  there = subst (λ (f : Format). HoldsObjects (layout_in f limits (length image)) (epoch + 1) new image) (sym is) there;
  stand = subst (λ (f : Format). StandForStateIn f limits s new) (sym is) stand;
  journal = subst (λ (f : Format). HasBatches f (epoch + 1) [] image) (sym is)
      (Holds-turned (journal_form format_one) (journal_range format_one) epoch (epoch + 1) (map batch_bytes batches) image (omega arith) old.journal tt);
}

-- a restart is the same in both versions
pub restart-of-two : (a b : Limits) (s : State) → a.version ≡ 1 → b.version ≡ 2 → restart a s ≡ restart b s
restart-of-two a b s one two =
    let next : ℕ → ℕ = λ version. if nat_le 3 version then 1 else s.processes.next in
    let same : next_pid_after a s ≡ next_pid_after b s = ap next one ∙ sym (ap next two) in
    λ i. record (restart a s) { processes = record { next = same i; entries = [] } }
