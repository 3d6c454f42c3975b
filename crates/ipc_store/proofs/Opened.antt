-- The journal of an image, and what a fault in it says of the device.
use Rattle.std.proofs.Common.{◌≡◌, true, ⊎_elim, ℕ, ◌<◌, ◌^◌, length, sym, subst, arith}
use Rattle.std.specs.Prelude.{map}
use Rattle.ipc_limits.specs.declared.limits.Limits.{Limits}
use Rattle.ipc_disk.specs.Medium.{Image}
use Rattle.ipc_disk.specs.Standing.{sector_at}
use Rattle.ipc_journal.specs.Journal.{HasBadHeader}
use Rattle.ipc_journal.proofs.CallerLemmas.{Holds-bad}
use Rattle.ipc_state.specs.State.{State}
use Rattle.ipc_image.specs.declared.format.Format.{Format}
use Rattle.ipc_image.specs.Format.{IsFormat}
use Rattle.ipc_image.specs.Superblock.{version_in, is_of}
use Rattle.ipc_image.proofs.CallerLemmas.{superblock-begins, superblock-is-of, superblock-version}
use Rattle.ipc_store.specs.Batch.{batch_bytes}
use Rattle.ipc_store.specs.Image.{journal_form, journal_range, named_sectors, IsDeviceIn, HasBaseIn, HasBatches, LeadToBy, HasNoStateIn}
use Rattle.ipc_store.specs.Image.{IsNotFormatted, IsDamagedIn, IsFirstFaultIn}
use Rattle.ipc_store.specs.Relations.Replay.{IsBadAt}
use Rattle.ipc_store.proofs.CallerLemmas.{IsDevice-one, HasBase-one}

-- a device begins as one, has its version, and is of it
pub device-begins : (form : Format) → IsFormat form → (limits : Limits) (image : Image) → IsDeviceIn form limits image
    → (¬ IsNotFormatted image) × (version_in (sector_at image 0) ≡ form.version) × (is_of form (sector_at image 0) ≡ true)
device-begins form known limits image device = (
  λ not. ⊎_elim (λ small. absurd (omega (arith, small, device.superblock.room, device.whole)))
      (λ other. other (superblock-begins form known (named_sectors image) limits (sector_at image 0) device.superblock)) not,
  superblock-version form known (named_sectors image) limits (sector_at image 0) device.superblock,
  superblock-is-of form known (named_sectors image) limits (sector_at image 0) device.superblock,
)

-- a device that stands for no state is damaged
pub is_damaged : (form : Format) → IsFormat form → (limits : Limits) (image : Image) → IsDeviceIn form limits image → HasNoStateIn form image
    → IsDamagedIn form image
is_damaged form known limits image device none =
    let begins = device-begins form known limits image device in
    record { formatted = begins.0; version = begins.2; stands_for_none = none }

-- a device without a base
pub base-damaged : (form : Format) → IsFormat form → (limits : Limits) (image : Image) → length image < 2 ^ 32 → IsDeviceIn form limits image
    → ((epoch : ℕ) (base : State) → ¬ HasBaseIn form limits epoch base image) → IsDamagedIn form image
base-damaged form known limits image fits device none =
    is_damaged form known limits image device
    (λ other s stands.
    let same = IsDevice-one form known other limits image fits stands.kept.device device in
    none stands.epoch stands.base (subst (λ (l : Limits). HasBaseIn form l stands.epoch stands.base image) same stands.kept))

module _ (form : Format) (known : IsFormat form) (limits : Limits) (epoch : ℕ) (base : State) (image : Image) (fits : length image < 2 ^ 32)
    (has : HasBaseIn form limits epoch base image) where
  -- a header that is no header of this journal
  pub header-damaged : (sector : ℕ) → sector ≡ 3 → HasBadHeader (journal_form form) (journal_range form) epoch image
      → IsDamagedIn form image × IsFirstFaultIn form image sector
  header-damaged sector at fault = (
    is_damaged form known limits image has.device
        (λ other s stands. let one = HasBase-one form known limits other epoch stands.epoch base stands.base image fits has stands.kept in
        Holds-bad (journal_form form) (journal_range form) epoch (map batch_bytes stands.batches) image fault
        (subst (λ (n : ℕ). HasBatches form n stands.batches image) (sym one.1) stands.journal)),
    subst (IsFirstFaultIn form image) (sym at) (IsFirstFaultIn.Header limits epoch base has fault),
  )

  -- a fault of a batch: the image stands for no state, and this is the first
  pub batch-damaged : (sector : ℕ) → IsBadAt form form.batch limits base epoch image sector → IsDamagedIn form image × IsFirstFaultIn form image sector
  batch-damaged sector bad = (
    is_damaged form known limits image has.device none-replays,
    subst (IsFirstFaultIn form image) (sym bad.first.sector_is)
        (IsFirstFaultIn.AtBatch limits epoch base bad.first.batches bad.first.state has bad.first.leads bad.first.there bad.first.none),
  )
    where
      none-replays : HasNoStateIn form image
      none-replays other s stands =
          let one = HasBase-one form known limits other epoch stands.epoch base stands.base image fits has stands.kept in
          bad.none stands.batches s (record {
            holds = subst (λ (n : ℕ). HasBatches form n stands.batches image) (sym one.1) stands.journal;
            leads = subst (λ (b : State). LeadToBy form.batch limits b stands.batches s) (sym one.2)
                (subst (λ (l : Limits). LeadToBy form.batch l stands.base stands.batches s) (sym one.0) stands.leads);
          })
