-- What a superblock that was read says of the image.
use Rattle.std.proofs.Common.{◌≡◌, true, false, inl, inr, ℕ, ◌<◌, ◌≤◌, ◌^◌, List, [], length, refl, sym, ap, subst, ◌∙◌, arith}
use Rattle.std.specs.Prelude.{Option, Some, slice_get}
use Rattle.std.specs.Option.{unwrap_or}
use Rattle.std.proofs.lemmas.Option.{unwrap_or-slice_get}
use Rattle.ipc_limits.specs.declared.limits.Limits.{Limits}
use Rattle.ipc_disk.specs.Medium.{Image}
use Rattle.ipc_disk.specs.Standing.{sector_at}
use Rattle.ipc_image.specs.declared.format.Format.{Format}
use Rattle.ipc_image.specs.Format.{IsFormat}
use Rattle.ipc_image.specs.Superblock.{IsFormatted, version_in, sectors_in, is_of, IsSuperblockIn}
use Rattle.ipc_image.specs.declared.superblock.Superblock.{Superblock}
use Rattle.ipc_image.proofs.CallerLemmas.{superblock-sectors}
use Rattle.ipc_store.specs.Image.{named_sectors, IsDeviceIn, IsNotFormatted, HasVersionBut}
use Rattle.ipc_store.specs.Refusals.{IsNoSuperblock}

-- a sector that was read
pub sector-read : (image : Image) (i : ℕ) (sector : List ℕ) → slice_get image i ≡ Some sector → sector_at image i ≡ sector
sector-read image i sector read = sym (unwrap_or-slice_get image i []) ∙ ap (λ (o : Option (List ℕ)). unwrap_or o []) read

-- a superblock that names no more sectors than there are
pub is_device : (form : Format) → IsFormat form → (image : Image) (size : ℕ) (sector : List ℕ) → length image ≡ size → sector_at image 0 ≡ sector
    → size < 2 ^ 32
    → (found : Superblock) → found.sectors ≤ size → IsSuperblockIn form found.sectors found.limits sector
    → IsDeviceIn form found.limits image × (found.sectors ≡ named_sectors image)
is_device form known image size sector whole read fits found there is =
    let named : named_sectors image ≡ found.sectors =
    ap sectors_in read ∙ superblock-sectors form known found.sectors found.limits sector is (omega (arith, there, fits)) in (
      record {
        superblock = subst (λ (n : ℕ). IsSuperblockIn form n found.limits (sector_at image 0)) (sym named)
            (subst (λ (s : List ℕ). IsSuperblockIn form found.sectors found.limits s) (sym read) is);
        whole = omega (arith, named, there, whole);
      },
      sym named,
    )

module _ (form : Format) (image : Image) (size : ℕ) (sector : List ℕ) (whole : length image ≡ size) (read : sector_at image 0 ≡ sector) (large : 3 ≤ size) where
  -- it begins as a device
  begins : IsFormatted sector → ¬ IsNotFormatted image
  begins formatted (inl small) = absurd (omega (arith, small, whole, large))
  begins formatted (inr other) = other (subst IsFormatted (sym read) formatted)

  pub has_version : (found : ℕ) → IsFormatted sector × (version_in sector ≡ found) × (is_of form sector ≡ false)
      → HasVersionBut form found image
  has_version found (formatted, version, other) =
      record { formatted = begins formatted; version = ap version_in read ∙ version; other = ap (is_of form) read ∙ other }

  no_device : ((named : ℕ) (limits : Limits) → named ≤ size → ¬ IsSuperblockIn form named limits sector) → (limits : Limits)
      → ¬ IsDeviceIn form limits image
  no_device none limits device =
      none (named_sectors image) limits (omega (arith, device.whole, whole))
      (subst (λ (s : List ℕ). IsSuperblockIn form (named_sectors image) limits s) read device.superblock)

  pub is_damaged : IsFormatted sector × (is_of form sector ≡ true)
      × ((named : ℕ) (limits : Limits) → named ≤ size → ¬ IsSuperblockIn form named limits sector)
      → IsNoSuperblock form image 0
  is_damaged (formatted, version, none) = record {
    damaged = record {
      formatted = begins formatted;
      version = ap (is_of form) read ∙ version;
      stands_for_none = λ limits s stands. no_device none limits stands.kept.device;
    };
    none = no_device none;
    first = refl;
  }

-- the form is known by another name
pub has_named_version : {named form : Format} → named ≡ form → (image : Image) (size : ℕ) (sector : List ℕ) → length image ≡ size
    → sector_at image 0 ≡ sector → 3 ≤ size → (found : ℕ) → IsFormatted sector × (version_in sector ≡ found) × (is_of named sector ≡ false)
    → HasVersionBut form found image
has_named_version {named} {form} same image size sector whole read large found is =
    subst (λ (f : Format). HasVersionBut f found image) same (has_version named image size sector whole read large found is)
