-- Errors of an upgrade to version 3, and what they say of the disk.
use Rattle.std.proofs.Common.{◌≡◌, true, false, ◌⊎◌, inl, inr, ⊎_elim, ℕ, ◌<◌, ◌≤◌, ◌^◌, length, refl, sym, ap, subst, ◌∙◌, arith}
use Rattle.std.specs.Prelude.{None, Some, position, not as is_not}
use Rattle.std.proofs.lemmas.Option.{none-some}
use Rattle.ipc_limits.specs.declared.limits.Limits.{Limits}
use Rattle.ipc_checkpoint.specs.View.{epoch_of}
use Rattle.ipc_disk.specs.Medium.{Image, Medium}
use Rattle.ipc_state.specs.State.{State, restart}
use Rattle.ipc_image.specs.Format.{format}
use Rattle.ipc_image.specs.Greater.{AreAtLeast, at_least}
use Rattle.ipc_image.specs.Sizes.{first_fault, need_in}
use Rattle.ipc_image.specs.Superblock.{AreOf}
use Rattle.ipc_image.proofs.CallerLemmas.{last-known}
use Rattle.ipc_store.specs.Image.{IsDeviceIn, StandsForIn}
use Rattle.ipc_store.specs.Larger.{exceeded_field, larger, HasNoTwoEpochs}
use Rattle.ipc_store.specs.Refusals.{IsLargerRefusal, MayEnlarge}
use Rattle.ipc_store.specs.Relations.Larger.{IsRestarted, IsStateRefusal, IsTestRefusal}
use Rattle.ipc_store.specs.Relations.Loading.{IsDamage, IsFoundDamaged, IsSuperblockRefusal}
use Rattle.ipc_store.specs.Relations.Upgrade.{IsRoomRefusal}
use Rattle.ipc_store.specs.View.{StoreView, of_open_error}
use Rattle.ipc_store.specs.declared.fault.OpenError.{OpenError}
use Rattle.ipc_store.specs.declared.fault.OpenError.TheVariants as errors
use Rattle.ipc_store.specs.declared.fault.UpgradeError.{UpgradeError}
use Rattle.ipc_store.specs.declared.fault.UpgradeError.TheVariants as upgrades
use Rattle.ipc_store.proofs.CallerLemmas.{IsDevice-one, StandsForIn-one}
use Rattle.ipc_store.proofs.Opened.{device-begins}

-- a damage that was found is one of the state
pub damage-state : (own limits : Limits) (image : Image) (error : OpenError) → IsDamage (IsFoundDamaged format image) error
    → IsStateRefusal own limits image (of_open_error error)
damage-state own limits image errors.Device is = tt
damage-state own limits image errors.NotFormatted is = absurd is
damage-state own limits image (errors.Version found) is = absurd is
damage-state own limits image (errors.Damaged sector) is = inl is
damage-state own limits image errors.NoMemory is = tt

-- what the tests of a state say of it
module _ {D : Type 0} (own limits : Limits) (image : Image) (medium : Medium) (store : StoreView D) (is : store.machine.limits ≡ own)
    (at : IsRestarted own image medium store) where
  pub restarted-state : store.machine.state ≡ restart own at.state
  restarted-state = at.matches.waits.state ∙ ap (λ (l : Limits). restart l at.state) is

  pub test-state : (error : UpgradeError) → IsTestRefusal limits (epoch_of store.checkpoint) store.machine.state error
      → IsStateRefusal own limits image error
  test-state (upgrades.BadLimits bad) told =
      (at.state, at.stood, subst (λ (x : State). exceeded_field limits x ≡ Some bad.field) restarted-state told)
  test-state (upgrades.Damaged sector) told =
      inr (record { limits = own; state = at.state; stands = at.stood; epoch = omega (arith, told.0, at.epoch) }, told.1)
  test-state (upgrades.TooSmall need) told = absurd told
  test-state upgrades.NotFormatted told = absurd told
  test-state (upgrades.Version found) told = absurd told
  test-state upgrades.Device told = absurd told
  test-state upgrades.NoMemory told = absurd told

-- they make no call on the disk
pub test-device : (limits : Limits) (epoch : ℕ) (s : State) (error : UpgradeError) → IsTestRefusal limits epoch s error → error ≡ upgrades.Device → ⊥
test-device limits epoch s (upgrades.BadLimits bad) told is = cc
test-device limits epoch s (upgrades.Damaged sector) told is = cc
test-device limits epoch s (upgrades.TooSmall need) told is = told
test-device limits epoch s upgrades.NotFormatted told is = told
test-device limits epoch s (upgrades.Version found) told is = told
test-device limits epoch s upgrades.Device told is = told
test-device limits epoch s upgrades.NoMemory told is = told

module _ (limits : Limits) (size : ℕ) (image : Image) (checked : AreOf larger limits) where
  pub superblock-larger : (error : OpenError) → IsSuperblockRefusal format image error → IsLargerRefusal limits size image (of_open_error error)
  superblock-larger errors.Device is = tt
  superblock-larger errors.NotFormatted is = (checked, is)
  superblock-larger (errors.Version found) is = (checked, is)
  superblock-larger (errors.Damaged sector) is = (checked, inl is)
  superblock-larger errors.NoMemory is = absurd is

  pub room-larger : (own : Limits) → IsDeviceIn format own image → (error : UpgradeError)
      → IsRoomRefusal limits own (need_in larger limits) size error → IsLargerRefusal limits size image error
  room-larger own device (upgrades.BadLimits bad) is = inr (checked, own, device, inl is)
  room-larger own device (upgrades.TooSmall need) is = (checked, is.0, is.1, own, device, is.2)
  room-larger own device upgrades.NotFormatted is = absurd is
  room-larger own device (upgrades.Version found) is = absurd is
  room-larger own device (upgrades.Damaged sector) is = absurd is
  room-larger own device upgrades.Device is = absurd is
  room-larger own device upgrades.NoMemory is = absurd is

  pub state-larger : (own : Limits) → IsDeviceIn format own image → MayEnlarge limits size image → (error : UpgradeError)
      → IsStateRefusal own limits image error → IsLargerRefusal limits size image error
  state-larger own device may (upgrades.BadLimits bad) is = inr (checked, own, device, inr (may, is.0, is.1, is.2))
  state-larger own device may (upgrades.Damaged sector) is = (checked, inr (may, is))
  state-larger own device may (upgrades.TooSmall need) is = absurd is
  state-larger own device may upgrades.NotFormatted is = absurd is
  state-larger own device may (upgrades.Version found) is = absurd is
  state-larger own device may upgrades.Device is = tt
  state-larger own device may upgrades.NoMemory is = tt

-- a disk that stands for a state has no fault of its own, and limits and room that do are not refused
module _ (limits own : Limits) (s : State) (size : ℕ) (image : Image) where
  pub larger-refused-by : (error : UpgradeError) → length image < 2 ^ 32 → StandsForIn format own s image → first_fault larger limits ≡ None
      → AreAtLeast limits own → need_in larger limits ≤ size → exceeded_field limits (restart own s) ≡ None
      → IsLargerRefusal limits size image error → (error ≡ upgrades.Device) ⊎ (error ≡ upgrades.NoMemory) ⊎ HasNoTwoEpochs image
  larger-refused-by upgrades.Device few stands passed greater room within is = inl refl
  larger-refused-by upgrades.NoMemory few stands passed greater room within is = inr (inl refl)
  larger-refused-by upgrades.NotFormatted few stands passed greater room within is =
      absurd ((device-begins format last-known own image stands.kept.device).0 is.1)
  larger-refused-by (upgrades.Version found) few stands passed greater room within is =
      let bad : true ≡ false = sym (device-begins format last-known own image stands.kept.device).2 ∙ is.1.other in cc
  larger-refused-by (upgrades.BadLimits bad) few stands passed greater room within (inl untold) = absurd (none-some bad.field (sym passed ∙ untold))
  larger-refused-by (upgrades.BadLimits bad) few stands passed greater room within (inr (checked, other, device, inl below)) =
      let same = IsDevice-one format last-known own other image few stands.kept.device device in
      absurd (none-some bad.field (sym greater ∙ ap (λ (l : Limits). position is_not (at_least limits l)) same ∙ below))
  larger-refused-by (upgrades.BadLimits bad) few stands passed greater room within (inr (checked, other, device, inr (may, t, stood, exceeded))) =
      let same = StandsForIn-one format last-known own other s t image few stands stood in
      absurd (none-some bad.field (sym within ∙ ap (λ (x : State). exceeded_field limits x)
      (ap (λ (l : Limits). restart l s) same.0 ∙ ap (restart other) same.1) ∙ exceeded))
  larger-refused-by (upgrades.TooSmall need) few stands passed greater room within is = absurd (omega (arith, is.1, is.2, room))
  larger-refused-by (upgrades.Damaged sector) few stands passed greater room within is =
      ⊎_elim (λ none. absurd (none.none own stands.kept.device))
      (λ damage. ⊎_elim (λ found. absurd (found.0.stands_for_none own s stands)) (λ end. inr (inr end.0)) damage.1) is.1
