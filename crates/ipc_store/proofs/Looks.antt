-- What a look reads, call by call, and what it tells.
use Rattle.std.proofs.Common.{◌≡◌, true, false, ◌⊎◌, inl, inr, ⊎_elim, ℕ, Ok, Err, refl, sym, ap, ◌∙◌}
use Rattle.std.specs.Prelude.{Result, IfOk, IfErr}
use Rattle.ipc_limits.specs.declared.limits.Limits.{Limits}
use Rattle.ipc_disk.specs.Calls.{IsOneCall, OnlyReads}
use Rattle.ipc_disk.specs.Counts.{Counts}
use Rattle.ipc_disk.specs.Medium.{Image, Medium, Stays}
use Rattle.ipc_disk.proofs.CallerLemmas.{IsSameDisk-then, IsSameDisk-call, OnlyReads-start}
use Rattle.ipc_state.specs.State.{State}
use Rattle.ipc_engine.specs.Engine.{Machine}
use Rattle.ipc_image.specs.declared.format.Format.{Format}
use Rattle.ipc_image.specs.Format.{device_form}
use Rattle.ipc_image.specs.Superblock.{is_of}
use Rattle.ipc_image.proofs.CallerLemmas.{form-known}
use Rattle.ipc_disk.specs.Standing.{sector_at}
use Rattle.ipc_store.specs.declared.fault.OpenError.{OpenError}
use Rattle.ipc_store.specs.declared.fault.OpenError.TheVariants as errors
use Rattle.ipc_store.specs.Image.{form_at, StandsFor}
use Rattle.ipc_store.specs.Look.{LeavesAlone}
use Rattle.ipc_store.specs.Refusals.{IsRefusal}
use Rattle.ipc_store.specs.Relations.Look.{Tells}
use Rattle.ipc_store.proofs.CallerLemmas.{stands-form, stands-none}
use Rattle.ipc_store.proofs.Loaded.{chain}
use Rattle.ipc_store.proofs.Opened.{device-begins}

module _ {D : Type 0} {size : D → ℕ} {medium : D → Medium} {counts : D → Counts} where
  pub LeavesAlone-reads : {failed : Type 0} {old new : D} → OnlyReads size medium counts failed old new → LeavesAlone size medium counts old new
  LeavesAlone-reads {failed} {old} {new} reads = record {
    same = reads.same;
    stays = reads.stays;
    writes = ⊎_elim (λ bad. ap (λ n. n.writes) (reads.failure bad)) (λ same. ap (λ n. n.writes) same) reads.no_failure;
    syncs = ⊎_elim (λ bad. ap (λ n. n.syncs) (reads.failure bad)) (λ same. ap (λ n. n.syncs) same) reads.no_failure;
  }

  pub LeavesAlone-start : (disk : D) → LeavesAlone size medium counts disk disk
  LeavesAlone-start disk = LeavesAlone-reads (OnlyReads-start disk)

  pub LeavesAlone-then : {old mid new : D} → LeavesAlone size medium counts old mid → LeavesAlone size medium counts mid new
      → LeavesAlone size medium counts old new
  LeavesAlone-then {old} {mid} {new} first next = record {
    same = IsSameDisk-then first.same next.same;
    stays = λ honest. chain (medium old) (medium mid) (medium new) honest (first.stays honest) next.stays;
    writes = next.writes ∙ first.writes;
    syncs = next.syncs ∙ first.syncs;
  }

  -- a read
  pub LeavesAlone-call : {T E : Type 0} (result : Result T E) {old new : D} → IsOneCall size counts result (λ n. n) old new
      → Stays (medium old) (medium new) → LeavesAlone size medium counts old new
  LeavesAlone-call (Ok x) {old} {new} call stays = record {
    same = IsSameDisk-call call stays.time;
    stays = λ honest. stays;
    writes = ap (λ n. n.writes) call.ok;
    syncs = ap (λ n. n.syncs) call.ok;
  }
  LeavesAlone-call (Err e) {old} {new} call stays = record {
    same = IsSameDisk-call call stays.time;
    stays = λ honest. stays;
    writes = ap (λ n. n.writes) call.err;
    syncs = ap (λ n. n.syncs) call.err;
  }

-- ---- what is told of an image

pub told-ok : {H : Type 0} (r : Result Machine OpenError) (image : Image) → (H → Tells r image)
    → IfOk r (λ machine. H → StandsFor machine.limits machine.state image)
told-ok (Ok machine) image tells = tells
told-ok (Err error) image tells = tt

-- an image that stands for a state has no fault
pub told-refusals : {H : Type 0} (r : Result Machine OpenError) (image : Image) → (H → Tells r image)
    → IfErr r (λ error. (limits : Limits) (s : State) → H → StandsFor limits s image → (error ≡ errors.Device) ⊎ (error ≡ errors.NoMemory))
told-refusals (Ok machine) image tells = tt
told-refusals (Err errors.Device) image tells = λ limits s honest stands. inl refl
told-refusals (Err errors.NotFormatted) image tells = λ limits s honest stands.
    absurd ((device-begins (device_form limits) (form-known limits) limits image stands.kept.device).0 (tells honest))
told-refusals (Err (errors.Version found)) image tells = λ limits s honest stands.
    let other = tells honest in
    let begins = device-begins (device_form limits) (form-known limits) limits image stands.kept.device in
    let bad : true ≡ false = sym begins.2 ∙ ap (λ (f : Format). is_of f (sector_at image 0)) (stands-form limits s image stands) ∙ other.other in
    cc
told-refusals (Err (errors.Damaged sector)) image tells = λ limits s honest stands.
    absurd (stands-none image limits s stands (tells honest).0.stands_for_none)
told-refusals (Err errors.NoMemory) image tells = λ limits s honest stands. inr refl

pub told-refused : {H : Type 0} (r : Result Machine OpenError) (image : Image) → (H → Tells r image)
    → IfErr r (λ error. H → IsRefusal (form_at image) image error)
told-refused (Ok machine) image tells = tt
told-refused (Err errors.Device) image tells = λ honest. tt
told-refused (Err errors.NotFormatted) image tells = tells
told-refused (Err (errors.Version found)) image tells = tells
told-refused (Err (errors.Damaged sector)) image tells = tells
told-refused (Err errors.NoMemory) image tells = tells
