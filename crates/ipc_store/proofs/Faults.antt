-- The faults that an open passes on.
use Rattle.std.proofs.Common.{◌≡◌, ◌↔◌, ℕ, Ok, Err, refl, sym, ap, ◌∙◌}
use Rattle.std.specs.Prelude.{Result, IsErrOf}
use Rattle.std.specs.Result.{IsErrAnd}
use Rattle.std.proofs.lemmas.Result.{err_from_is_err_and}
use Rattle.ipc_checkpoint.specs.declared.error.LoadError.{LoadError}
use Rattle.ipc_checkpoint.specs.declared.error.LoadError.TheVariants as loads
use Rattle.ipc_journal.specs.declared.error.JournalError.{JournalError}
use Rattle.ipc_journal.specs.declared.error.JournalError.TheVariants as journals
use Rattle.ipc_store.specs.declared.fault.OpenError.{OpenError}
use Rattle.ipc_store.specs.declared.fault.OpenError.TheVariants as errors
use Rattle.ipc_store.specs.declared.fault.UpgradeError.{UpgradeError}
use Rattle.ipc_store.specs.declared.fault.UpgradeError.TheVariants as upgrades
use Rattle.ipc_store.specs.Relations.Loading.{IsDamage}
use Rattle.ipc_store.specs.View.{of_journal_error, of_load_error, of_open_error}

pub err-same : {T E : Type 0} (r : Result T E) (a b : E) → r ≡ Err a → r ≡ Err b → a ≡ b
err-same r a b one other = cc

-- an error that is passed on is the one that came
pub passed_on : {T E : Type 0} (r : Result T E) (came went : E) → IsErrAnd r (λ y. y ≡ came) → IsErrOf r went → came ≡ went
passed_on r came went is went-is = let q = err_from_is_err_and r is in sym q.2 ∙ err-same r q.0 went q.1 went-is

-- which fault it was: of the journal
pub opened-damage : (fault : JournalError) (P : ℕ → Type 0) → ((sector : ℕ) → fault ≡ journals.Damaged sector → P sector) → IsDamage P (of_journal_error fault)
opened-damage journals.Device P damaged = tt
opened-damage (journals.Damaged sector) P damaged = damaged sector refl

-- an error of the journal is passed on as the disk's just if it is that
pub journal-device : {S T : Type 0} (r : Result S JournalError) (went : Result T OpenError) (fault : JournalError) → r ≡ Err fault
    → IsErrAnd went (λ y. y ≡ of_journal_error fault) → IsErrOf r journals.Device ↔ IsErrOf went errors.Device
journal-device r went journals.Device was is = (λ bad. let q = err_from_is_err_and went is in q.1 ∙ ap Err q.2, λ bad. was)
journal-device r went (journals.Damaged n) was is = (λ bad. cc, λ bad. let q = err_from_is_err_and went is in cc)

-- of the objects' sectors
pub loaded-damage : (fault : LoadError) (P : ℕ → Type 0) → ((sector : ℕ) → fault ≡ loads.Damaged sector → P sector) → IsDamage P (of_load_error fault)
loaded-damage loads.Device P damaged = tt
loaded-damage (loads.Damaged sector) P damaged = damaged sector refl
loaded-damage loads.NoMemory P damaged = tt

-- ---- answers that are no failure of the disk

pub ok-device : {T : Type 0} (x : T) → IsErrOf (Ok x) errors.Device → ⊥
ok-device x is = cc

pub loaded-device : {T : Type 0} (r : Result T LoadError) (x : T) → r ≡ Ok x → IsErrOf r loads.Device → ⊥
loaded-device r x was is = cc

pub read-device : {T : Type 0} (r : Result T JournalError) (x : T) → r ≡ Ok x → IsErrOf r journals.Device → ⊥
read-device r x was is = cc

pub damaged-device : {T : Type 0} (sector : ℕ) → IsErrOf {T = T} (Err (errors.Damaged sector)) errors.Device → ⊥
damaged-device sector is = cc

pub format-device : {T : Type 0} → IsErrOf {T = T} (Err errors.NotFormatted) errors.Device → ⊥
format-device is = cc

pub memory-device : {T : Type 0} (went : Result T OpenError) → IsErrAnd went (λ y. y ≡ errors.NoMemory) → IsErrOf went errors.Device → ⊥
memory-device went and is = let e = passed_on went errors.NoMemory errors.Device and is in other e
  where
    other : errors.NoMemory ≡ errors.Device → ⊥
    other e = cc

-- an error that is passed on is the disk's just if it was
pub passed-device : {S T : Type 0} (r : Result S OpenError) (went : Result T OpenError) (fault : OpenError) → r ≡ Err fault
    → IsErrAnd went (λ y. y ≡ fault) → IsErrOf r errors.Device ↔ IsErrOf went errors.Device
passed-device r went fault was and = (
  λ device. let q = err_from_is_err_and went and in q.1 ∙ ap Err (q.2 ∙ err-same r fault errors.Device was device),
  λ device. was ∙ ap Err (passed_on went fault errors.Device and device),
)

-- ---- an upgrade that meets the fault of a load

pub open-device : (fault : OpenError) → of_open_error fault ≡ upgrades.Device → fault ≡ errors.Device
open-device errors.Device is = refl
open-device errors.NotFormatted is = cc
open-device (errors.Version found) is = cc
open-device (errors.Damaged n) is = cc
open-device errors.NoMemory is = cc

-- it is passed on as the disk's just if it is that
pub upgrade-device : {S T : Type 0} (r : Result S OpenError) (went : Result T UpgradeError) (fault : OpenError) → r ≡ Err fault
    → IsErrAnd went (λ y. y ≡ of_open_error fault) → IsErrOf r errors.Device ↔ IsErrOf went upgrades.Device
upgrade-device r went fault was and = (
  λ device. let q = err_from_is_err_and went and in q.1 ∙ ap Err (q.2 ∙ ap of_open_error (err-same r fault errors.Device was device)),
  λ device. was ∙ ap Err (open-device fault (passed_on went (of_open_error fault) upgrades.Device and device)),
)

-- what is passed on as it came is a fault just if it was
pub passed-same : {S T E : Type 0} (r : Result S E) (went : Result T E) (fault e : E) → r ≡ Err fault → IsErrAnd went (λ y. y ≡ fault)
    → IsErrOf r e ↔ IsErrOf went e
passed-same r went fault e was and = (
  λ is. let q = err_from_is_err_and went and in q.1 ∙ ap Err (q.2 ∙ err-same r fault e was is),
  λ is. was ∙ ap Err (passed_on went fault e and is),
)
