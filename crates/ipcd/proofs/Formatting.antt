-- Why a new device of enough sectors is refused.
use Rattle.std.proofs.Common.{◌≡◌, ◌<◌, ◌≤◌, ℕ, Bool, true, false, refl, arith}
use Rattle.std.specs.Prelude.{Option, Some, None, Ok, Err, nat_lt}
use Rattle.std.proofs.lemmas.Bool.Decides.{nat_tests}
use Rattle.ipc_store.specs.declared.fault.FormatError.{FormatError}
use Rattle.ipc_store.specs.declared.fault.FormatError.TheVariants.{BadLimits, Device, TooSmall}
use Rattle.ipcd.specs.declared.ending.Fault.TheVariants as ending
use Rattle.ipcd.specs.Device.{sectors_given}
use Rattle.ipcd.specs.Ending.{device_fault, of_format_error}

-- by the disk
pub refused : {P : Type 0} (e : FormatError) (size least : ℕ) → ((need : ℕ) → e ≡ TooSmall need → P × (need ≡ least) × (size < need))
    → least ≤ size → of_format_error e ≡ device_fault
refused (TooSmall need) size least small enough = let s = small need refl in absurd (omega (arith, s.1, s.2, enough))
refused (BadLimits limit) size least small enough = refl
refused Device size least small enough = refl

-- as many sectors as a device gets are enough
pub enough : (need sectors : ℕ) (asked : Option ℕ) → sectors_given need asked ≡ Ok sectors → need ≤ sectors
enough need sectors None is = let same : need ≡ sectors = cc in omega (arith, same)
enough need sectors (Some asked) is = by (nat_lt asked need) refl
  where
    by : (b : Bool) → nat_lt asked need ≡ b → need ≤ sectors
    by true less = let none : Err (ending.TooSmall need) ≡ Ok sectors = rw less at is in cc
    by false less = let same : asked ≡ sectors = cc in grind (arith, nat_tests, less, same)
