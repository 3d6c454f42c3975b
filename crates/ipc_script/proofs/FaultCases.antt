-- What holds of a fault, by whether the world failed, or the disk, or the script is wrong.
use Rattle.std.proofs.Common.{◌≡◌, sym, subst, ◌∙◌}
use Rattle.std.specs.Prelude.{Result, Err, IfErr}
use Rattle.ipc_script.specs.declared.fault.ScriptFault.{ScriptFault}
use Rattle.ipc_script.specs.declared.fault.ScriptFault.TheVariants.{NoMemory, Input, Output, Device, NotFormatted, Version, Damaged}
use Rattle.ipc_script.specs.declared.fault.ScriptFault.TheVariants.{TooLong, BadLine, InUse, Unknown}
use Rattle.ipc_script.specs.Relations.Faults.{ByFault, IfRefused, WorldFailed}

-- two facts of a fault make a third
pub by_fault_both : (W V A B P Q R : Type 0) (e : ScriptFault) → (W → V) → (A → B) → (P → Q → R) → ByFault e W A P → IfRefused e Q → ByFault e V B R
by_fault_both W V A B P Q R NoMemory f d g x q = f x
by_fault_both W V A B P Q R Input f d g x q = x
by_fault_both W V A B P Q R Output f d g x q = f x
by_fault_both W V A B P Q R Device f d g x q = d x
by_fault_both W V A B P Q R NotFormatted f d g x q = d x
by_fault_both W V A B P Q R (Version found) f d g x q = d x
by_fault_both W V A B P Q R (Damaged sector) f d g x q = d x
by_fault_both W V A B P Q R TooLong f d g x q = g x q
by_fault_both W V A B P Q R (BadLine number) f d g x q = g x q
by_fault_both W V A B P Q R (InUse number) f d g x q = g x q
by_fault_both W V A B P Q R (Unknown number) f d g x q = g x q

-- one fact makes another
pub by_fault : (W V A B P Q : Type 0) (e : ScriptFault) → (W → V) → (A → B) → (P → Q) → ByFault e W A P → ByFault e V B Q
by_fault W V A B P Q e f d g x = by_fault_both W V A B P P Q e f d (λ p _. g p) x (wrong_script W A P e x)
  where
    wrong_script : (W A P : Type 0) (e : ScriptFault) → ByFault e W A P → IfRefused e P
    wrong_script W A P NoMemory x = tt
    wrong_script W A P Input x = x
    wrong_script W A P Output x = tt
    wrong_script W A P Device x = tt
    wrong_script W A P NotFormatted x = tt
    wrong_script W A P (Version found) x = tt
    wrong_script W A P (Damaged sector) x = tt
    wrong_script W A P TooLong x = x
    wrong_script W A P (BadLine number) x = x
    wrong_script W A P (InUse number) x = x
    wrong_script W A P (Unknown number) x = x

-- if memory or a write failed, anything holds of a failed disk and of a wrong script
pub world_failed : (W V B P : Type 0) (e : ScriptFault) → (W → V) → WorldFailed e W → ByFault e V B P
world_failed W V B P e f x = by_fault W V ⊥ B ⊥ P e f (λ b. absurd b) (λ b. absurd b) x

-- memory or a write failed
pub world_only : (W : Type 0) (e : ScriptFault) → WorldFailed e W → W
world_only W NoMemory w = w
world_only W Input w = absurd w
world_only W Output w = w
world_only W Device w = absurd w
world_only W NotFormatted w = absurd w
world_only W (Version found) w = absurd w
world_only W (Damaged sector) w = absurd w
world_only W TooLong w = absurd w
world_only W (BadLine number) w = absurd w
world_only W (InUse number) w = absurd w
world_only W (Unknown number) w = absurd w

-- what holds in each case
pub by_any : (W : Type 0) (e : ScriptFault) → ByFault e W W W → W
by_any W NoMemory w = w
by_any W Input w = absurd w
by_any W Output w = w
by_any W Device w = w
by_any W NotFormatted w = w
by_any W (Version found) w = w
by_any W (Damaged sector) w = w
by_any W TooLong w = w
by_any W (BadLine number) w = w
by_any W (InUse number) w = w
by_any W (Unknown number) w = w

pub by_each : (W V P Q : Type 0) (e : ScriptFault) → (W → Q) → (V → Q) → (P → Q) → ByFault e W V P → Q
by_each W V P Q e f d g x = by_any Q e (by_fault W Q V Q P Q e f d g x)

-- the disk has failed
pub on-device : (W V P : Type 0) (e : ScriptFault) → e ≡ Device → ByFault e W V P → V
on-device W V P e is fault = subst (λ (f : ScriptFault). ByFault f W V P) is fault

-- an answer has one fault
pub fault-is : {A : Type 0} (result : Result A ScriptFault) (e f : ScriptFault) → result ≡ Err e → result ≡ Err f → e ≡ f
fault-is result e f one two = let both : Err e ≡ Err f = sym one ∙ two in cc

pub device-then : {A : Type 0} (W V P : Type 0) (result : Result A ScriptFault) → result ≡ Err Device → IfErr result (λ e. ByFault e W V P) → V
device-then W V P result is fault = subst (λ r. IfErr r (λ e. ByFault e W V P)) is fault
