-- Lives of a device, one after another.
use Rattle.ipc_disk.specs.Medium.{Image, Medium}
use Rattle.ipc_store.specs.View.{StoreView}
use Rattle.ipc_script.specs.declared.fault.ScriptFault.{ScriptFault}
use Rattle.ipc_script.specs.declared.fault.ScriptFault.TheVariants.{NoMemory, Input, Output, Device}
use Rattle.ipc_script.specs.declared.fault.ScriptFault.TheVariants.{NotFormatted, Version, Damaged}
use Rattle.ipc_script.specs.declared.fault.ScriptFault.TheVariants.{TooLong, BadLine, InUse, Unknown}
use Rattle.ipc_script.specs.Leaves.{UnlessDisk}
use Rattle.ipc_script.specs.Stops.{IsReopened, LivesOn}
use Rattle.ipc_script.specs.Stops.LivesOn.{One, Stop}
use Rattle.ipc_script.specs.Relations.Lasts.{Lasts}
use Rattle.ipc_script.proofs.Lasting.{lasts-both, lasts-none}

-- what holds of any fault, or follows from what holds
pub unless : (e : ScriptFault) (P Q : Type 0) → (P → Q) → UnlessDisk e P → UnlessDisk e Q
unless NoMemory P Q makes p = makes p
unless Input P Q makes p = makes p
unless Output P Q makes p = makes p
unless Device P Q makes p = tt
unless NotFormatted P Q makes p = tt
unless (Version found) P Q makes p = tt
unless (Damaged sector) P Q makes p = tt
unless TooLong P Q makes p = makes p
unless (BadLine number) P Q makes p = makes p
unless (InUse number) P Q makes p = makes p
unless (Unknown number) P Q makes p = makes p

module _ {D : Type 0} (medium : D → Medium) (old : StoreView D) where
  -- the last life goes on
  pub lives-more : (mid new : StoreView D) → LivesOn medium old mid → Lasts medium mid new → LivesOn medium old new
  lives-more mid new (One _ first) next = One new (lasts-both medium old mid new first next)
  lives-more mid new (Stop closed opened _ before stop first) next =
      Stop closed opened new before stop (lasts-both medium opened mid new first next)

  module _ (law : (d : D) (image : Image) → (medium d).images_since (medium d).moment image → (medium d).images_now image) where
    pub lives-none : LivesOn medium old old
    lives-none = One old (lasts-none medium law old)

    -- it ends, and another begins
    pub lives-stop : (mid closed opened : StoreView D) → LivesOn medium old mid → Lasts medium mid closed → IsReopened medium closed opened
        → LivesOn medium old opened
    lives-stop mid closed opened before last stop =
        Stop closed opened opened (lives-more mid closed before last) stop (lasts-none medium law opened)
