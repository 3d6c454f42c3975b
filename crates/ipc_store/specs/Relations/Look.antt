-- What a look tells of an image.
use Rattle.std.specs.Prelude.{Ok, Err, Result}
use Rattle.ipc_engine.specs.Engine.{Machine}
use Rattle.ipc_disk.specs.Medium.{Image}
use Rattle.ipc_store.specs.declared.fault.OpenError.{OpenError}
use Rattle.ipc_store.specs.declared.fault.OpenError.TheVariants as errors
use Rattle.ipc_store.specs.Image.{form_at, StandsFor}
use Rattle.ipc_store.specs.Refusals.{IsRefusal}

-- the image stands for the state of the machine, or has the fault that is told
abbrev pub Tells : Result Machine OpenError → Image → Type 0
Tells (Ok machine) image = StandsFor machine.limits machine.state image
Tells (Err errors.Device) image = ⊥
Tells (Err error) image = IsRefusal (form_at image) image error
