-- The disk after an open or an upgrade: that of the store, the device, or the one that is handed back with the error.
use Rattle.std.specs.Prelude.{Ok, Err, Result}
use Rattle.ipc_store.specs.View.{StoreView}
use Rattle.ipc_store.specs.declared.opening.Unopened.{Unopened}
use Rattle.ipc_store.specs.declared.upgrade.Unupgraded.{Unupgraded}

abbrev pub opened_disk : {D : Type 0} → Result (StoreView D) (Unopened D) → D
opened_disk (Ok store) = store.disk
opened_disk (Err fault) = fault.disk

abbrev pub upgraded_disk : {D : Type 0} → Result D (Unupgraded D) → D
upgraded_disk (Ok disk) = disk
upgraded_disk (Err fault) = fault.disk
