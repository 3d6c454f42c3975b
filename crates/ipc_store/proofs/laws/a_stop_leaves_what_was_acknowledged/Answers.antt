use Rattle.ipc_store.proofs.Leaving.{rests-left}
use Rattle.ipc_store.proofs.laws.a_stop_leaves_what_was_acknowledged.Goals as goal

pub returns : goal.returns
returns g c = λ last next before events left keeps takes is.
    rests-left g.D.SectorDisk.medium last next before events left keeps takes is
