use Rattle.ipc_script.proofs.Going.{goes-on}
use Rattle.ipc_script.proofs.laws.a_stop_takes_nothing_back.Goals as goal

pub returns : goal.returns
returns g c = λ old new before keeps lives.
    goes-on g.D.SectorDisk.medium c.an_open_finds_what_stands_there.ensures.keeps before old new keeps lives
