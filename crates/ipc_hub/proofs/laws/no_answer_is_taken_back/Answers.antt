use Rattle.ipc_hub.proofs.Lasting.{has-history, rests-after}
use Rattle.ipc_hub.proofs.laws.no_answer_is_taken_back.Goals as goal

pub returns-clause-rests : goal.returns-clause-rests
returns-clause-rests g c = λ past disk left lives stands rested.
    rests-after g.D.SectorDisk.medium g.met.D.SectorDisk.only_now past c.a_stop_leaves_what_was_acknowledged.ensures
    c.an_open_finds_what_was_acknowledged.ensures.found c.an_open_finds_what_was_acknowledged.ensures.rests disk
    (c.an_open_finds_what_stands_there.ensures.rests past disk stands) lives left rested

pub returns-clause-history : goal.returns-clause-history
returns-clause-history g c = λ past disk lives opened stands all.
    has-history g.D.SectorDisk.medium g.met.D.SectorDisk.only_now past c.a_stop_leaves_what_was_acknowledged.ensures
    c.an_open_finds_what_was_acknowledged.ensures.found c.an_open_finds_what_was_acknowledged.ensures.rests disk
    (c.an_open_finds_what_stands_there.ensures.rests past disk stands) lives opened all
