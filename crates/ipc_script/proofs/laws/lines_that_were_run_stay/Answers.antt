use Rattle.ipc_script.proofs.Going.{keeps-lines}
use Rattle.ipc_script.proofs.laws.lines_that_were_run_stay.Goals as goal

pub returns : goal.returns
returns g c = λ limits h old last next before number lines r text events keeps empty runs young takes.
    keeps-lines g.D.SectorDisk.medium c.an_open_finds_what_stands_there.ensures.keeps limits h old last next before number
    lines r text events keeps empty runs young takes (c.calls_keep_answers.ensures limits)
