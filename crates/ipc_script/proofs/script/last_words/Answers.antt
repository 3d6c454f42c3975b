use Rattle.ipc_script.proofs.Halting.{failed-report, failed_run}
use Rattle.ipc_script.proofs.script.last_words.Goals as goal

pub returns-clause-says : goal.returns-clause-says
returns-clause-says g c limits r failed =
    let hub = c.args.hub.now in
    let opened = c.args.opened.now in
    c.report_all.ensures.says limits (failed_run hub.store.confirmed r) (failed-report limits hub opened r failed)

pub returns-2-clause-says : goal.returns-2-clause-says
returns-2-clause-says g c limits r failed =
    let hub = c.args.hub.now in
    let opened = c.args.opened.now in
    c.report_all.ensures.says limits (failed_run hub.store.confirmed r) (failed-report limits hub opened r failed)
