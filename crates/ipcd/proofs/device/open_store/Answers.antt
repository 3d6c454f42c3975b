use Rattle.ipcd.proofs.device.open_store.Goals as goal

pub returns-in-Err-clause-refused : goal.returns-in-Err-clause-refused
returns-in-Err-clause-refused g c = (c.in-Err.unopened.error, c.from.ensures, c.in-Err.ensures.refused)

pub returns-in-Ok-clause-history : goal.returns-in-Ok-clause-history
returns-in-Ok-clause-history g c = λ past stands.
    c.an_open_finds_what_stands_there.ensures.keeps past c.args.disk c.in-Ok.store stands (c.in-Ok.ensures.ok stands.honest)
