use Rattle.ipc_state.proofs.state.State.still_waits.Goals as goal

pub returns : goal.returns
returns c = rw (← c.self.view_is) (rw c.max.ensures at c.waits_past.ensures)
