use Rattle.std.proofs.Common.{length, ap, arith, subst}
use Rattle.ipc_base.specs.Objects.{AreObjects}
use Rattle.ipc_state.specs.State.{State}
use Rattle.ipc_image.specs.declared.format.Format.{Format}
use Rattle.ipc_image.specs.Saved.{saved_in}
use Rattle.ipc_image.proofs.SavedObjects.{tables_count}
use Rattle.ipc_image.proofs.state_objects.StateObjectsObjects.count.Goals as goal

pub returns-clause-count : goal.returns-clause-count
returns-clause-count c =
    let o = c.self.inside in
    omega (
      arith,
      tables_count o.form o.numbers o.processes.now o.waits.now o.undo.now o.queues.now o.sets.now o.mqs.now o.sems.now o.segments.now
          o.shms.now,
      ap (λ (s : Format × State). length (saved_in s.0 s.1)) c.self.view_is,
    )

pub returns-clause-objects : goal.returns-clause-objects
returns-clause-objects c = subst (λ (s : Format × State). AreObjects (saved_in s.0 s.1)) c.self.view_is c.self.invariant.2
