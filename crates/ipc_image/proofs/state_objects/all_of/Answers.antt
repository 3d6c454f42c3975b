use Rattle.std.proofs.Common.{◌∙◌, ℕ, ap, sym, subst}
use Rattle.ipc_base.specs.Objects.{AreObjects}
use Rattle.shm_segment.specs.Segment.{Segment}
use Rattle.ipc_state.specs.Named.{Named}
use Rattle.ipc_state.specs.State.{State}
use Rattle.ipc_image.specs.Saved.{saved_in, HasAllPlaces}
use Rattle.ipc_image.proofs.SavedObjects.{seen-is, saved-are}
use Rattle.ipc_image.proofs.Fits.{saved-fit}
use Rattle.ipc_image.proofs.state_objects.all_of.Goals as goal

pub invariant_of-result : goal.invariant_of-result
invariant_of-result c =
    let same = seen-is c.args.form (record {
      clock = c.clock.result;
      next_pid = c.next_pid.result;
      next_msg_queue = c.next_msg_queue.result;
      next_semset = c.next_semset.result;
      next_mq = c.next_mq.result;
      next_psem = c.next.result;
      next_pshm = c.next-2.result;
      next_shm = c.next_shm.result;
    }) c.processes.result.now c.waits.result.now c.adjustments.result.now c.msg_queues.result.now c.semsets.result.now _
    c.state-state.result.now.state c.clock.ensures c.next_pid.ensures c.next_msg_queue.ensures c.next_semset.ensures c.processes.ensures
    c.waits.ensures c.adjustments.ensures c.msg_queues.ensures c.semsets.ensures (λ i. record {
      mq = record { next = c.next_mq.ensures i; entries = c.mqs.ensures i };
      psem = record {
        next = (c.next.ensures ∙ ap (λ (x : Named ℕ). x.next) c.psems.ensures.objects) i;
        entries = (c.items.ensures ∙ ap (λ (x : Named ℕ). x.entries) c.psems-2.ensures.objects) i;
      };
      pshm = record {
        next = (c.next-2.ensures ∙ ap (λ (x : Named Segment). x.next) c.pshms.ensures.objects) i;
        entries = (c.items-2.ensures ∙ ap (λ (x : Named Segment). x.entries) c.pshms-2.ensures.objects) i;
      };
      shm = record { next = c.next_shm.ensures i; entries = c.shms.ensures i };
    }) in
    let objects =
    saved-are c.args.engine.now.limits c.args.engine.now.state c.state-state.ensures.passed c.state-state.ensures.sound c.args.form c.requires in (
      c.requires,
      subst HasAllPlaces (sym same) c.read_state.ensures,
      subst (λ (s : State). AreObjects (saved_in c.args.form s)) (sym (same ∙ c.state-state.ensures.state)) objects,
    )

pub returns-clause-objects : goal.returns-clause-objects
returns-clause-objects c =
    ap (saved_in c.args.form) (seen-is c.args.form (record {
      clock = c.clock.result;
      next_pid = c.next_pid.result;
      next_msg_queue = c.next_msg_queue.result;
      next_semset = c.next_semset.result;
      next_mq = c.next_mq.result;
      next_psem = c.next.result;
      next_pshm = c.next-2.result;
      next_shm = c.next_shm.result;
    }) _ _ _ _ _ _ c.state-state.result.now.state c.clock.ensures c.next_pid.ensures c.next_msg_queue.ensures c.next_semset.ensures
    c.processes.ensures c.waits.ensures c.adjustments.ensures c.msg_queues.ensures c.semsets.ensures (λ i. record {
      mq = record { next = c.next_mq.ensures i; entries = c.mqs.ensures i };
      psem = record {
        next = (c.next.ensures ∙ ap (λ (x : Named ℕ). x.next) c.psems.ensures.objects) i;
        entries = (c.items.ensures ∙ ap (λ (x : Named ℕ). x.entries) c.psems-2.ensures.objects) i;
      };
      pshm = record {
        next = (c.next-2.ensures ∙ ap (λ (x : Named Segment). x.next) c.pshms.ensures.objects) i;
        entries = (c.items-2.ensures ∙ ap (λ (x : Named Segment). x.entries) c.pshms-2.ensures.objects) i;
      };
      shm = record { next = c.next_shm.ensures i; entries = c.shms.ensures i };
    }) ∙ c.state-state.ensures.state)

pub returns-clause-fit : goal.returns-clause-fit
returns-clause-fit c of = saved-fit c.args.form c.requires c.args.engine.now.limits c.args.engine.now.state of c.state-state.ensures.sound
