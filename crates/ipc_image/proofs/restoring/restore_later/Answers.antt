use Rattle.std.proofs.Common.{◌∙◌, ◌++◌, map, sym, ap}
use Rattle.std.specs.Prelude.{Err}
use Rattle.ipc_limits.specs.declared.limits.Limits.{Limits}
use Rattle.ipc_base.specs.Objects.{PlainObjects}
use Rattle.ipc_state.specs.State.{State}
use Rattle.ipc_image.specs.Saved.{mq_object, psem_object, pshm_object, LaterObjects}
use Rattle.ipc_image.specs.SavedParts.{put_psems, put_segments, put_shms}
use Rattle.ipc_image.proofs.LaterObjects.{after-mqs, after-segments, after-sems}
use Rattle.ipc_image.proofs.restoring.restore_later.Goals as goal

pub returns-in_err-next-clause-damaged : goal.returns-in_err-next-clause-damaged
returns-in_err-next-clause-damaged c is o fit none are =
    let why = rw is at c.from_residual.ensures in
    c.in_err-next.ensures.damaged (ap (λ e. Err e) (sym why.1)) o.mq.entries _ (after-mqs o) fit.mqs are

pub returns-in_err-next-2-clause-damaged : goal.returns-in_err-next-2-clause-damaged
returns-in_err-next-2-clause-damaged c is o fit none are =
    let why = rw is at c.from_residual-in_err-next-2.ensures in
    let left = c.in_ok-next.ensures.whole o.mq.entries _ (after-mqs o) are fit.mqs in
    c.in_err-next-2.ensures.damaged (ap (λ e. Err e) (sym why.1)) o.psem.entries _ (after-sems o) fit.psems left

pub returns-in_err-next-3-clause-damaged : goal.returns-in_err-next-3-clause-damaged
returns-in_err-next-3-clause-damaged c is o fit none are =
    let why = rw is at c.from_residual-in_err-next-3.ensures in
    let left = c.in_ok-next.ensures.whole o.mq.entries _ (after-mqs o) are fit.mqs in
    let last = c.in_ok-next-2.ensures.whole o.psem.entries _ (after-sems o) left fit.psems in
    c.in_err-next-3.ensures.damaged (ap (λ e. Err e) (sym why.1)) o.pshm.entries _ (after-segments o) fit.segments last

pub returns-in_err-restore_shms-clause-damaged : goal.returns-in_err-restore_shms-clause-damaged
returns-in_err-restore_shms-clause-damaged c is o fit none are =
    let why = rw is at c.from_residual-in_err-restore_shms.ensures in
    let left = c.in_ok-next.ensures.whole o.mq.entries _ (after-mqs o) are fit.mqs in
    let last = c.in_ok-next-2.ensures.whole o.psem.entries _ (after-sems o) left fit.psems in
    let shms = c.in_ok-next-3.ensures.whole o.pshm.entries _ (after-segments o) last fit.segments in
    c.in_err-restore_shms.ensures.damaged (ap (λ e. Err e) (sym why.1)) o.shm.entries fit.shms none shms

pub returns-clause-ok : goal.returns-clause-ok
returns-clause-ok c =
    let ms = c.in_ok-next.ensures.ok in
    let ns = c.in_ok-next-2.ensures.ok in
    let gs = c.in_ok-next-3.ensures.ok in
    let hs = c.in_ok-restore_shms.ensures.ok in
    let o : LaterObjects = record {
      mq = record { next = 1; entries = ms.0 };
      psem = record { next = 1; entries = ns.0 };
      pshm = record { next = 1; entries = gs.0 };
      shm = record { next = 1; entries = hs.0 };
    } in
    let segments = gs.2 ∙ ap (λ (l : PlainObjects). map pshm_object gs.0 ++ l) hs.3 in
    let sems = ns.2 ∙ ap (λ (l : PlainObjects). map psem_object ns.0 ++ l) segments in (
      o,
      record { mqs = ms.1; psems = ns.1; segments = gs.1; shms = hs.1 },
      hs.2,
      ms.2 ∙ ap (λ (l : PlainObjects). map mq_object ms.0 ++ l) sems,
      hs.4 ∙ ap (λ (s : State × Limits). put_shms s (s.0.shm.entries ++ hs.0))
          (gs.3 ∙ ap (λ (s : State × Limits). put_segments s (s.0.pshm.entries ++ gs.0))
          (ns.3 ∙ ap (λ (s : State × Limits). put_psems s (s.0.psem.entries ++ ns.0)) ms.3)),
    )
