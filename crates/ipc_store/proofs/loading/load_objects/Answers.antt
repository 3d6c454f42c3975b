-- The objects are none, or stand for no state.
use Rattle.std.proofs.Common.{inl, inr, Err, refl, ap, ◌∙◌}
use Rattle.ipc_disk.proofs.CallerLemmas.{OnlyReads-ok}
use Rattle.ipc_store.proofs.Loaded.{OnlyReads-never}
use Rattle.ipc_store.proofs.Refusals.{passed}
use Rattle.ipc_store.specs.View.{of_load_error}
use Rattle.ipc_store.proofs.Faults.{loaded-damage, ok-device, loaded-device}
use Rattle.ipc_store.proofs.loading.load_objects.Goals as goal

pub returns-in-Ok-clause-base : goal.returns-in-Ok-clause-base
returns-in-Ok-clause-base g c =
    (c.in_ok-checkpoint.objects, c.in-Ok.ensures.stands, c.in_ok-checkpoint.ensures.free, c.in_ok-checkpoint.ensures.matches)

pub returns-in-Ok-clause-there : goal.returns-in-Ok-clause-there
returns-in-Ok-clause-there g c = (c.in_ok-checkpoint.objects, c.in-Ok.ensures.stands, c.in_ok-checkpoint.ensures.holds)

pub returns-in_err-checkpoint-clause-refused : goal.returns-in_err-checkpoint-clause-refused
returns-in_err-checkpoint-clause-refused g c =
    passed _ c.from_residual.result (of_load_error c.in_err-checkpoint.field-0.0) c.from_residual.ensures.1
    (loaded-damage c.in_err-checkpoint.field-0.0 _
    (λ sector is honest. inl (record {
      none = c.in_err-checkpoint.ensures.damaged sector (ap Err is) honest;
      first = c.in_err-checkpoint.ensures.first sector (ap Err is) honest;
    })))

pub returns-clause-refused : goal.returns-clause-refused
returns-clause-refused g c = λ honest.
    inr (record {
      epoch = _;
      objects = c.in_ok-checkpoint.objects;
      there = c.in_ok-checkpoint.ensures.holds honest;
      none = c.engine_of.ensures.damaged (c.in-Err-Unsound.is ∙ ap Err c.in-Err-Unsound.field-0-is);
      at = refl;
    })

pub returns-in-Ok-clause-reads : goal.returns-in-Ok-clause-reads
returns-in-Ok-clause-reads g c = OnlyReads-never (ok-device _) (OnlyReads-ok (loaded-device c.load.result _ c.in_ok-checkpoint.was) c.load.ensures.reads)
