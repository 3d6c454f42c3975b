use Rattle.sysv_sem.proofs.Trials.{Folds-done}
use Rattle.sysv_sem.proofs.laws.done_performs_each.Goals as goal

pub returns-clause-values : goal.returns-clause-values
returns-clause-values c values v held a operations h = (Folds-done values held operations 0 v a h).values_are

pub returns-clause-adjustments : goal.returns-clause-adjustments
returns-clause-adjustments c values v held a operations h = (Folds-done values held operations 0 v a h).adjustments_are
