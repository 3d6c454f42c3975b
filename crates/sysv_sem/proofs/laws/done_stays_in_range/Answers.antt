use Rattle.sysv_sem.proofs.Trials.{Folds-done, all-done}
use Rattle.sysv_sem.proofs.laws.done_stays_in_range.Goals as goal

pub returns-clause-values : goal.returns-clause-values
returns-clause-values c values v held a operations h = all-done values v held a operations h

pub returns-clause-adjustments : goal.returns-clause-adjustments
returns-clause-adjustments c values v held a operations n h = (Folds-done values held operations 0 v a h).in_range n
