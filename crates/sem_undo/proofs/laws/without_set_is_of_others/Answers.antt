use Rattle.std.proofs.Common.{not, ◌==◌}
use Rattle.sem_undo.proofs.Tables.{retained_not, retained_all, not_same, same_not}
use Rattle.sem_undo.proofs.laws.without_set_is_of_others.Goals as goal

pub returns-clause-gone : goal.returns-clause-gone
returns-clause-gone c u set k e = retained_not u (λ q. not (q.0 == set)) k (same_not k.0 set e)

pub returns-clause-others : goal.returns-clause-others
returns-clause-others c u set k ne = retained_all u (λ q. not (q.0 == set)) k (not_same k.0 set ne)
