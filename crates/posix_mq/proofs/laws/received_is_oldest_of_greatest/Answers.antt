use Rattle.std.proofs.lemmas.List.Quantifiers.{position-Some}
use Rattle.std.proofs.Common.{get_or}
use Rattle.posix_mq.specs.Queue.{is_of_greatest_priority}
use Rattle.posix_mq.proofs.Priorities.{greatest_above, below_greatest, next-some}
use Rattle.posix_mq.proofs.laws.received_is_oldest_of_greatest.Goals as goal

pub returns-clause-greatest : goal.returns-clause-greatest
returns-clause-greatest c messages at k d is inside =
    greatest_above messages (get_or messages at d) (position-Some (is_of_greatest_priority messages) messages at d is).1 k d inside

pub returns-clause-oldest : goal.returns-clause-oldest
returns-clause-oldest c messages at k d is before =
    let found = position-Some (is_of_greatest_priority messages) messages at d is in
    below_greatest messages (get_or messages k d) (get_or messages at d) found.1 (found.2 k before)

pub returns-clause-one : goal.returns-clause-one
returns-clause-one c messages some = next-some messages some
