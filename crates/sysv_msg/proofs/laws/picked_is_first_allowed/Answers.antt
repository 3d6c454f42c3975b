use Rattle.std.proofs.Common.{pos, []}
use Rattle.std.proofs.lemmas.List.Quantifiers.{position-Some}
use Rattle.sysv_msg.specs.Queue.{PlainMessage, is_allowed}
use Rattle.sysv_msg.proofs.Lists.{position-None}
use Rattle.sysv_msg.proofs.laws.picked_is_first_allowed.Goals as goal

pub returns-clause-within : goal.returns-clause-within
returns-clause-within c messages type except at h =
    let d : PlainMessage = record { mtype = pos 0; text = [] } in
    (position-Some (is_allowed messages type except) messages at d h).0

pub returns-clause-allowed : goal.returns-clause-allowed
returns-clause-allowed c messages type except at d h = (position-Some (is_allowed messages type except) messages at d h).1

pub returns-clause-first : goal.returns-clause-first
returns-clause-first c messages type except at k d h before = (position-Some (is_allowed messages type except) messages at d h).2 k before

pub returns-clause-none : goal.returns-clause-none
returns-clause-none c messages type except k d h inside = position-None (is_allowed messages type except) messages k d h inside
