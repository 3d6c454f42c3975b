use Rattle.sysv_msg.proofs.CallerLemmas.{pick-removed}
use Rattle.sysv_msg.proofs.laws.receive_leaves_nothing_to_pick.Goals as goal

pub returns : goal.returns
returns c messages type except at none = pick-removed messages type except at none
