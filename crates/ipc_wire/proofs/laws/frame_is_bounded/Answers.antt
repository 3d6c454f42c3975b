use Rattle.ipc_wire.proofs.Frames.{first_takes, waiting_short, missing_some, whole_last}
use Rattle.ipc_wire.proofs.laws.frame_is_bounded.Goals as goal

pub returns-clause-whole : goal.returns-clause-whole
returns-clause-whole c = first_takes

pub returns-clause-waiting : goal.returns-clause-waiting
returns-clause-waiting c = waiting_short

pub returns-clause-last : goal.returns-clause-last
returns-clause-last c = whole_last

pub returns-clause-missing : goal.returns-clause-missing
returns-clause-missing c = missing_some
