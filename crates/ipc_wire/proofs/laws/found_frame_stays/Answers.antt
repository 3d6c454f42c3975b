use Rattle.ipc_wire.proofs.Frames.{whole_stays, fault_stays}
use Rattle.ipc_wire.proofs.laws.found_frame_stays.Goals as goal

pub returns-clause-whole : goal.returns-clause-whole
returns-clause-whole c = whole_stays

pub returns-clause-fault : goal.returns-clause-fault
returns-clause-fault c = fault_stays
