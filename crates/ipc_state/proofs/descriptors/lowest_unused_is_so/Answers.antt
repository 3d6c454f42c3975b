use Rattle.std.proofs.Common.{arith}
use Rattle.ipc_state.proofs.Opening.{few, unused, in_use}
use Rattle.ipc_state.proofs.descriptors.lowest_unused_is_so.Goals as goal

pub returns-clause-unused : goal.returns-clause-unused
returns-clause-unused c = unused 0

pub returns-clause-lowest : goal.returns-clause-lowest
returns-clause-lowest c table fd below = in_use 0 table fd (omega arith) below

pub returns-clause-few : goal.returns-clause-few
returns-clause-few c table most fewer = omega (arith, few 0 table)
