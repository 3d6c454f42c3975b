use Rattle.std.proofs.Common.{arith}
use Rattle.ipc_base.proofs.CallerLemmas.{entry-at, entry-other, rising-entry}
use Rattle.ipc_state.specs.Descriptors.{lowest_unused}
use Rattle.ipc_state.proofs.Opening.{unused, one_more}
use Rattle.ipc_state.proofs.descriptors.opened_is_there.Goals as goal

pub returns-clause-rising : goal.returns-clause-rising
returns-clause-rising c table d high rising below =
    rising-entry 0 table high (lowest_unused table) d rising (omega arith) below (unused 0 table high rising)

pub returns-clause-there : goal.returns-clause-there
returns-clause-there c table d high rising = entry-at table (lowest_unused table) d (unused 0 table high rising)

pub returns-clause-others : goal.returns-clause-others
returns-clause-others c table d fd other = entry-other table (lowest_unused table) fd d other

pub returns-clause-one : goal.returns-clause-one
returns-clause-one c table d = one_more table (lowest_unused table) d
