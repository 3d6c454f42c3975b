use Rattle.std.proofs.Common.{FitsSigned, w32, rules}
use Rattle.std.proofs.lemmas.Int.{to_z-of_z}
use Rattle.ipc_wire.proofs.spelling.posix_parts.Goals as goal

pub returns-in-Close-clause-fields : goal.returns-in-Close-clause-fields
returns-in-Close-clause-fields c = rw c.in-Close.is c.spelled.ensures.fields

pub returns-in-MqOpen-clause-fields : goal.returns-in-MqOpen-clause-fields
returns-in-MqOpen-clause-fields c =
    let fits_maxmsg : FitsSigned w32 c.in-MqOpen.maxmsg = search rules in
    let fits_msgsize : FitsSigned w32 c.in-MqOpen.msgsize = search rules in
    rw c.in-MqOpen.is (rw (to_z-of_z w32 c.in-MqOpen.maxmsg fits_maxmsg, to_z-of_z w32 c.in-MqOpen.msgsize fits_msgsize) at c.spelled-in-MqOpen.ensures.fields)

pub returns-in-MqSend-clause-fields : goal.returns-in-MqSend-clause-fields
returns-in-MqSend-clause-fields c = rw c.in-MqSend.is c.spelled-in-MqSend.ensures.fields

pub returns-in-MqReceive-clause-fields : goal.returns-in-MqReceive-clause-fields
returns-in-MqReceive-clause-fields c = rw c.in-MqReceive.is c.spelled-in-MqReceive.ensures.fields

pub returns-in-MqNotify-clause-fields : goal.returns-in-MqNotify-clause-fields
returns-in-MqNotify-clause-fields c = rw c.in-MqNotify.is c.spelled-in-MqNotify.ensures.fields

pub returns-in-MqGetattr-clause-fields : goal.returns-in-MqGetattr-clause-fields
returns-in-MqGetattr-clause-fields c = rw c.in-MqGetattr.is c.spelled-in-MqGetattr.ensures.fields

pub returns-in-MqSetattr-clause-fields : goal.returns-in-MqSetattr-clause-fields
returns-in-MqSetattr-clause-fields c = rw c.in-MqSetattr.is c.spelled-in-MqSetattr.ensures.fields

pub returns-in-SemOpen-clause-fields : goal.returns-in-SemOpen-clause-fields
returns-in-SemOpen-clause-fields c = rw c.in-SemOpen.is c.spelled-in-SemOpen.ensures.fields

pub returns-in-SemPost-clause-fields : goal.returns-in-SemPost-clause-fields
returns-in-SemPost-clause-fields c = rw c.in-SemPost.is c.spelled-in-SemPost.ensures.fields

pub returns-in-SemWait-clause-fields : goal.returns-in-SemWait-clause-fields
returns-in-SemWait-clause-fields c = rw c.in-SemWait.is c.spelled-in-SemWait.ensures.fields

pub returns-in-SemTrywait-clause-fields : goal.returns-in-SemTrywait-clause-fields
returns-in-SemTrywait-clause-fields c = rw c.in-SemTrywait.is c.spelled-in-SemTrywait.ensures.fields

pub returns-in-SemGetvalue-clause-fields : goal.returns-in-SemGetvalue-clause-fields
returns-in-SemGetvalue-clause-fields c = rw c.in-SemGetvalue.is c.spelled-in-SemGetvalue.ensures.fields

pub returns-in-ShmOpen-clause-fields : goal.returns-in-ShmOpen-clause-fields
returns-in-ShmOpen-clause-fields c = rw c.in-ShmOpen.is c.spelled-in-ShmOpen.ensures.fields

pub returns-in-Ftruncate-clause-fields : goal.returns-in-Ftruncate-clause-fields
returns-in-Ftruncate-clause-fields c = rw c.in-Ftruncate.is c.spelled-in-Ftruncate.ensures.fields

pub returns-in-ShmRead-clause-fields : goal.returns-in-ShmRead-clause-fields
returns-in-ShmRead-clause-fields c = rw c.in-ShmRead.is c.spelled-in-ShmRead.ensures.fields

pub returns-in-ShmWrite-clause-fields : goal.returns-in-ShmWrite-clause-fields
returns-in-ShmWrite-clause-fields c = rw c.in-ShmWrite.is c.spelled-in-ShmWrite.ensures.fields

pub returns-in-ShmStat-clause-fields : goal.returns-in-ShmStat-clause-fields
returns-in-ShmStat-clause-fields c = rw c.in-ShmStat.is c.spelled-in-ShmStat.ensures.fields

pub returns-in-Close-clause-numbers : goal.returns-in-Close-clause-numbers
returns-in-Close-clause-numbers c = rw c.in-Close.is (search rules)

pub returns-in-MqOpen-clause-numbers : goal.returns-in-MqOpen-clause-numbers
returns-in-MqOpen-clause-numbers c = rw c.in-MqOpen.is (search rules)

pub returns-in-MqSend-clause-numbers : goal.returns-in-MqSend-clause-numbers
returns-in-MqSend-clause-numbers c = rw c.in-MqSend.is (search rules)

pub returns-in-MqReceive-clause-numbers : goal.returns-in-MqReceive-clause-numbers
returns-in-MqReceive-clause-numbers c = rw c.in-MqReceive.is (search rules)

pub returns-in-MqNotify-clause-numbers : goal.returns-in-MqNotify-clause-numbers
returns-in-MqNotify-clause-numbers c = rw c.in-MqNotify.is (search rules)

pub returns-in-MqGetattr-clause-numbers : goal.returns-in-MqGetattr-clause-numbers
returns-in-MqGetattr-clause-numbers c = rw c.in-MqGetattr.is (search rules)

pub returns-in-MqSetattr-clause-numbers : goal.returns-in-MqSetattr-clause-numbers
returns-in-MqSetattr-clause-numbers c = rw c.in-MqSetattr.is (search rules)

pub returns-in-SemOpen-clause-numbers : goal.returns-in-SemOpen-clause-numbers
returns-in-SemOpen-clause-numbers c = rw c.in-SemOpen.is (search rules)

pub returns-in-SemPost-clause-numbers : goal.returns-in-SemPost-clause-numbers
returns-in-SemPost-clause-numbers c = rw c.in-SemPost.is (search rules)

pub returns-in-SemWait-clause-numbers : goal.returns-in-SemWait-clause-numbers
returns-in-SemWait-clause-numbers c = rw c.in-SemWait.is (search rules)

pub returns-in-SemTrywait-clause-numbers : goal.returns-in-SemTrywait-clause-numbers
returns-in-SemTrywait-clause-numbers c = rw c.in-SemTrywait.is (search rules)

pub returns-in-SemGetvalue-clause-numbers : goal.returns-in-SemGetvalue-clause-numbers
returns-in-SemGetvalue-clause-numbers c = rw c.in-SemGetvalue.is (search rules)

pub returns-in-ShmOpen-clause-numbers : goal.returns-in-ShmOpen-clause-numbers
returns-in-ShmOpen-clause-numbers c = rw c.in-ShmOpen.is (search rules)

pub returns-in-Ftruncate-clause-numbers : goal.returns-in-Ftruncate-clause-numbers
returns-in-Ftruncate-clause-numbers c = rw c.in-Ftruncate.is (search rules)

pub returns-in-ShmRead-clause-numbers : goal.returns-in-ShmRead-clause-numbers
returns-in-ShmRead-clause-numbers c = rw c.in-ShmRead.is (search rules)

pub returns-in-ShmWrite-clause-numbers : goal.returns-in-ShmWrite-clause-numbers
returns-in-ShmWrite-clause-numbers c = rw c.in-ShmWrite.is (search rules)

pub returns-in-ShmStat-clause-numbers : goal.returns-in-ShmStat-clause-numbers
returns-in-ShmStat-clause-numbers c = rw c.in-ShmStat.is (search rules)
