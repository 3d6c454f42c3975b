use Rattle.std.proofs.Common.{FitsSigned, w32, w64, rules}
use Rattle.std.proofs.lemmas.Int.{to_z-of_z}
use Rattle.ipc_wire.proofs.spelling.call_parts.Goals as goal

pub returns-in-Msgget-clause-fields : goal.returns-in-Msgget-clause-fields
returns-in-Msgget-clause-fields c =
    let fits : FitsSigned w32 c.in-Msgget.key = search rules in
    rw c.in-Msgget.is (rw (to_z-of_z w32 c.in-Msgget.key fits) at c.spelled.ensures.fields)

pub returns-in-Msgsnd-clause-fields : goal.returns-in-Msgsnd-clause-fields
returns-in-Msgsnd-clause-fields c =
    let fits : FitsSigned w64 c.in-Msgsnd.mtype = search rules in
    rw c.in-Msgsnd.is (rw (to_z-of_z w64 c.in-Msgsnd.mtype fits) at c.spelled-in-Msgsnd.ensures.fields)

pub returns-in-Msgrcv-clause-fields : goal.returns-in-Msgrcv-clause-fields
returns-in-Msgrcv-clause-fields c =
    let fits : FitsSigned w64 c.in-Msgrcv.mtype = search rules in
    rw c.in-Msgrcv.is (rw (to_z-of_z w64 c.in-Msgrcv.mtype fits) at c.spelled-in-Msgrcv.ensures.fields)

pub returns-in-MsgctlStat-clause-fields : goal.returns-in-MsgctlStat-clause-fields
returns-in-MsgctlStat-clause-fields c = rw c.in-MsgctlStat.is c.spelled-in-MsgctlStat.ensures.fields

pub returns-in-MsgctlSet-clause-fields : goal.returns-in-MsgctlSet-clause-fields
returns-in-MsgctlSet-clause-fields c = rw c.in-MsgctlSet.is c.spelled-in-MsgctlSet.ensures.fields

pub returns-in-MsgctlRmid-clause-fields : goal.returns-in-MsgctlRmid-clause-fields
returns-in-MsgctlRmid-clause-fields c = rw c.in-MsgctlRmid.is c.spelled-in-MsgctlRmid.ensures.fields

pub returns-in-Semget-clause-fields : goal.returns-in-Semget-clause-fields
returns-in-Semget-clause-fields c =
    let fits_key : FitsSigned w32 c.in-Semget.key = search rules in
    let fits_nsems : FitsSigned w32 c.in-Semget.nsems = search rules in
    rw c.in-Semget.is (rw (to_z-of_z w32 c.in-Semget.key fits_key, to_z-of_z w32 c.in-Semget.nsems fits_nsems) at c.spelled-in-Semget.ensures.fields)

pub returns-in-SemctlGetVal-clause-fields : goal.returns-in-SemctlGetVal-clause-fields
returns-in-SemctlGetVal-clause-fields c = rw c.in-SemctlGetVal.is c.spelled-in-SemctlGetVal.ensures.fields

pub returns-in-SemctlGetPid-clause-fields : goal.returns-in-SemctlGetPid-clause-fields
returns-in-SemctlGetPid-clause-fields c = rw c.in-SemctlGetPid.is c.spelled-in-SemctlGetPid.ensures.fields

pub returns-in-SemctlSetVal-clause-fields : goal.returns-in-SemctlSetVal-clause-fields
returns-in-SemctlSetVal-clause-fields c =
    let fits_value : FitsSigned w32 c.in-SemctlSetVal.value = search rules in
    rw c.in-SemctlSetVal.is (rw (to_z-of_z w32 c.in-SemctlSetVal.value fits_value) at c.spelled-in-SemctlSetVal.ensures.fields)

pub returns-in-SemctlGetAll-clause-fields : goal.returns-in-SemctlGetAll-clause-fields
returns-in-SemctlGetAll-clause-fields c = rw c.in-SemctlGetAll.is c.spelled-in-SemctlGetAll.ensures.fields

pub returns-in-SemctlSetAll-clause-fields : goal.returns-in-SemctlSetAll-clause-fields
returns-in-SemctlSetAll-clause-fields c = rw c.in-SemctlSetAll.is (rw c.bytes-in-SemctlSetAll.ensures.bytes at c.spelled-in-SemctlSetAll.ensures.fields)

pub returns-in-SemctlStat-clause-fields : goal.returns-in-SemctlStat-clause-fields
returns-in-SemctlStat-clause-fields c = rw c.in-SemctlStat.is c.spelled-in-SemctlStat.ensures.fields

pub returns-in-SemctlSet-clause-fields : goal.returns-in-SemctlSet-clause-fields
returns-in-SemctlSet-clause-fields c = rw c.in-SemctlSet.is c.spelled-in-SemctlSet.ensures.fields

pub returns-in-SemctlRmid-clause-fields : goal.returns-in-SemctlRmid-clause-fields
returns-in-SemctlRmid-clause-fields c = rw c.in-SemctlRmid.is c.spelled-in-SemctlRmid.ensures.fields

pub returns-in-Msgget-clause-numbers : goal.returns-in-Msgget-clause-numbers
returns-in-Msgget-clause-numbers c = rw c.in-Msgget.is (search rules)

pub returns-in-Msgsnd-clause-numbers : goal.returns-in-Msgsnd-clause-numbers
returns-in-Msgsnd-clause-numbers c = rw c.in-Msgsnd.is (search rules)

pub returns-in-Msgrcv-clause-numbers : goal.returns-in-Msgrcv-clause-numbers
returns-in-Msgrcv-clause-numbers c = rw c.in-Msgrcv.is (search rules)

pub returns-in-MsgctlStat-clause-numbers : goal.returns-in-MsgctlStat-clause-numbers
returns-in-MsgctlStat-clause-numbers c = rw c.in-MsgctlStat.is (search rules)

pub returns-in-MsgctlSet-clause-numbers : goal.returns-in-MsgctlSet-clause-numbers
returns-in-MsgctlSet-clause-numbers c = rw c.in-MsgctlSet.is (search rules)

pub returns-in-MsgctlRmid-clause-numbers : goal.returns-in-MsgctlRmid-clause-numbers
returns-in-MsgctlRmid-clause-numbers c = rw c.in-MsgctlRmid.is (search rules)

pub returns-in-Semget-clause-numbers : goal.returns-in-Semget-clause-numbers
returns-in-Semget-clause-numbers c = rw c.in-Semget.is (search rules)

pub returns-in-SemctlGetVal-clause-numbers : goal.returns-in-SemctlGetVal-clause-numbers
returns-in-SemctlGetVal-clause-numbers c = rw c.in-SemctlGetVal.is (search rules)

pub returns-in-SemctlGetPid-clause-numbers : goal.returns-in-SemctlGetPid-clause-numbers
returns-in-SemctlGetPid-clause-numbers c = rw c.in-SemctlGetPid.is (search rules)

pub returns-in-SemctlSetVal-clause-numbers : goal.returns-in-SemctlSetVal-clause-numbers
returns-in-SemctlSetVal-clause-numbers c = rw c.in-SemctlSetVal.is (search rules)

pub returns-in-SemctlGetAll-clause-numbers : goal.returns-in-SemctlGetAll-clause-numbers
returns-in-SemctlGetAll-clause-numbers c = rw c.in-SemctlGetAll.is (search rules)

pub returns-in-SemctlSetAll-clause-numbers : goal.returns-in-SemctlSetAll-clause-numbers
returns-in-SemctlSetAll-clause-numbers c = rw c.in-SemctlSetAll.is (search rules)

pub returns-in-SemctlStat-clause-numbers : goal.returns-in-SemctlStat-clause-numbers
returns-in-SemctlStat-clause-numbers c = rw c.in-SemctlStat.is (search rules)

pub returns-in-SemctlSet-clause-numbers : goal.returns-in-SemctlSet-clause-numbers
returns-in-SemctlSet-clause-numbers c = rw c.in-SemctlSet.is (search rules)

pub returns-in-SemctlRmid-clause-numbers : goal.returns-in-SemctlRmid-clause-numbers
returns-in-SemctlRmid-clause-numbers c = rw c.in-SemctlRmid.is (search rules)

pub returns-in-SemctlGetNcnt-clause-fields : goal.returns-in-SemctlGetNcnt-clause-fields
returns-in-SemctlGetNcnt-clause-fields c = rw c.in-SemctlGetNcnt.is c.spelled-in-SemctlGetNcnt.ensures.fields

pub returns-in-SemctlGetNcnt-clause-numbers : goal.returns-in-SemctlGetNcnt-clause-numbers
returns-in-SemctlGetNcnt-clause-numbers c = rw c.in-SemctlGetNcnt.is (search rules)

pub returns-in-SemctlGetZcnt-clause-fields : goal.returns-in-SemctlGetZcnt-clause-fields
returns-in-SemctlGetZcnt-clause-fields c = rw c.in-SemctlGetZcnt.is c.spelled-in-SemctlGetZcnt.ensures.fields

pub returns-in-SemctlGetZcnt-clause-numbers : goal.returns-in-SemctlGetZcnt-clause-numbers
returns-in-SemctlGetZcnt-clause-numbers c = rw c.in-SemctlGetZcnt.is (search rules)

pub returns-in-Semop-clause-fields : goal.returns-in-Semop-clause-fields
returns-in-Semop-clause-fields c = rw c.in-Semop.is (rw c.bytes.ensures.bytes at c.spelled-in-Semop.ensures.fields)

pub returns-in-Semop-clause-numbers : goal.returns-in-Semop-clause-numbers
returns-in-Semop-clause-numbers c = rw c.in-Semop.is (search rules)

pub returns-in-Shmget-clause-fields : goal.returns-in-Shmget-clause-fields
returns-in-Shmget-clause-fields c =
    let fits : FitsSigned w32 c.in-Shmget.key = search rules in
    rw c.in-Shmget.is (rw (to_z-of_z w32 c.in-Shmget.key fits) at c.spelled-in-Shmget.ensures.fields)

pub returns-in-Shmget-clause-numbers : goal.returns-in-Shmget-clause-numbers
returns-in-Shmget-clause-numbers c = rw c.in-Shmget.is (search rules)

pub returns-in-Shmat-clause-fields : goal.returns-in-Shmat-clause-fields
returns-in-Shmat-clause-fields c = rw c.in-Shmat.is c.spelled-in-Shmat.ensures.fields

pub returns-in-Shmat-clause-numbers : goal.returns-in-Shmat-clause-numbers
returns-in-Shmat-clause-numbers c = rw c.in-Shmat.is (search rules)

pub returns-in-Shmdt-clause-fields : goal.returns-in-Shmdt-clause-fields
returns-in-Shmdt-clause-fields c = rw c.in-Shmdt.is c.spelled-in-Shmdt.ensures.fields

pub returns-in-Shmdt-clause-numbers : goal.returns-in-Shmdt-clause-numbers
returns-in-Shmdt-clause-numbers c = rw c.in-Shmdt.is (search rules)

pub returns-in-ShmctlStat-clause-fields : goal.returns-in-ShmctlStat-clause-fields
returns-in-ShmctlStat-clause-fields c = rw c.in-ShmctlStat.is c.spelled-in-ShmctlStat.ensures.fields

pub returns-in-ShmctlStat-clause-numbers : goal.returns-in-ShmctlStat-clause-numbers
returns-in-ShmctlStat-clause-numbers c = rw c.in-ShmctlStat.is (search rules)

pub returns-in-ShmctlSet-clause-fields : goal.returns-in-ShmctlSet-clause-fields
returns-in-ShmctlSet-clause-fields c = rw c.in-ShmctlSet.is c.spelled-in-ShmctlSet.ensures.fields

pub returns-in-ShmctlSet-clause-numbers : goal.returns-in-ShmctlSet-clause-numbers
returns-in-ShmctlSet-clause-numbers c = rw c.in-ShmctlSet.is (search rules)

pub returns-in-ShmctlRmid-clause-fields : goal.returns-in-ShmctlRmid-clause-fields
returns-in-ShmctlRmid-clause-fields c = rw c.in-ShmctlRmid.is c.spelled-in-ShmctlRmid.ensures.fields

pub returns-in-ShmctlRmid-clause-numbers : goal.returns-in-ShmctlRmid-clause-numbers
returns-in-ShmctlRmid-clause-numbers c = rw c.in-ShmctlRmid.is (search rules)

pub returns-in-AttachedRead-clause-fields : goal.returns-in-AttachedRead-clause-fields
returns-in-AttachedRead-clause-fields c = rw c.in-AttachedRead.is c.spelled-in-AttachedRead.ensures.fields

pub returns-in-AttachedRead-clause-numbers : goal.returns-in-AttachedRead-clause-numbers
returns-in-AttachedRead-clause-numbers c = rw c.in-AttachedRead.is (search rules)

pub returns-in-AttachedWrite-clause-fields : goal.returns-in-AttachedWrite-clause-fields
returns-in-AttachedWrite-clause-fields c = rw c.in-AttachedWrite.is c.spelled-in-AttachedWrite.ensures.fields

pub returns-in-AttachedWrite-clause-numbers : goal.returns-in-AttachedWrite-clause-numbers
returns-in-AttachedWrite-clause-numbers c = rw c.in-AttachedWrite.is (search rules)
