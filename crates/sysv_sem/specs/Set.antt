-- Semaphore sets, after semctl(2): of each semaphore its value and who changed it last, and of the set when the last
-- semop(2) was performed, and the last change by semctl(2).
use Rattle.std.specs.Prelude.{ℕ, ℤ, min, List, [], ◌∷◌, ◌++◌, length, map, replicate, slice_index, slice_set}
use Rattle.std.specs.List.{fold}
use Rattle.ipc_base.specs.declared.identity.Pid.{Pid}
use Rattle.sysv_sem.specs.declared.operation.Operation.{Operation}
use Rattle.sysv_sem.specs.declared.set.SemStat.{SemStat}
use Rattle.sysv_sem.specs.declared.set.Semaphore.{Semaphore}
use Rattle.sysv_sem.specs.Operation.{most_value, value_after}

-- its semaphores, by their number; 0 for never
pub record Set : Type 0 where
  pub semaphores : List Semaphore
  pub otime : ℕ
  pub ctime : ℕ

-- of each its value, and its sempid (0 for nobody)
abbrev pub values_of : Set → List ℕ
values_of s = map (λ x. x.value) s.semaphores

abbrev pub pids_of : Set → List Pid
pids_of s = map (λ x. x.pid) s.semaphores

-- the semaphores that have these
abbrev pub semaphores_in : List ℕ → List Pid → List Semaphore
semaphores_in [] pids = []
semaphores_in (v ∷ values) [] = []
semaphores_in (v ∷ values) (p ∷ pids) = record { value = v; pid = p } ∷ semaphores_in values pids

abbrev pub new_set : ℕ → ℕ → Set
new_set nsems ctime =
    record { semaphores = replicate nsems (record { value = 0; pid = record { 0 = 0 } }); otime = 0; ctime = ctime }

-- a set without semaphores that has these times
abbrev pub empty_set : ℕ → ℕ → Set
empty_set otime ctime = record { semaphores = []; otime = otime; ctime = ctime }

-- a set with one semaphore more, at the end
abbrev pub with_semaphore : Set → Semaphore → Set
with_semaphore s x = record s { semaphores = s.semaphores ++ x ∷ [] }

-- a process is the last that changed the semaphore that an operation names
abbrev pub marked : Pid → List Pid → Operation → List Pid
marked pid pids o = slice_set pids o.num pid

-- the set after this process performed the operations at this moment, and these are the values after them
abbrev pub carried : Set → List ℕ → List Operation → Pid → ℕ → Set
carried s values operations pid moment =
    record s { semaphores = semaphores_in values (fold (marked pid) (pids_of s) operations); otime = moment }

-- the set after this process set one value, or all, at this moment
abbrev pub with_value : Set → ℕ → ℕ → Pid → ℕ → Set
with_value s num value pid moment =
    record s { semaphores = slice_set s.semaphores num (record { value = value; pid = pid }); ctime = moment }

abbrev pub with_values : Set → List ℕ → Pid → ℕ → Set
with_values s values pid moment =
    record s { semaphores = map (λ v. record { value = v; pid = pid }) values; ctime = moment }

-- the set after IPC_SET at this moment
abbrev pub changed : Set → ℕ → Set
changed s moment = record s { ctime = moment }

-- the set after the exit of this process, which had this adjustment there; a value stays within its range, and no time
-- is noted
abbrev pub after_exit : Set → ℕ → ℤ → Pid → Set
after_exit s num adjustment pid =
    record s {
      semaphores = slice_set s.semaphores num (record {
        value = min (value_after (slice_index (values_of s) num) adjustment) most_value;
        pid = pid;
      });
    }

-- the numbers of a set that semctl(2) tells
abbrev pub stat_of : Set → SemStat
stat_of s = record { nsems = length s.semaphores; otime = record { 0 = s.otime }; ctime = record { 0 = s.ctime } }
