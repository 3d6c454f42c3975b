-- The state with a part more that was read. A state is rebuilt part by part, and is sound only as a whole.
use Rattle.std.specs.Prelude.{ℕ, List, nat_eq}
use Rattle.std.specs.FinMap as fin
use Rattle.ipc_base.specs.Table.{with_value, seen_as}
use Rattle.sem_undo.specs.Undo.{key_of}
use Rattle.sem_undo.specs.declared.undo.UndoRow.{UndoRow}
use Rattle.posix_mq.specs.Queue.{Queue as Mq}
use Rattle.shm_segment.specs.Segment.{Segment}
use Rattle.shm_segment.specs.SysSegment.{SysSegment}
use Rattle.sysv_msg.specs.Queue.{Queue}
use Rattle.sysv_sem.specs.Set.{Set}
use Rattle.ipc_state.specs.declared.processes.Process.{Process}
use Rattle.ipc_state.specs.declared.state.Numbers.{Numbers}
use Rattle.ipc_state.specs.Keyed.{KeyedEntry}
use Rattle.ipc_state.specs.Named.{NamedEntry}
use Rattle.ipc_state.specs.Numbered.{with_last}
use Rattle.ipc_state.specs.State.{State, undo_of}
use Rattle.ipc_state.specs.Waiting.{PlainWaiting}

-- with this clock and these next numbers
abbrev pub with_numbers : State → Numbers → State
with_numbers s n =
    record s {
      clock = n.clock.0;
      processes = record { next = n.next_pid; entries = s.processes.entries };
      msg = record { next = n.next_msg_queue; entries = s.msg.entries };
      semset = record { next = n.next_semset; entries = s.semset.entries };
      shm = record { next = n.next_shm; entries = s.shm.entries };
      mq = record { next = n.next_mq; entries = s.mq.entries };
      psem = record { next = n.next_psem; entries = s.psem.entries };
      pshm = record { next = n.next_pshm; entries = s.pshm.entries };
    }

-- with a process at the end
abbrev pub with_last_process : State → ℕ → Process → State
with_last_process s pid p = record s { processes = with_last s.processes pid p }

-- each process has adjustments, which are none
abbrev pub with_no_adjustments : State → State
with_no_adjustments s = record s { undo = seen_as (λ p. fin.empty) s.processes.entries }

-- with an adjustment of a process, if it is there
abbrev pub with_adjustment : State → ℕ → UndoRow → State
with_adjustment s pid row =
    record s { undo = with_value nat_eq s.undo pid (fin.insert (undo_of s pid) (key_of row) row.adjustment) }

-- with these calls waiting
abbrev pub with_waits : State → List PlainWaiting → State
with_waits s ws = record s { wait = ws }

-- with a queue at the end
abbrev pub with_last_msg_queue : State → ℕ → KeyedEntry Queue → State
with_last_msg_queue s id e = record s { msg = with_last s.msg id e }

-- with a semaphore set at the end
abbrev pub with_last_semset : State → ℕ → KeyedEntry Set → State
with_last_semset s id e = record s { semset = with_last s.semset id e }

-- with a System V segment at the end
abbrev pub with_last_shm : State → ℕ → KeyedEntry SysSegment → State
with_last_shm s id e = record s { shm = with_last s.shm id e }

-- with a POSIX queue at the end
abbrev pub with_last_mq : State → ℕ → NamedEntry Mq → State
with_last_mq s n e = record s { mq = with_last s.mq n e }

-- with a named semaphore at the end
abbrev pub with_last_psem : State → ℕ → NamedEntry ℕ → State
with_last_psem s n e = record s { psem = with_last s.psem n e }

-- with a segment at the end
abbrev pub with_last_pshm : State → ℕ → NamedEntry Segment → State
with_last_pshm s n e = record s { pshm = with_last s.pshm n e }
