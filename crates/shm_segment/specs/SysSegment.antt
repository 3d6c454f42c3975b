-- System V shared memory segments, after shmop(2) and shmctl(2). A segment is a list of bytes, as long as it was made.
-- It has three moments, 0 for never: when it was attached last, when it was detached last, and when it was made or
-- changed by shmctl(2). One that is marked is destroyed when nobody has it attached.
use Rattle.std.specs.Prelude.{ℕ, Bool, true, false, List, length, replicate}
use Rattle.ipc_base.specs.declared.identity.Pid.{Pid}
use Rattle.shm_segment.specs.Segment.{Segment, is_within, part as part_of, written as written_to}
use Rattle.shm_segment.specs.declared.sys_segment.ShmStat.{ShmStat}

-- its bytes, its moments, who made it and who attached or detached it last (0 for nobody), and whether it is marked
pub record SysSegment : Type 0 where
  pub memory : Segment
  pub atime : ℕ
  pub dtime : ℕ
  pub ctime : ℕ
  pub cpid : Pid
  pub lpid : Pid
  pub is_marked : Bool

-- a segment of so many bytes, each 0, which this process makes at this moment
abbrev pub new_segment : ℕ → Pid → ℕ → SysSegment
new_segment size cpid moment =
    record {
      memory = record { bytes = replicate size 0 };
      atime = 0;
      dtime = 0;
      ctime = moment;
      cpid = cpid;
      lpid = record { 0 = 0 };
      is_marked = false;
    }

-- the segment as one that this process makes at this moment, of the bytes that it has
abbrev pub renewed : SysSegment → Pid → ℕ → SysSegment
renewed s cpid moment = record (new_segment 0 cpid moment) { memory = s.memory }

-- the segment after this process attached it, or detached it, at this moment
abbrev pub attached : SysSegment → Pid → ℕ → SysSegment
attached s pid moment = record s { atime = moment; lpid = pid }

abbrev pub detached : SysSegment → Pid → ℕ → SysSegment
detached s pid moment = record s { dtime = moment; lpid = pid }

-- the segment after IPC_RMID, which notes no moment, and after IPC_SET at this moment
abbrev pub marked : SysSegment → SysSegment
marked s = record s { is_marked = true }

abbrev pub changed : SysSegment → ℕ → SysSegment
changed s moment = record s { ctime = moment }

-- the segment after these bytes were written at the offset
abbrev pub written : ℕ → List ℕ → SysSegment → SysSegment
written offset bytes s = record s { memory = written_to offset bytes s.memory }

-- the numbers of a segment that shmctl(2) tells, but for how many have it attached
abbrev pub stat_of : SysSegment → ShmStat
stat_of s =
    record {
      size = length s.memory.bytes;
      atime = record { 0 = s.atime };
      dtime = record { 0 = s.dtime };
      ctime = record { 0 = s.ctime };
      cpid = s.cpid;
      lpid = s.lpid;
      is_marked = s.is_marked;
    }
