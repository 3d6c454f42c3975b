-- Shared memory segments, after shm_overview(7). A segment is a list of bytes. A truncation to a
-- length (ftruncate(2)) gives its first bytes up to this length, filled up to it with zeros. A read
-- and a write have a range that is within the segment: an offset, and how many bytes from there on.
use Rattle.std.specs.Prelude.{ℕ, ◌+◌, ◌-◌, nat_le, Bool, List, [], ◌++◌}
use Rattle.std.specs.Prelude.{length, replicate, take, drop}

-- its bytes
pub record Segment : Type 0 where
  pub bytes : List ℕ

-- a segment without bytes
abbrev pub empty_segment : Segment
empty_segment = record { bytes = [] }

-- the segment after a truncation to a length
abbrev pub truncated : ℕ → Segment → Segment
truncated n s = record { bytes = take n s.bytes ++ replicate (n - length s.bytes) 0 }

-- whether the range is within the segment
abbrev pub is_within : ℕ → ℕ → Segment → Bool
is_within offset count s = nat_le (offset + count) (length s.bytes)

-- the bytes of the range
abbrev pub part : ℕ → ℕ → Segment → List ℕ
part offset count s = take count (drop offset s.bytes)

-- the segment after these bytes were written at the offset
abbrev pub written : ℕ → List ℕ → Segment → Segment
written offset bytes s =
    record { bytes = take offset s.bytes ++ (bytes ++ drop (offset + length bytes) s.bytes) }
