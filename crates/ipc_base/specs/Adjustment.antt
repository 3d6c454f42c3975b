-- How far an adjustment of a process at a semaphore may go (semop(2), SEM_UNDO): what an operation is judged by, and
-- what is kept of it.
use Rattle.std.specs.Prelude.{ℤ, pos, negsuc, int_le, Bool, ◌&&◌}

-- whether an adjustment may be so much (negsuc n is -(n + 1))
abbrev pub is_adjustment : ℤ → Bool
is_adjustment a = int_le (negsuc 32766) a && int_le a (pos 32767)
