-- By how many milliseconds the clock of a device is ahead of the system's, if that is more than a second.
use Rattle.std.specs.Prelude.{ℕ, ◌-◌, nat_lt, if◌then◌else◌, Option, Some, None}

abbrev pub ahead_by : ℕ → ℕ → Option ℕ
ahead_by device system = if nat_lt 1000 (device - system) then Some (device - system) else None
