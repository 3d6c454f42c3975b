-- How long a request may be.
use Rattle.std.specs.Prelude.{ℕ, ◌+◌, ◌-◌}

-- the least and the most bytes after the length of a frame: a serial and an opcode, and with fields
abbrev pub least_length : ℕ
least_length = 5

abbrev pub greatest_length : ℕ
greatest_length = 65792

-- the most bytes of a frame, its length with it
abbrev pub greatest_frame : ℕ
greatest_frame = 4 + greatest_length

-- the most bytes of the fields of a request, with the text after them
abbrev pub greatest_fields : ℕ
greatest_fields = greatest_length - least_length
