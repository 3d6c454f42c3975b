-- The lines of the definitions, from those of the code.
use Rattle.std.specs.Prelude.{ℕ, List, [], Option, Some, None, unwrap_or}
use Rattle.std.specs.Borrow.{Bor}
use Rattle.ipc_script.specs.declared.digits.Hex.{Hex}
use Rattle.ipc_script.specs.declared.line.Line.{Line}
use Rattle.ipc_script.specs.declared.line.Line.TheVariants as lines
use Rattle.ipc_script.specs.Line.{PlainLine, Open, Data, End, Tick, Save, Stop, words_of, bytes_of_hex}

-- the bytes that the digits spell
abbrev pub hex_bytes : Hex → List ℕ
hex_bytes hex = unwrap_or (bytes_of_hex hex.digits.now) []

-- a line as the definitions have it: the bytes in place of their digits
abbrev pub plain_line : Line → PlainLine
plain_line (lines.Open conn) = Open conn
plain_line (lines.Data moment conn hex) = Data moment conn (hex_bytes hex)
plain_line (lines.End moment conn) = End moment conn
plain_line (lines.Tick moment) = Tick moment
plain_line lines.Save = Save
plain_line lines.Stop = Stop

-- the words of what stands after a space, if there is one
abbrev pub words_after : Option (Bor (List ℕ)) → List (List ℕ)
words_after None = []
words_after (Some rest) = words_of rest.now
