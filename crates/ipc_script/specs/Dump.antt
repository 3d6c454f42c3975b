-- What a dump writes: a line for each object, as ipcs(1) has one.
use Rattle.std.specs.Prelude.{ℕ, ℤ, ◌-◌, ◌==◌, Bool, false, not, ◌&&◌, if◌then◌else◌}
use Rattle.std.specs.Prelude.{List, [], ◌∷◌, ◌++◌, length, replicate, codes}
use Rattle.std.specs.List.{flat_map}
use Rattle.std.specs.Char.{is_ascii_graphic}
use Rattle.std.specs.Fmt.{decimal, signed_decimal, digits}
use Rattle.ipc_engine.specs.Listing.{PlainRow}
use Rattle.ipc_engine.specs.declared.listing.Row.TheVariants.{Msg, Sem, Pmq, Psm, Shm, Seg}

-- A text at the right end of so many places: spaces stand before it. A text that is longer stands
-- as it is.
abbrev pub right_in : ℕ → List ℕ → List ℕ
right_in width text = replicate (width - length text) 32 ++ text

-- a number in ten places
abbrev pub number_text : ℕ → List ℕ
number_text number = right_in 10 (decimal number)

-- a key, which has a sign, in eleven places
abbrev pub key_text : ℤ → List ℕ
key_text key = right_in 11 (signed_decimal key)

-- a number in a base, of so many digits at least: zeros stand before it
abbrev pub digits_in : (base width number : ℕ) → List ℕ
digits_in base width number = let text = digits base false number in replicate (width - length text) 48 ++ text

-- a mode: four octal digits at least
abbrev pub mode_text : ℕ → List ℕ
mode_text mode = digits_in 8 4 mode

-- a character that prints, and is neither a space nor a backslash
abbrev pub is_plain : ℕ → Bool
is_plain byte = is_ascii_graphic byte && not (byte == 92)

-- a byte of a name: as it is, if it is such a character; else a backslash, an x and two hexadecimal digits
abbrev pub byte_text : ℕ → List ℕ
byte_text byte = if is_plain byte then byte ∷ [] else codes "\\x" ++ digits_in 16 2 byte

abbrev pub name_text : List ℕ → List ℕ
name_text name = flat_map byte_text name

-- A queue: its identifier, key, mode, owner and group, and how many bytes and messages it holds. A semaphore set: its
-- identifier, key, mode, owner and group, and how many semaphores it has. A POSIX queue: its mode, owner and group, how
-- many messages it holds, how many it may hold, how many bytes each of them may have, and its name. A named semaphore:
-- its mode, owner and group, its value, and its name. A segment: its mode, owner and group, how many bytes it has, and
-- its name. A System V segment: its identifier, key, mode, owner and group, how many bytes it has, and how many have it
-- attached.
abbrev pub row_line : PlainRow → List ℕ
row_line (Msg id key mode uid gid bytes messages) =
    codes "msg " ++ number_text id.0 ++ codes " " ++ key_text key
    ++ codes " " ++ mode_text mode ++ codes " " ++ number_text uid ++ codes " " ++ number_text gid
    ++ codes " " ++ number_text bytes ++ codes " " ++ number_text messages ++ codes "\n"
row_line (Sem id key mode uid gid nsems) =
    codes "sem " ++ number_text id.0 ++ codes " " ++ key_text key
    ++ codes " " ++ mode_text mode ++ codes " " ++ number_text uid ++ codes " " ++ number_text gid
    ++ codes " " ++ number_text nsems ++ codes "\n"
row_line (Pmq mode uid gid messages maxmsg msgsize name) =
    codes "pmq " ++ mode_text mode ++ codes " " ++ number_text uid ++ codes " " ++ number_text gid
    ++ codes " " ++ number_text messages ++ codes " " ++ number_text maxmsg ++ codes " " ++ number_text msgsize
    ++ codes " " ++ name_text name ++ codes "\n"
row_line (Psm mode uid gid value name) =
    codes "psm " ++ mode_text mode ++ codes " " ++ number_text uid ++ codes " " ++ number_text gid
    ++ codes " " ++ number_text value ++ codes " " ++ name_text name ++ codes "\n"
row_line (Shm mode uid gid bytes name) =
    codes "shm " ++ mode_text mode ++ codes " " ++ number_text uid ++ codes " " ++ number_text gid
    ++ codes " " ++ number_text bytes ++ codes " " ++ name_text name ++ codes "\n"
row_line (Seg id key mode uid gid bytes attachments) =
    codes "seg " ++ number_text id.0 ++ codes " " ++ key_text key
    ++ codes " " ++ mode_text mode ++ codes " " ++ number_text uid ++ codes " " ++ number_text gid
    ++ codes " " ++ number_text bytes ++ codes " " ++ number_text attachments ++ codes "\n"

-- the line of each row
abbrev pub dump_text : List PlainRow → List ℕ
dump_text rows = flat_map row_line rows
