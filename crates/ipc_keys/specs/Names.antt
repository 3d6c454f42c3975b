-- Which names there may be (mq_overview(7), sem_overview(7), shm_overview(7)): a slash, and then one or more bytes,
-- none of them a slash or 0. What is wrong with a queue's name is told apart; any other wrong form is EINVAL. A name
-- of the right form may still be too long.
use Rattle.std.specs.Prelude.{ℕ, ◌==◌, nat_lt, Bool, false, not, ◌&&◌, ◌||◌, if◌then◌else◌, List, [], ◌∷◌, length, drop}
use Rattle.std.specs.Prelude.{Option, Some, None, Result, Ok, Err}
use Rattle.std.specs.List.{list_any}
use Rattle.std.specs.Str.{bytes_eq}
use Rattle.ipc_base.specs.declared.errno.Errno.{Errno}
use Rattle.ipc_base.specs.declared.errno.Errno.TheVariants.{EINVAL, ENOENT, EACCES, ENAMETOOLONG}
use Rattle.ipc_keys.specs.declared.check.NameKind.{NameKind}
use Rattle.ipc_keys.specs.declared.check.NameKind.TheVariants.{Mq, Psem, Pshm}

-- no bytes are no name
abbrev pub is_none : List ℕ → Bool
is_none name = bytes_eq name []

-- the byte of '/'
abbrev pub slash : ℕ
slash = 47

abbrev pub has_byte : ℕ → List ℕ → Bool
has_byte byte bytes = list_any (λ b. b == byte) bytes

abbrev pub begins_with_slash : List ℕ → Bool
begins_with_slash [] = false
begins_with_slash (b ∷ bytes) = b == slash

-- what is wrong with the form of a queue's name
abbrev pub queue_fault : List ℕ → Option Errno
queue_fault name =
    if not (begins_with_slash name) || has_byte 0 name then Some EINVAL
    else if length name == 1 then Some ENOENT
    else if has_byte slash (drop 1 name) then Some EACCES
    else None

-- what is wrong with the form of another name
abbrev pub form_fault : List ℕ → Option Errno
form_fault name =
    if begins_with_slash name && nat_lt 1 (length name) && not (has_byte 0 name) && not (has_byte slash (drop 1 name))
    then None
    else Some EINVAL

abbrev pub fault : NameKind → List ℕ → Option Errno
fault Mq name = queue_fault name
fault Psem name = form_fault name
fault Pshm name = form_fault name

-- how many bytes a name may have
abbrev pub most_bytes : NameKind → ℕ
most_bytes Mq = 255
most_bytes Psem = 251
most_bytes Pshm = 255

abbrev pub unless : Option Errno → Result (Unit {0}) Errno → Result (Unit {0}) Errno
unless (Some errno) other = Err errno
unless None other = other

abbrev pub check_name : NameKind → List ℕ → Result (Unit {0}) Errno
check_name kind name =
    unless (fault kind name) (if nat_lt (most_bytes kind) (length name) then Err ENAMETOOLONG else Ok tt)
