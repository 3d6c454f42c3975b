-- What the command line asks for, and the exit status if it asks for nothing.
use Rattle.std.specs.Prelude.{◌≡◌, ◌==◌, ℕ, pos, Bool, true, false, not}
use Rattle.std.specs.Prelude.{if◌then◌else◌, Result, IfOk, IfErr, List, [], ◌∷◌, Option, Some, None}
use Rattle.std.specs.Prelude.{codes, option_and_then, option_map, string_bytes, unwrap_or}
use Rattle.std.specs.Option.{option_map_or}
use Rattle.std.specs.Str.{bytes_eq}
use Rattle.std.specs.Str.Parse.{digits_value, without_leading_plus}
use Rattle.clap.specs.ValueTests.{is_unsigned_in}
use Rattle.clap.specs.Words.{App, Row, Rule, Text, first_of, new_app, new_rule, one_of, with_rule}
use Rattle.clap.specs.Words.{with_subcommand}
use Rattle.clap.specs.declared.builder.action.ArgAction.TheVariants.{SetTrue}
use Rattle.clap.specs.declared.builder.value_parser.ValueParser.TheVariants.{Signed}
use Rattle.clap.specs.declared.error.Error.{Error}
use Rattle.clap.specs.Values.{kind_of}
use Rattle.clap.specs.declared.error.kind.ErrorKind.{ErrorKind}
use Rattle.clap.specs.declared.error.kind.ErrorKind.TheVariants.{DisplayHelp, DisplayVersion, OutOfMemory}
use Rattle.ipc_limits.specs.declared.limits.Limits.{Limits}
use Rattle.ipc_limits.specs.Limits.{standard_limits, small_limits}
use Rattle.ipc_command.specs.declared.command.Request.{Request}
use Rattle.ipc_command.specs.declared.command.Request.TheVariants as request
use Rattle.ipc_command.specs.declared.command.Refusal.{Refusal}
use Rattle.ipc_command.specs.declared.command.Refusal.TheVariants.{NoMemory, NotText, Parser}

-- the limits, by whether small ones are asked for
abbrev pub limits_asked : Bool → Limits
limits_asked small = if small then small_limits else standard_limits

-- 0 if the parser was asked to say something, 1 for want of memory, else 2
abbrev pub kind_status : ErrorKind → ℕ
kind_status DisplayHelp = 0
kind_status DisplayVersion = 0
kind_status OutOfMemory = 1
kind_status _ = 2

abbrev pub refusal_status : Refusal → ℕ
refusal_status NoMemory = 1
refusal_status NotText = 2
refusal_status (Parser error) = kind_status (kind_of error)

-- the flag `--small`
abbrev pub small_rule : Rule
small_rule = record (new_rule (codes "small")) { long = Some (codes "small"); action = Some SetTrue }

-- the option `--sectors N`, a number that fits into 32 bits
abbrev pub sectors_rule : Rule
sectors_rule = record (new_rule (codes "sectors")) {
  long = Some (codes "sectors");
  value_names = 1;
  parser = Some (Signed (pos 0) (pos 4294967295));
}

-- the option `--journal N`, the sectors of a journal of version 3
abbrev pub journal_rule : Rule
journal_rule = record (new_rule (codes "journal")) {
  long = Some (codes "journal");
  value_names = 1;
  parser = Some (Signed (pos 8) (pos 65535));
}

-- the word that names the file of a device
abbrev pub device_rule : Rule
device_rule = record (new_rule (codes "device")) { value_names = 1; required = true }

-- the word that names the file of a copy
abbrev pub copy_rule : Rule
copy_rule = record (new_rule (codes "copy")) { value_names = 1; required = true }

-- the word that names a socket, and the options `--turns N` and `--metrics FILE`
abbrev pub socket_rule : Rule
socket_rule = record (new_rule (codes "socket")) { value_names = 1; required = true }

abbrev pub turns_rule : Rule
turns_rule = record (new_rule (codes "turns")) {
  long = Some (codes "turns");
  value_names = 1;
  parser = Some (Signed (pos 0) (pos 4294967295));
}

abbrev pub metrics_rule : Rule
metrics_rule = record (new_rule (codes "metrics")) { long = Some (codes "metrics"); value_names = 1 }

-- `replay`, with the flag
abbrev pub replay_command : App
replay_command = with_rule (new_app (codes "replay")) small_rule

-- `upgrade`, and what `format` has with it: a device, the flag and the option
abbrev pub sized_command : Text → App
sized_command name = with_rule (with_rule (with_rule (new_app name) device_rule) small_rule) sectors_rule

-- `format`, with one option more
abbrev pub format_command : App
format_command = with_rule (sized_command (codes "format")) journal_rule

-- `run`, `dump`, `list` and `check`, with a device
abbrev pub device_command : Text → App
device_command name = with_rule (new_app name) device_rule

-- `backup`, with a device and the file of its copy
abbrev pub backup_command : App
backup_command = with_rule (device_command (codes "backup")) copy_rule

-- `serve`, with a device, a socket and the options
abbrev pub serve_command : App
serve_command = with_rule (with_rule (with_rule (device_command (codes "serve")) socket_rule) turns_rule) metrics_rule

-- `ipcd`, with a version; it needs a command below it
abbrev pub ipcd_command : App
ipcd_command = record (new_app (codes "ipcd")) {
  top = record (new_app (codes "ipcd")).top { has_version = true; subcommand_required = true };
}

-- the command line: `ipcd`, and below it the nine commands
abbrev pub declared : App
declared =
    with_subcommand (with_subcommand (with_subcommand (with_subcommand (with_subcommand (with_subcommand
    (with_subcommand (with_subcommand (with_subcommand ipcd_command replay_command.top)
    format_command.top) (sized_command (codes "upgrade")).top) (device_command (codes "run")).top)
    (device_command (codes "dump")).top) (device_command (codes "list")).top) backup_command.top)
    (device_command (codes "check")).top) serve_command.top

-- ---- what words that are taken ask for

-- a request, with its files as text
pub data PlainRequest : Type 0 where
  Replay : (small : Bool) → PlainRequest
  Format : (device : Text) → (small : Bool) → (sectors journal : Option ℕ) → PlainRequest
  Upgrade : (device : Text) → (small : Bool) → (sectors : Option ℕ) → PlainRequest
  Run : (device : Text) → PlainRequest
  Dump : (device : Text) → PlainRequest
  ListObjects : (device : Text) → PlainRequest
  Backup : (device copy : Text) → PlainRequest
  Check : (device : Text) → PlainRequest
  Serve : (device socket : Text) → (turns : Option ℕ) → (metrics : Option Text) → PlainRequest

abbrev pub plain_request : Request → PlainRequest
plain_request (request.Replay small) = Replay small
plain_request (request.Format device small sectors journal) = Format (string_bytes device) small sectors journal
plain_request (request.Upgrade device small sectors) = Upgrade (string_bytes device) small sectors
plain_request (request.Run device) = Run (string_bytes device)
plain_request (request.Dump device) = Dump (string_bytes device)
plain_request (request.ListObjects device) = ListObjects (string_bytes device)
plain_request (request.Backup device copy) = Backup (string_bytes device) (string_bytes copy)
plain_request (request.Check device) = Check (string_bytes device)
plain_request (request.Serve device socket turns metrics) =
    Serve (string_bytes device) (string_bytes socket) turns (option_map string_bytes metrics)

-- the number that a text of decimal digits writes, if it fits into 32 bits; a plus may stand first
abbrev pub parsed_number : Text → Option ℕ
parsed_number text =
    if is_unsigned_in 0 4294967295 text then Some (digits_value 10 (without_leading_plus text))
    else None

-- what was found for `--small`, and by a name, as text and as a number
abbrev pub asked_small : List Row → Bool
asked_small rows = option_map_or (λ t. bytes_eq t (codes "true")) (one_of (codes "small") rows) false

abbrev pub asked_text : Text → List Row → Text
asked_text name rows = unwrap_or (first_of name rows) []

abbrev pub asked_number : Text → List Row → Option ℕ
asked_number name rows = option_and_then parsed_number (one_of name rows)

-- what `serve` asks for, by what was found for its arguments
abbrev pub asked_serve : List Row → PlainRequest
asked_serve rows =
    Serve (asked_text (codes "device") rows) (asked_text (codes "socket") rows)
    (asked_number (codes "turns") rows) (first_of (codes "metrics") rows)

-- what a command asks for, by its name and what was found for its arguments. The parser takes no
-- other name; such a one would ask for a listing of no file
abbrev pub asked_request : Text → List Row → PlainRequest
asked_request name rows =
    let device = asked_text (codes "device") rows in
    if bytes_eq name (codes "replay") then Replay (asked_small rows)
    else (if bytes_eq name (codes "format")
    then Format device (asked_small rows) (asked_number (codes "sectors") rows) (asked_number (codes "journal") rows)
    else (if bytes_eq name (codes "upgrade")
    then Upgrade device (asked_small rows) (asked_number (codes "sectors") rows)
    else (if bytes_eq name (codes "run") then Run device
    else (if bytes_eq name (codes "dump") then Dump device
    else (if bytes_eq name (codes "list") then ListObjects device
    else (if bytes_eq name (codes "backup") then Backup device (asked_text (codes "copy") rows)
    else (if bytes_eq name (codes "check") then Check device
    else (if bytes_eq name (codes "serve") then asked_serve rows
    else Dump []))))))))

-- what a command line asks for, by the command that was found; the parser takes no words without one
abbrev pub asked : Option (Text × List Row) → PlainRequest
asked None = Dump []
asked (Some found) = asked_request found.0 found.1

-- a word that is no flag: it has less than two bytes, or does not begin with `-` (45)
abbrev pub is_no_flag : Text → Bool
is_no_flag [] = true
is_no_flag (first ∷ []) = true
is_no_flag (first ∷ second ∷ rest) = not (first == 45)

-- `[--small] [--sectors N]`
abbrev pub small_words : Bool → List Text
small_words small = if small then codes "--small" ∷ [] else []

abbrev pub sectors_words : Option Text → List Text
sectors_words None = []
sectors_words (Some number) = codes "--sectors" ∷ number ∷ []

-- a text of decimal digits writes a number of sectors that a journal may have
abbrev pub is_journal : Text → Bool
is_journal text = is_unsigned_in 8 65535 text

-- `[--turns N] [--metrics FILE]`
abbrev pub turns_words : Option Text → List Text
turns_words None = []
turns_words (Some number) = codes "--turns" ∷ number ∷ []

abbrev pub metrics_words : Option Text → List Text
metrics_words None = []
metrics_words (Some file) = codes "--metrics" ∷ file ∷ []

-- a command line that asks for this: it is refused for want of memory alone
pub record AsksFor (wanted : PlainRequest) (result : Result Request Error) : Type 0 where
  pub ok : IfOk result (λ request. plain_request request ≡ wanted)
  pub err : IfErr result (λ error. kind_of error ≡ OutOfMemory)

-- a command line that is taken as this request, which has no file: it is refused for want of memory alone
pub record IsTakenAs (request : Request) (result : Result Request Error) : Type 0 where
  pub ok : IfOk result (λ asked. asked ≡ request)
  pub err : IfErr result (λ error. kind_of error ≡ OutOfMemory)
