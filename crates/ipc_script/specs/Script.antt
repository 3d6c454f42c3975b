-- The run of a script: what its lines do to the server and its clients, and what is written. After
-- each line all that was accepted is confirmed, so that each frame that waits is written and taken.
-- What is promised of a run stands last.
use Rattle.std.specs.Prelude.{◌≡◌, ◌≢◌, ◌⊎◌, ◌<◌, ◌≤◌, ⊤, ℕ, ◌+◌, ◌^◌, Bool, false, ◌&&◌, ◌||◌}
use Rattle.std.specs.Prelude.{not, All, nat_eq, nat_lt, if◌then◌else◌, List, [], ◌∷◌, ◌++◌, length}
use Rattle.std.specs.Prelude.{map, take, drop, codes, Option, Some, None, is_some, Result, Ok, Err}
use Rattle.std.specs.List.{flat_map}
use Rattle.std.specs.Fmt.{decimal}
use Rattle.std.specs.Io.KnownBytes.{Appends}
use Rattle.hex.specs.Hex.{encode_lower}
use Rattle.ipc_limits.specs.declared.limits.Limits.{Limits}
use Rattle.ipc_base.specs.Table.{keys_of}
use Rattle.ipc_disk.specs.Counts.{counted}
use Rattle.ipc_disk.specs.Medium.{Medium, IsHonest}
use Rattle.ipc_state.specs.State.{restart}
use Rattle.ipc_engine.specs.Event.{Restart}
use Rattle.ipc_store.specs.View.{StoreView, numbers_used}
use Rattle.ipc_hub.specs.Clients.{Client, Clients, client_at, ended_at, no_clients}
use Rattle.ipc_hub.specs.Clients.{connect, feed, hangup, tick}
use Rattle.ipc_script.specs.declared.fault.ScriptFault.{ScriptFault}
use Rattle.ipc_script.specs.declared.fault.ScriptFault.TheVariants.{NoMemory, Input, Output, Device}
use Rattle.ipc_script.specs.declared.fault.ScriptFault.TheVariants.{NotFormatted, Version, Damaged}
use Rattle.ipc_script.specs.declared.fault.ScriptFault.TheVariants.{TooLong, BadLine, InUse, Unknown}
use Rattle.ipc_script.specs.Line.{PlainLine, Open, Data, End, Tick, Save, Stop}
use Rattle.ipc_script.specs.Line.{line_of, lines_of, longest_script}

-- what a run has: the clients, and of which connections the end was told
pub record Run : Type 0 where
  pub hub : Clients
  pub told : ℕ → Bool

-- nothing was told of any connection yet
abbrev pub start_run : Clients → Run
start_run h = record { hub = h; told = λ _. false }

-- a run that has written something
pub record Progress : Type 0 where
  pub text : List ℕ
  pub run : Run

-- what is written from there on stands after it
abbrev pub followed : Progress → (Run → Progress) → Progress
followed p next = let more = next p.run in record { text = p.text ++ more.text; run = more.run }

-- ---- what is written

-- a frame: the number of its connection, a space, and its bytes in hexadecimal digits
abbrev pub frame_line : ℕ → List ℕ → List ℕ
frame_line conn bytes = decimal conn ++ codes " " ++ encode_lower bytes ++ codes "\n"

abbrev pub end_line : ℕ → List ℕ
end_line conn = decimal conn ++ codes " end\n"

-- of a client: its frames, and then, once, that the server has ended it
abbrev pub client_text : ℕ → Bool → Client → List ℕ
client_text conn told c =
    flat_map (λ f. frame_line conn f.bytes) c.frames
    ++ (if c.ended && not told then end_line conn else [])

abbrev pub conn_text : Run → ℕ → List ℕ
conn_text r conn = of_client (client_at r.hub conn)
  where
    of_client : Option Client → List ℕ
    of_client None = []
    of_client (Some c) = client_text conn (r.told conn) c

-- its frames are taken
abbrev pub emptied : Client → Client
emptied c = record c { frames = []; consumed = 0 }

-- the frames of all clients are taken, and it is told of which the server has ended
abbrev pub reported : Run → Run
reported r = record {
  hub = record r.hub { clients = map (λ e. (e.0, emptied e.1)) r.hub.clients };
  told = λ conn. r.told conn || ended_at r.hub conn;
}

-- of each connection, in rising number, as the clients are
abbrev pub report : Run → Progress
report r = record { text = flat_map (conn_text r) (keys_of r.hub.clients); run = reported r }

-- ---- a line

abbrev pub is_open : Run → ℕ → Bool
is_open r conn = is_some (client_at r.hub conn)

-- a new connection: nothing was told of it
abbrev pub opened : Run → ℕ → Run
opened r conn =
    record { hub = connect r.hub conn; told = λ other. not (nat_eq other conn) && r.told other }

-- The server and all connections are dropped without a word, and the device is opened again: the
-- restart is the one event since then.
abbrev pub stopped : Limits → Run → Run
stopped limits r = start_run (no_clients (restart limits r.hub.state) (Restart ∷ []))

-- some bytes, at least one, and of which of the requests in them memory was refused
pub record Piece : Type 0 where
  -- how many bytes besides the first
  pub more : ℕ
  pub refused : List Bool

-- how the bytes of a line are fed: in these pieces, and then all that is left with nothing refused
abbrev pub Cut : Type 0
Cut = List Piece

-- bytes are fed, and what they let out is written
abbrev pub fed : Limits → Run → ℕ → ℕ → List ℕ → List Bool → Progress
fed limits r moment conn bytes refused =
    report (record r { hub = feed limits r.hub conn bytes moment refused })

-- Bytes are fed in pieces. A piece that reaches their end is the last.
abbrev pub fed_in_pieces : Limits → Run → ℕ → ℕ → List ℕ → Cut → Progress
fed_in_pieces limits r moment conn bytes [] = fed limits r moment conn bytes []
fed_in_pieces limits r moment conn bytes (p ∷ ps) =
    if nat_lt (p.more + 1) (length bytes)
    then followed (fed limits r moment conn (take (p.more + 1) bytes) p.refused)
    (λ now. fed_in_pieces limits now moment conn (drop (p.more + 1) bytes) ps)
    else fed limits r moment conn bytes p.refused

-- The line of this number: `open` of a connection that is open is refused, and so is another line
-- for one that is not.
abbrev pub line_done : Limits → ℕ → Run → PlainLine → Cut → Result Progress ScriptFault
line_done limits number r (Open conn) cut =
    if is_open r conn then Err (InUse number) else Ok (report (opened r conn))
line_done limits number r (Data moment conn bytes) cut =
    if is_open r conn
    then Ok (fed_in_pieces limits r moment conn bytes cut)
    else Err (Unknown number)
line_done limits number r (End moment conn) cut =
    if is_open r conn
    then Ok (report (record r { hub = hangup limits r.hub conn moment }))
    else Err (Unknown number)
line_done limits number r (Tick moment) cut =
    Ok (report (record r { hub = tick limits r.hub moment }))
-- what was accepted is confirmed already, so that a save changes nothing that a client sees
line_done limits number r Save cut = Ok (report r)
line_done limits number r Stop cut = Ok (record { text = []; run = stopped limits r })

-- a first part of a line: of `data` so many of its bytes; another line is done as a whole
abbrev pub first_part : ℕ → PlainLine → PlainLine
first_part count (Data moment conn bytes) = Data moment conn (take count bytes)
first_part count line = line

-- a text that may be a line
abbrev pub text_done : Limits → ℕ → Run → Option PlainLine → Cut → Result Progress ScriptFault
text_done limits number r None cut = Err (BadLine number)
text_done limits number r (Some line) cut = line_done limits number r line cut

-- ---- the script

-- all that a script writes, and the fault that stops it
pub record Outcome : Type 0 where
  pub text : List ℕ
  pub fault : Option ScriptFault

-- the next lines are run unless this one is refused
abbrev pub then_next : Result Progress ScriptFault → (Run → Outcome) → Outcome
then_next (Err e) next = record { text = []; fault = Some e }
then_next (Ok p) next =
    let more = next p.run in record { text = p.text ++ more.text; fault = more.fault }

-- the first of the cuts; if there is none, all in one piece and nothing refused
abbrev pub first_cut : List Cut → Cut
first_cut [] = []
first_cut (cut ∷ cuts) = cut

-- lines from this number on, with a cut for each
abbrev pub run_lines : Limits → ℕ → Run → List (List ℕ) → List Cut → Outcome
run_lines limits number r [] cuts = record { text = []; fault = None }
run_lines limits number r (line ∷ lines) cuts =
    then_next (text_done limits number r (line_of line) (first_cut cuts))
    (λ now. run_lines limits (number + 1) now lines (drop 1 cuts))

-- a whole script; lines count from 1
abbrev pub script_run : Limits → Clients → List ℕ → List Cut → Outcome
script_run limits h script cuts = run_lines limits 1 (start_run h) (lines_of script) cuts

-- the run after a line, from which the next go on, if it was not refused
abbrev pub after_line : Result Progress ScriptFault → Run → (Run → Run) → Run
after_line (Err e) r next = r
after_line (Ok p) r next = next p.run

-- the run after lines, up to the first that is refused
abbrev pub run_after : Limits → ℕ → Run → List (List ℕ) → List Cut → Run
run_after limits number r [] cuts = r
run_after limits number r (line ∷ lines) cuts =
    after_line (text_done limits number r (line_of line) (first_cut cuts)) r
    (λ now. run_after limits (number + 1) now lines (drop 1 cuts))

-- what the server and its clients are when a whole script has run
abbrev pub script_after : Limits → Clients → List ℕ → List Cut → Clients
script_after limits h script cuts = (run_after limits 1 (start_run h) (lines_of script) cuts).hub

-- the first lines of a script alone
abbrev pub lines_run : Limits → Clients → List ℕ → ℕ → List Cut → Outcome
lines_run limits h script count cuts = run_lines limits 1 (start_run h) (take count (lines_of script)) cuts

-- ---- what is promised of a run

-- a beginning of a text is written
abbrev pub WritesPart : Option (List ℕ) → Option (List ℕ) → List ℕ → Type 0
WritesPart before after text =
    (part : List ℕ) × (rest : List ℕ) × (text ≡ part ++ rest) × Appends before after part

-- for some cut of each line what is written is the run's text, and the fault is the run's
abbrev pub EndsAs : Limits → Clients → List ℕ → Option (List ℕ) → Option (List ℕ)
    → Option ScriptFault → Type 0
EndsAs limits h script before after fault =
    (cuts : List Cut)
    × (let outcome = script_run limits h script cuts in
    Appends before after outcome.text × (outcome.fault ≡ fault))

-- for some cut of each line what is written is a beginning of the run's text
abbrev pub BreaksOff : Limits → Clients → List ℕ → Option (List ℕ) → Option (List ℕ) → Type 0
BreaksOff limits h script before after =
    (cuts : List Cut) × WritesPart before after (script_run limits h script cuts).text

-- this text is written, and maybe more
abbrev pub WritesMore : Option (List ℕ) → Option (List ℕ) → List ℕ → Type 0
WritesMore before after text = (more : List ℕ) × Appends before after (text ++ more)

-- the disk failed within a line: for some cut of each line before it these are run, and their text
-- is written, and then what the connections had to say
pub record Halts (limits : Limits) (h : Clients) (script : List ℕ) (before after : Option (List ℕ))
    : Type 0 where
  pub count : ℕ
  pub cuts : List Cut
  pub runs : (lines_run limits h script count cuts).fault ≡ None
  pub text : WritesMore before after (lines_run limits h script count cuts).text

-- no line of it is `stop`
abbrev pub HasNoStop : List ℕ → Type 0
HasNoStop script = All (λ line. line_of line ≢ Some Stop) (lines_of script)

-- a device that is opened again is known from its disk, if that is honest
abbrev pub MayStop : Medium → List ℕ → Type 0
MayStop medium script = HasNoStop script ⊎ IsHonest medium

-- The store goes on, and has used so few of its numbers that no script comes to their end.
pub record IsYoung {D : Type 0} (store : StoreView D) : Type 0 where
  pub running : store.stopped ≡ false
  pub numbers : numbers_used store < 2 ^ 63

-- A fault of the disk comes of a failure that the disk has counted, and what stands there is no
-- fault. Of the other faults it says nothing.
abbrev pub DiskFailed : ScriptFault → ℕ → ℕ → Type 0
DiskFailed NoMemory before after = ⊤
DiskFailed Input before after = ⊤
DiskFailed Output before after = ⊤
DiskFailed Device before after = after ≡ counted before 1
DiskFailed NotFormatted before after = ⊥
DiskFailed (Version found) before after = ⊥
DiskFailed (Damaged sector) before after = ⊥
DiskFailed TooLong before after = ⊤
DiskFailed (BadLine number) before after = ⊤
DiskFailed (InUse number) before after = ⊤
DiskFailed (Unknown number) before after = ⊤

-- a script that is not too long has run
abbrev pub HasRun : Limits → Clients → List ℕ → Option (List ℕ) → Option (List ℕ)
    → Option ScriptFault → Type 0
HasRun limits h script before after fault =
    (length script ≤ longest_script) × EndsAs limits h script before after fault

-- What holds of a script when its run has ended. If memory or a write failed, the run broke off. If
-- the disk failed, or no device was found on it, it halted. A script that is not read to its end, or
-- is too long, is not begun.
abbrev pub Runs : Limits → Clients → List ℕ → Option (List ℕ) → Option (List ℕ)
    → Result ⊤ ScriptFault → Type 0
Runs limits h script before after (Ok _) = HasRun limits h script before after None
Runs limits h script before after (Err NoMemory) = BreaksOff limits h script before after
Runs limits h script before after (Err Input) = Appends before after []
Runs limits h script before after (Err Output) = BreaksOff limits h script before after
Runs limits h script before after (Err Device) = Halts limits h script before after
Runs limits h script before after (Err NotFormatted) = Halts limits h script before after
Runs limits h script before after (Err (Version found)) = Halts limits h script before after
Runs limits h script before after (Err (Damaged sector)) = Halts limits h script before after
Runs limits h script before after (Err TooLong) =
    (longest_script < length script) × Appends before after []
Runs limits h script before after (Err (BadLine number)) =
    HasRun limits h script before after (Some (BadLine number))
Runs limits h script before after (Err (InUse number)) =
    HasRun limits h script before after (Some (InUse number))
Runs limits h script before after (Err (Unknown number)) =
    HasRun limits h script before after (Some (Unknown number))
