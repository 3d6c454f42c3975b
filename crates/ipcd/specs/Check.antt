-- What `check` finds on a device, and says of it.
use Rattle.std.specs.Prelude.{◌≡◌, ◌⊎◌, ◌==◌, ◌&&◌, not, ℕ, Bool, true, nat_lt, if◌then◌else◌}
use Rattle.std.specs.Prelude.{List, length, ◌++◌, codes}
use Rattle.std.specs.Prelude.{Result, Ok, Err, ⊤}
use Rattle.std.specs.Fmt.{decimal}
use Rattle.ipc_limits.specs.declared.limits.Limits.{Limits}
use Rattle.ipc_limits.specs.Limits.{small_limits, small_of_three}
use Rattle.ipc_disk.specs.Medium.{Image}
use Rattle.ipc_engine.specs.Engine.{Machine}
use Rattle.ipc_engine.specs.Listing.{rows_of}
use Rattle.ipc_image.specs.declared.format.Format.{Format}
use Rattle.ipc_image.specs.Format.{format, journal_first, objects_first}
use Rattle.ipc_store.specs.Image.{form_at, StandsFor, IsNotFormatted, HasVersion, IsDamaged, IsFirstFault}
use Rattle.ipc_store.specs.declared.fault.OpenError.{OpenError}
use Rattle.ipc_store.specs.declared.fault.OpenError.TheVariants as opening
use Rattle.ipcd.specs.declared.checking.Finding.{Finding}
use Rattle.ipcd.specs.declared.checking.Place.{Place}
use Rattle.ipcd.specs.declared.checking.Place.TheVariants.{Superblock, Root, JournalHeader, Batch, Table}
use Rattle.ipcd.specs.declared.checking.Finding.TheVariants.{Fit, NotFormatted, Version, Damaged, Unread, NoMemory}
use Rattle.ipcd.specs.declared.ending.Fault.{Fault}
use Rattle.ipcd.specs.declared.ending.Fault.TheVariants.{Unfit}

-- ---- what is found

-- what stands in a sector of a device of this form
abbrev pub place_of : Format → ℕ → Place
place_of form sector =
    if sector == 0 then Superblock
    else (if sector == form.root then Root
    else (if sector == journal_first && not form.tags then JournalHeader
    else (if nat_lt sector (objects_first form) then Batch else Table)))

-- they are the small limits of their version, with any journal
abbrev pub AreSmall : Limits → Type 0
AreSmall limits = (limits ≡ small_limits) ⊎ (limits ≡ record small_of_three { journal = limits.journal })

-- of the state of a machine
abbrev pub IsOfMachine : Finding → Machine → Type 0
IsOfMachine (Fit version sectors small objects) machine =
    (objects ≡ length (rows_of machine.state)) × (version ≡ machine.limits.version)
    × (small ≡ true → AreSmall machine.limits)
IsOfMachine NoMemory machine = Unit {0}
IsOfMachine _ machine = ⊥

-- in an image
abbrev pub IsFoundIn : Finding → Image → Type 0
IsFoundIn (Fit version sectors small objects) image = (machine : Machine)
    × IsOfMachine (Fit version sectors small objects) machine × StandsFor machine.limits machine.state image
IsFoundIn (NotFormatted sectors) image = IsNotFormatted image
IsFoundIn (Version found) image = HasVersion found image
IsFoundIn (Damaged sector place) image =
    IsDamaged image × IsFirstFault image sector × (place ≡ place_of (form_at image) sector)
IsFoundIn Unread image = Unit {0}
IsFoundIn NoMemory image = Unit {0}

-- on a disk of so many sectors, of this form, of which a look is refused
abbrev pub refusal_of : ℕ → Format → OpenError → Finding
refusal_of sectors form opening.NotFormatted = NotFormatted sectors
refusal_of sectors form (opening.Version found) = Version found
refusal_of sectors form (opening.Damaged sector) = Damaged sector (place_of form sector)
refusal_of sectors form opening.Device = Unread
refusal_of sectors form opening.NoMemory = NoMemory

-- whether it would be served
abbrev pub verdict_of : Finding → Result ⊤ Fault
verdict_of (Fit version sectors small objects) = Ok tt
verdict_of _ = Err Unfit

-- ---- what is said of it

-- what is wrong if an open names a sector of this place: it names the root if the objects stand for no state
abbrev pub place_text : Place → List ℕ
place_text Superblock = codes "the superblock, or the file was cut"
place_text Root = codes "the root, or the bytes of an object"
place_text JournalHeader = codes "the header of the journal"
place_text Batch = codes "a batch of the journal"
place_text Table = codes "the table of objects"

abbrev pub limits_text : Bool → List ℕ
limits_text small = if small then codes "small" else codes "standard"

-- what keeps a file of so many sectors from being a device
abbrev pub form_text : ℕ → List ℕ
form_text sectors =
    if nat_lt format.root sectors then codes "and the first is no superblock" else codes "fewer than a device has"

abbrev pub finding_text : Finding → List ℕ
finding_text (Fit version sectors small objects) =
    codes "fit to be served: version " ++ decimal version ++ codes ", " ++ decimal sectors ++ codes " sectors, "
    ++ limits_text small ++ codes " limits, " ++ decimal objects ++ codes " objects"
finding_text (NotFormatted sectors) =
    codes "not formatted: the file has " ++ decimal sectors ++ codes " sectors, " ++ form_text sectors
finding_text (Version found) =
    codes "version " ++ decimal found ++ codes ": this program serves versions 2 and 3"
finding_text (Damaged sector place) = codes "damaged sector " ++ decimal sector ++ codes ": " ++ place_text place
finding_text Unread = codes "device fault: it cannot be read, or is saved all the while"
finding_text NoMemory = codes "no memory: there is too little for its objects"
