-- What the crates above cite of superblocks, of records, and of states as objects.
use Rattle.std.proofs.Common.{◌≡◌, ℕ, ◌+◌, ◌*◌, ◌<◌, ◌≤◌, ◌^◌, true, List, [], ◌++◌, length, Some, inl, inr, refl, sym, ap, subst, ◌∙◌, arith}
use Rattle.std.specs.Prelude.{not, position}
use Rattle.std.specs.Int.{w32, w64, to_be_bytes}
use Rattle.std.proofs.lemmas.List.{take_at}
use Rattle.std.proofs.lemmas.Nat.{from_be_bytes-to_be_bytes_4, from_be_bytes-to_be_bytes_8}
use Rattle.ipc_limits.specs.declared.limits.Limits.{Limits}
use Rattle.ipc_limits.specs.Limits.{ArePassed, AreWithin, tests}
use Rattle.ipc_base.specs.Objects.{Fit, PlainObjects, object_sectors, table_bytes}
use Rattle.ipc_engine.specs.Sound.{IsSound}
use Rattle.ipc_state.specs.State.{State, start}
use Rattle.ipc_engine.proofs.CallerLemmas.{start-sound}
use Rattle.ipc_image.specs.declared.format.Format.{Format}
use Rattle.ipc_image.specs.Format.{IsFormat, IsJournal, IsOpened, device_form, format, format_one, format_three}
use Rattle.ipc_image.specs.Saved.{saved, saved_in, StandForStateIn}
use Rattle.ipc_image.specs.Sizes.{area_in, area_of, first_fault, most_area}
use Rattle.ipc_image.proofs.Bounds.{area-of-two}
use Rattle.ipc_image.proofs.Formats.{by-form, by-opened, opened-by, opened-is}
use Rattle.ipc_image.proofs.Fits as fits
use Rattle.ipc_image.proofs.Fits.{saved-fit}
use Rattle.ipc_image.proofs.SavedObjects.{start-places}
use Rattle.ipc_wire.specs.Spelling.{request_bytes}
use Rattle.ipc_wire.proofs.CallerLemmas.{one_text}
use Rattle.ipc_engine.specs.Event.{PlainEvent, Connect, Call, Interrupt, Tick, Exit, Restart, moment_of}
use Rattle.ipc_image.specs.Records.{kind_of, details, text_of, record_bytes, HasDetails, HasRecord, BeginsWith}
use Rattle.ipc_image.specs.RecordParts.{IsOf}
use Rattle.ipc_image.specs.Superblock.{IsFormatted, version_in, sectors_in, journal_in, is_of, named_form, AreOf, IsSuperblockIn}
use Rattle.ipc_base.proofs.CallerLemmas.{number32_known}
use Rattle.ipc_image.proofs.EventRecords.{Got, GotLong, connect_only, call_only, interrupt_only, text_only, length_text, begun, text_cut}
use Rattle.ipc_image.proofs.Reading as reading
use Rattle.ipc_image.proofs.WholeState.{saved_once}
-- what was saved, and has not changed since
pub use Rattle.ipc_image.proofs.Unchanged.{others-there, old-others-there}
-- limits of which none is below an old one
pub use Rattle.ipc_image.proofs.AtLeast.{EachAtLeast, each-at-least}

-- the forms of a device are known, and all but the first are opened
pub last-opened : IsOpened format
last-opened = inl refl

pub three-opened : (journal : ℕ) → IsJournal journal → IsOpened (format_three journal)
three-opened journal its = inr (journal, its, refl)

pub last-known : IsFormat format
last-known = inr last-opened

pub three-known : (journal : ℕ) → IsJournal journal → IsFormat (format_three journal)
three-known journal its = inr (three-opened journal its)

pub one-known : IsFormat format_one
one-known = inl refl

-- where each places what a device has
pub record IsPlaced (form : Format) : Type 0 where
  pub root : (1 ≤ form.root) × (form.root ≤ 2)
  pub some : 0 < form.journal
  pub few : form.journal < 65536

pub form-placed : (form : Format) → IsFormat form → IsPlaced form
form-placed =
    by-form IsPlaced (record { root = (omega arith, omega arith); some = omega arith; few = omega arith })
    (record { root = (omega arith, omega arith); some = omega arith; few = omega arith })
    (λ journal its. record { root = (omega arith, omega arith); some = omega (arith, its); few = omega (arith, its) })

-- the form of a device under given limits is one that is opened
pub form-opened : (limits : Limits) → IsOpened (device_form limits)
unfolding device_form
form-opened limits = opened-by limits.version limits.journal

pub form-known : (limits : Limits) → IsFormat (device_form limits)
form-known limits = inr (form-opened limits)

pub form-version : (limits : Limits) → 2 ≤ (device_form limits).version
form-version limits = by-opened (λ f. 2 ≤ f.version) (omega arith) (λ journal its. omega arith) (device_form limits) (form-opened limits)

pub form-batch : (limits : Limits) → (device_form limits).batch ≡ 131072
form-batch limits = by-opened (λ f. f.batch ≡ 131072) refl (λ journal its. refl) (device_form limits) (form-opened limits)

-- so is the one that a sector names
pub named-opened : (sector : List ℕ) → IsOpened (named_form sector)
unfolding named_form
named-opened sector = opened-by (version_in sector) (journal_in sector)

pub named-known : (sector : List ℕ) → IsFormat (named_form sector)
named-known sector = inr (named-opened sector)

-- limits of a form that is opened fix it
pub of-opened : (form : Format) (limits : Limits) → IsOpened form → AreOf form limits → device_form limits ≡ form
unfolding device_form
of-opened form limits opened of = opened-is form opened limits.version limits.journal of.version of.journal

pub of-format : (limits : Limits) → AreOf format limits → device_form limits ≡ format
of-format limits of = of-opened format limits last-opened of

pub named-device : (sector : List ℕ) (limits : Limits) → AreOf (named_form sector) limits → named_form sector ≡ device_form limits
named-device sector limits of = sym (of-opened (named_form sector) limits (named-opened sector) of)

-- limits of a form within its greatest values are limits of it, if their area is not too large; under those of
-- version 2 none is
pub are-of : (form : Format) → IsFormat form → (limits : Limits) → limits.version ≡ form.version → limits.journal ≡ form.journal
    → AreWithin form.most limits → area_in form limits ≤ most_area → AreOf form limits
are-of = reading.are-of

pub last-of : (limits : Limits) → limits.version ≡ 2 → limits.journal ≡ 257 → AreWithin format.most limits → AreOf format limits
last-of limits version journal within = reading.are-of format last-known limits version journal within (area-of-two limits within)

-- the first test of version 2 that fails is one of a field
pub first-of-two : (limits : Limits) (field : ℕ) → first_fault format limits ≡ Some field → position not (tests format.most limits) ≡ Some field
first-of-two limits field = reading.first-is-of-fields format limits field (area-of-two limits)

-- a superblock begins as one
pub superblock-begins : (form : Format) → IsFormat form → (sectors : ℕ) (limits : Limits) (sector : List ℕ) → IsSuperblockIn form sectors limits sector
    → IsFormatted sector
superblock-begins = reading.begins

-- it is of its version
pub superblock-version : (form : Format) → IsFormat form → (sectors : ℕ) (limits : Limits) (sector : List ℕ) → IsSuperblockIn form sectors limits sector
    → version_in sector ≡ form.version
superblock-version = reading.has_version

-- without features that are not known
pub superblock-is-of : (form : Format) → IsFormat form → (sectors : ℕ) (limits : Limits) (sector : List ℕ) → IsSuperblockIn form sectors limits sector
    → is_of form sector ≡ true
superblock-is-of = reading.is-of

-- it names the sectors of its device, and those of the journal
pub superblock-sectors : (form : Format) → IsFormat form → (sectors : ℕ) (limits : Limits) (sector : List ℕ) → IsSuperblockIn form sectors limits sector
    → sectors < 2 ^ 32 → sectors_in sector ≡ sectors
superblock-sectors = reading.has_sectors

pub superblock-journal : (form : Format) → IsFormat form → (sectors : ℕ) (limits : Limits) (sector : List ℕ) → IsSuperblockIn form sectors limits sector
    → journal_in sector ≡ form.journal
superblock-journal = reading.has_journal

-- a sector is, in a form, the superblock of one device with one set of limits
pub one-superblock : (form : Format) → IsFormat form → (sectors others : ℕ) (limits more : Limits) (sector : List ℕ) → sectors < 2 ^ 32 → others < 2 ^ 32
    → IsSuperblockIn form sectors limits sector → IsSuperblockIn form others more sector → (sectors ≡ others) × (limits ≡ more)
one-superblock = reading.one_superblock

-- and of one form, which is the one that it names if it is opened
pub one-form : (form other : Format) → IsFormat form → IsFormat other → (sectors others : ℕ) (limits more : Limits) (sector : List ℕ)
    → IsSuperblockIn form sectors limits sector → IsSuperblockIn other others more sector → form ≡ other
one-form = reading.one_form

pub superblock-named : (form : Format) → IsOpened form → (sectors : ℕ) (limits : Limits) (sector : List ℕ) → IsSuperblockIn form sectors limits sector
    → named_form sector ≡ form
superblock-named = reading.names

pub names-form : (sectors : ℕ) (limits : Limits) (sector : List ℕ) → IsSuperblockIn (device_form limits) sectors limits sector
    → device_form limits ≡ named_form sector
names-form sectors limits sector is = sym (superblock-named (device_form limits) (form-opened limits) sectors limits sector is)

-- the bytes of an area can be counted in four
pub area-counted : (form : Format) → IsFormat form → (limits : Limits) → AreOf form limits → 512 * area_in form limits < 2 ^ 32
area-counted form known limits of = omega (arith, of.area)

-- a sound state fits where it is kept
pub saved-fits : (form : Format) → IsOpened form → (limits : Limits) (s : State) → AreOf form limits → IsSound limits s
    → Fit (area_in form limits) (saved_in form s)
saved-fits = saved-fit

pub device-fits : (limits : Limits) (s : State) → AreOf (device_form limits) limits → IsSound limits s
    → Fit (area_in (device_form limits) limits) (saved_in (device_form limits) s)
device-fits limits = saved-fit (device_form limits) (form-opened limits) limits

-- the state to which nothing has happened stands as its objects
pub start-stands : (form : Format) (limits : Limits) → StandForStateIn form limits start (saved_in form start)
start-stands form limits = record { sound = start-sound limits; places = start-places; kinds = λ none. refl; are = refl }

-- the objects of a state that version 1 has, too, take as many sectors in its form, and as many bytes of a table
pub saved-one-less : (s : State) → object_sectors (saved_in format_one s) ≡ object_sectors (saved s)
saved-one-less = fits.saved-one-less

pub table-one-less : (s : State) → table_bytes (saved_in format_one s) ≡ table_bytes (saved s)
table-one-less = fits.table-one-less

-- so they fit where version 2 keeps them
pub old-saved-fits : (limits : Limits) (s : State) → ArePassed limits → IsSound limits s → Fit (area_of limits) (saved_in format_one s)
old-saved-fits = fits.old-saved-fit

-- bytes begin with the record that was written to their front
pub record-read : (e : PlainEvent) (rest : List ℕ) → HasRecord e → BeginsWith (record_bytes e ++ rest) e
record-read e rest has = record { has = has; front = take_at (record_bytes e) rest (length (record_bytes e)) refl }

-- ---- bytes begin with one record at most

got_spelled : (n : ℕ) (rest : List ℕ) → n < 2 ^ 32 → Got (to_be_bytes w32 n ++ rest) rest n
got_spelled n rest fits = (omega arith, sym (from_be_bytes-to_be_bytes_4 n fits), refl)

unwrapped : (e f : PlainEvent) → Some e ≡ Some f → e ≡ f
unwrapped e f is = cc

-- the same bytes are the details of no two events of a kind and a moment
one_of : (e f : PlainEvent) → HasDetails e → IsOf (kind_of e) (moment_of e) (details e) f → e ≡ f
one_of (Connect cred serial moment) f has is =
    let two : List ℕ = to_be_bytes w32 cred.uid ++ to_be_bytes w32 cred.gid in
    let all = connect_only moment (to_be_bytes w32 serial ++ two) two (to_be_bytes w32 cred.gid) [] serial cred.uid cred.gid
    (got_spelled serial two has.0) (got_spelled cred.uid (to_be_bytes w32 cred.gid) has.1) (got_spelled cred.gid [] has.2) f is in
    unwrapped (Connect cred serial moment) f all
one_of (Call pid request moment) f has is =
    unwrapped (Call pid request moment) f
    (call_only moment (to_be_bytes w32 pid ++ request_bytes request) (request_bytes request) pid request (got_spelled pid (request_bytes request) has.0)
    (λ r other same. one_text request r has.1 other same) f is)
one_of (Interrupt pid serial moment) f has is =
    unwrapped (Interrupt pid serial moment) f
    (interrupt_only moment (to_be_bytes w32 pid ++ to_be_bytes w32 serial) (to_be_bytes w32 serial) [] pid serial
    (got_spelled pid (to_be_bytes w32 serial) has.0) (got_spelled serial [] has.1) f is)
one_of (Tick moment) (Tick later) has is = ap Tick is.moment_is
one_of (Tick moment) (Connect cred s m) has is = absurd (omega (arith, is.kind_is))
one_of (Tick moment) (Call p r m) has is = absurd (omega (arith, is.kind_is))
one_of (Tick moment) (Interrupt p s m) has is = absurd (omega (arith, is.kind_is))
one_of (Tick moment) (Exit p m) has is = absurd (omega (arith, is.kind_is))
one_of (Tick moment) Restart has is = absurd (omega (arith, is.kind_is))
one_of (Exit pid moment) (Exit other later) has is =
    let same = number32_known other [] (to_be_bytes w32 pid) [] pid is.has is.details_are (got_spelled pid [] has) in
    ap (λ (n : ℕ). Exit n moment) same.0 ∙ ap (λ (n : ℕ). Exit other n) is.moment_is
one_of (Exit pid moment) (Connect cred s m) has is = absurd (omega (arith, is.kind_is))
one_of (Exit pid moment) (Call p r m) has is = absurd (omega (arith, is.kind_is))
one_of (Exit pid moment) (Interrupt p s m) has is = absurd (omega (arith, is.kind_is))
one_of (Exit pid moment) (Tick m) has is = absurd (omega (arith, is.kind_is))
one_of (Exit pid moment) Restart has is = absurd (omega (arith, is.kind_is))
one_of Restart Restart has is = refl
one_of Restart (Connect cred s m) has is = absurd (omega (arith, is.kind_is))
one_of Restart (Call p r m) has is = absurd (omega (arith, is.kind_is))
one_of Restart (Interrupt p s m) has is = absurd (omega (arith, is.kind_is))
one_of Restart (Tick m) has is = absurd (omega (arith, is.kind_is))
one_of Restart (Exit p m) has is = absurd (omega (arith, is.kind_is))

pub one-record : (bytes : List ℕ) (e f : PlainEvent) → BeginsWith bytes e → BeginsWith bytes f → e ≡ f
one-record bytes e f is also =
    let b = begun bytes e is in
    let n : ℕ = 9 + length (details e) in
    let first : Got bytes (text_of e ++ b.more) n =
    subst (λ (x : List ℕ). Got x (text_of e ++ b.more) n) (sym b.spelled) (got_spelled n (text_of e ++ b.more) b.below) in
    let cut = text_cut bytes (text_of e ++ b.more) (text_of e) n first (sym (take_at (text_of e) b.more n (length_text e))) f also in
    let rest : List ℕ = to_be_bytes w64 (moment_of e) ++ details e in
    let long : GotLong rest (details e) (moment_of e) = (omega arith, sym (from_be_bytes-to_be_bytes_8 (moment_of e) is.has.moment), refl) in
    one_of e f is.has.details (text_only (text_of e) rest (details e) (kind_of e) (moment_of e) (omega arith, refl, refl) long f cut.0)

-- ---- objects stand for one state

pub stand-one : (form : Format) → IsFormat form → (limits others : Limits) (s t : State) (objects : PlainObjects) → StandForStateIn form limits s objects
    → StandForStateIn form others t objects → s ≡ t
stand-one form known limits others s t objects is also =
    saved_once form known s t is.places also.places is.kinds also.kinds (sym is.are ∙ also.are)
