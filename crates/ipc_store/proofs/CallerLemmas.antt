-- What the crates above cite of a store: which events the bytes of a batch hold, which state an image stands for, what a list
-- of calls accepts, and how many events and bytes a store still takes.
use Rattle.std.proofs.Common.{◌≡◌, ◌+◌, ◌-◌, ◌≤◌, ◌<◌, ◌^◌, ℕ, Bool, true, false, List, [], ◌∷◌, ◌++◌, length, drop, map, refl, sym, ap, subst, ◌∙◌, arith}
use Rattle.std.specs.Prelude.{if◌then◌else◌, All}
use Rattle.std.proofs.lemmas.List.{drop_at, length-append}
use Rattle.std.proofs.lemmas.List.Elements.{All-head, All-tail}
use Rattle.byteorder.specs.Endian.{big_bytes}
use Rattle.ipc_limits.specs.declared.limits.Limits.{Limits}
use Rattle.ipc_base.specs.Objects.{PlainObjects}
use Rattle.ipc_checkpoint.proofs.CallerLemmas.{Holds-one as Objects-one}
use Rattle.ipc_disk.specs.Medium.{Image, Medium}
use Rattle.ipc_disk.specs.Standing.{sector_at}
use Rattle.ipc_journal.proofs.CallerLemmas.{Holds-one}
use Rattle.ipc_state.specs.State.{State}
use Rattle.ipc_engine.specs.Event.{PlainEvent, Exit, Tick}
use Rattle.ipc_engine.specs.Step.{run}
use Rattle.ipc_image.specs.declared.format.Format.{Format}
use Rattle.ipc_image.specs.Format.{device_form, longest_record, IsFormat}
use Rattle.ipc_image.specs.Records.{record_bytes, HasRecord, BeginsWith}
use Rattle.ipc_image.proofs.CallerLemmas.{form-known, one-superblock, one-record, record-read, stand-one}
use Rattle.ipc_image.specs.Saved.{StandForStateIn}
use Rattle.ipc_image.specs.Superblock.{AreOf}
use Rattle.ipc_store.specs.Batch.{records_of, batch_bytes, exit_record, tick_record, AreBatchOf}
use Rattle.ipc_store.specs.Histories.{Takes}
use Rattle.ipc_store.specs.Image.{as_of, own_limits, form_at, journal_form, journal_range, layout_in, named_sectors, events_of, epoch_at}
use Rattle.ipc_store.specs.Image.{IsDeviceIn, HasObjectsIn, HasBatches, HasBaseIn, HasNoStateIn, StandsFor, StandsForIn}
use Rattle.ipc_store.specs.View.{StoreView, HasRoomFor, events_left, numbers_used}
use Rattle.ipc_store.proofs.Batches.{record-length, record-most}
use Rattle.ipc_store.specs.Relations.Matches.{StoreMatches}
use Rattle.ipc_store.proofs.Committing as committing
use Rattle.ipc_store.proofs.Devices.{device-form}
use Rattle.ipc_store.proofs.Lives as lives
pub use Rattle.ipc_store.proofs.Meanwhile.{parts-same, read-same}

-- if there is an event, there is a byte
no_records : (e : PlainEvent) (events : List PlainEvent) → [] ≡ records_of (e ∷ events) → ⊥
no_records e events same = omega (arith, ap length same, length-append (record_bytes e) (records_of events), record-length e)

-- the records of two lists of events are the same bytes, so the lists are the same
records-one : (events others : List PlainEvent) → All HasRecord events → All HasRecord others → records_of events ≡ records_of others → events ≡ others
records-one [] [] each also same = refl
records-one [] (f ∷ others) each also same = absurd (no_records f others same)
records-one (e ∷ events) [] each also same = absurd (no_records e events (sym same))
records-one (e ∷ events) (f ∷ others) each also same =
    let begins : BeginsWith (records_of (f ∷ others)) e =
    subst (λ (bytes : List ℕ). BeginsWith bytes e) same (record-read e (records_of events) (All-head HasRecord e events each)) in
    let first : e ≡ f = one-record (records_of (f ∷ others)) e f begins (record-read f (records_of others) (All-head HasRecord f others also)) in
    let rest : records_of events ≡ records_of others =
    sym (drop_at (record_bytes e) (records_of events) (length (record_bytes e)) refl) ∙ ap (drop (length (record_bytes e))) same
    ∙ ap (λ (g : PlainEvent). drop (length (record_bytes g)) (records_of (f ∷ others))) first
    ∙ drop_at (record_bytes f) (records_of others) (length (record_bytes f)) refl in
    ap (λ (g : PlainEvent). g ∷ events) first
    ∙ ap (λ (more : List PlainEvent). f ∷ more)
    (records-one events others (All-tail HasRecord e events each) (All-tail HasRecord f others also) rest)

-- a batch says which events it holds
pub batch-one : (most : ℕ) (events others : List PlainEvent) → AreBatchOf most events → AreBatchOf most others
    → batch_bytes events ≡ batch_bytes others → events ≡ others
unfolding batch_bytes
batch-one most events others is also same =
    records-one events others is.each also.each
    (sym (drop_at (big_bytes 4 (length (records_of events))) (records_of events) 4 refl) ∙ ap (drop 4) same
    ∙ drop_at (big_bytes 4 (length (records_of others))) (records_of others) 4 refl)

-- so do the batches of a journal
batches-one : (most : ℕ) (batches others : List (List PlainEvent)) → All (AreBatchOf most) batches → All (AreBatchOf most) others
    → map batch_bytes batches ≡ map batch_bytes others → batches ≡ others
batches-one most [] [] each also same = refl
batches-one most [] (m ∷ others) each also same = absurd (omega (arith, ap length same))
batches-one most (l ∷ batches) [] each also same = absurd (omega (arith, ap length same))
batches-one most (l ∷ batches) (m ∷ others) each also same =
    let P : List PlainEvent → Type 0 = AreBatchOf most in
    let first : l ≡ m = batch-one most l m (All-head P l batches each) (All-head P m others also) cc in
    let rest : batches ≡ others = batches-one most batches others (All-tail P l batches each) (All-tail P m others also) cc in
    ap (λ (x : List PlainEvent). x ∷ batches) first ∙ ap (λ (xs : List (List PlainEvent)). m ∷ xs) rest

module _ (form : Format) (known : IsFormat form) (limits others : Limits) where
  -- a device has one set of limits
  pub IsDevice-one : (image : Image) → length image < 2 ^ 32 → IsDeviceIn form limits image → IsDeviceIn form others image → limits ≡ others
  IsDevice-one image fits is also =
      let few : named_sectors image < 2 ^ 32 = omega (arith, is.whole, fits) in
      (one-superblock form known (named_sectors image) (named_sectors image) limits others (sector_at image 0) few few is.superblock also.superblock).1

  -- an image has one base at one epoch, under one set of limits
  pub HasBase-one : (epoch other : ℕ) (base more : State) (image : Image) → length image < 2 ^ 32
      → HasBaseIn form limits epoch base image → HasBaseIn form others other more image → (limits ≡ others) × (epoch ≡ other) × (base ≡ more)
  HasBase-one epoch other base more image fits is also =
      let same : limits ≡ others = IsDevice-one image fits is.device also.device in
      let there : HasObjectsIn form limits other also.objects image =
      subst (λ (l : Limits). HasObjectsIn form l other also.objects image) (sym same) also.there in
      let one = Objects-one (layout_in form limits (named_sectors image)) epoch other is.objects also.objects image is.there there in (
        same,
        one.0,
        stand-one form known limits others base more is.objects is.stand
            (subst (λ (o : PlainObjects). StandForStateIn form others more o) (sym one.1) also.stand),
      )

  -- an image stands for one state under one set of limits
  pub StandsForIn-one : (s t : State) (image : Image) → length image < 2 ^ 32 → StandsForIn form limits s image → StandsForIn form others t image
      → (limits ≡ others) × (s ≡ t)
  StandsForIn-one s t image fits is also =
      let same = HasBase-one is.epoch also.epoch is.base also.base image fits is.kept also.kept in
      let its : HasBatches form is.epoch also.batches image = subst (λ (n : ℕ). HasBatches form n also.batches image) (sym same.1) also.journal in
      let bytes : map batch_bytes is.batches ≡ map batch_bytes also.batches =
      Holds-one (journal_form form) (journal_range form) is.epoch (map batch_bytes is.batches) (map batch_bytes also.batches) image is.journal its in
      let batches : is.batches ≡ also.batches = batches-one form.batch is.batches also.batches is.leads.each also.leads.each bytes in (
        same.0,
        is.leads.state ∙ ap (λ (l : Limits). (run l is.base (events_of is.batches)).state) same.0
            ∙ ap (λ (b : State). (run others b (events_of is.batches)).state) same.2
            ∙ ap (λ (bs : List (List PlainEvent)). (run others also.base (events_of bs)).state) batches ∙ sym also.leads.state,
      )

-- limits of a form are as they are on a device of it
pub as-of-same : (form : Format) (limits : Limits) → AreOf form limits → as_of form limits ≡ limits
as-of-same form limits of = λ i. record limits { version = sym of.version i; journal = sym of.journal i }

-- so are those of the form that they name
pub own-limits-same : (limits : Limits) → AreOf (device_form limits) limits → own_limits limits ≡ limits
own-limits-same limits = as-of-same (device_form limits) limits

-- the image names the form of the limits
pub stands-form : (limits : Limits) (s : State) (image : Image) → StandsFor limits s image → device_form limits ≡ form_at image
stands-form limits s image is = device-form limits image is.kept.device

-- so it is not damaged
pub stands-none : (image : Image) (limits : Limits) (s : State) → StandsFor limits s image → HasNoStateIn (form_at image) image → ⊥
stands-none image limits s is none = none limits s (subst (λ (f : Format). StandsForIn f limits s image) (stands-form limits s image is) is)

pub StandsFor-one : (limits others : Limits) (s t : State) (image : Image) → length image < 2 ^ 32 → StandsFor limits s image → StandsFor others t image
    → (limits ≡ others) × (s ≡ t)
StandsFor-one limits others s t image fits is also =
    let same = stands-form limits s image is ∙ sym (stands-form others t image also) in
    StandsForIn-one (device_form limits) (form-known limits) limits others s t image fits is
    (subst (λ (f : Format). StandsForIn f others t image) (sym same) also)

-- each image that a crash now may leave stands for the base of a store
pub StoreMatches-stands : {D : Type 0} (medium : Medium) (store : StoreView D) (base : State) (pending : List PlainEvent)
    → StoreMatches medium store base pending → (image : Image) → medium.images_now image → StandsFor store.machine.limits base image
StoreMatches-stands = committing.stands_now

-- the epoch of what its disk reads is among the numbers that it has used
pub StoreMatches-epoch : {D : Type 0} (medium : Medium) (store : StoreView D) (base : State) (pending : List PlainEvent)
    → StoreMatches medium store base pending → epoch_at medium.contents ≤ numbers_used store
StoreMatches-epoch medium store base pending matches = omega (arith, committing.root-epoch medium store base pending matches)

-- ---- what calls accept

-- with no call, no event is accepted; the law is the disk's `only_now`
pub Takes-none : {D : Type 0} (medium : D → Medium)
    (law : (d : D) (image : Image) → (medium d).images_since (medium d).moment image → (medium d).images_now image)
    (store : StoreView D) → Takes medium store [] store
Takes-none = lives.takes-none

-- two calls, one after the other, accept the events of both
pub Takes-both : {D : Type 0} (medium : D → Medium) (first mid last : StoreView D) (events others : List PlainEvent)
    → Takes medium first events mid → Takes medium mid others last → Takes medium first (events ++ others) last
Takes-both = lives.takes-both

-- ---- how many events a store still takes

-- what is left of so many events, if the store has stopped or not
abbrev left_of : ℕ → Bool → ℕ
left_of came stopped = if stopped then 0 else 2 ^ 64 - 1 - came

-- a store that takes one more has not stopped
still-going : (came n : ℕ) (stopped : Bool) → 1 ≤ n → n ≤ left_of came stopped → stopped ≡ false
still-going came n true some fewer = absurd (omega (arith, some, fewer))
still-going came n false some fewer = refl

-- and so many more can be counted
still-counted : (came n : ℕ) (stopped : Bool) → 1 ≤ n → n ≤ left_of came stopped → came + n < 2 ^ 64
still-counted came n true some fewer = absurd (omega (arith, some, fewer))
still-counted came n false some fewer = omega (arith, some, fewer)

-- one that takes so many events more has not stopped
pub left-goes-on : {D : Type 0} (store : StoreView D) → 1 ≤ events_left store → store.stopped ≡ false
left-goes-on store some = still-going (store.confirmed + store.waiting) 1 store.stopped (omega arith) some

-- so many events more can be counted
pub left-counts : {D : Type 0} (store : StoreView D) (n : ℕ) → 1 ≤ n → n ≤ events_left store → store.confirmed + store.waiting + n < 2 ^ 64
left-counts store n some left = still-counted (store.confirmed + store.waiting) n store.stopped some left

-- after a step it takes one event less
pub left-less : {D : Type 0} (old new : StoreView D) (n : ℕ) → new.waiting ≡ old.waiting + 1 → new.confirmed ≡ old.confirmed
    → new.stopped ≡ old.stopped → n + 1 ≤ events_left old → n ≤ events_left new
left-less old new n waiting confirmed stopped left =
    let going : old.stopped ≡ false = left-goes-on old (omega (arith, left)) in
    let counts : old.confirmed + old.waiting + (n + 1) < 2 ^ 64 = left-counts old (n + 1) (omega arith) left in
    let fewer : n ≤ 2 ^ 64 - 1 - (new.confirmed + new.waiting) = omega (arith, counts, waiting, confirmed) in
    subst (λ (b : Bool). n ≤ left_of (new.confirmed + new.waiting) b) (sym (stopped ∙ going)) fewer

-- after a commit as many as before it
pub left-same : {D : Type 0} (old new : StoreView D) → old.stopped ≡ false → new.stopped ≡ false
    → new.confirmed + new.waiting ≡ old.confirmed + old.waiting → events_left new ≡ events_left old
left-same old new going goes same = rw (going, goes, same) refl

-- ---- how much room there is

-- after a step, so much as its record leaves
pub room-less : {D : Type 0} (old new : StoreView D) (e : PlainEvent) (bytes : ℕ) → new.records ≡ old.records ++ record_bytes e
    → HasRoomFor old (length (record_bytes e) + bytes) → HasRoomFor new bytes
room-less old new e bytes records room = omega (arith, room, ap length records, length-append old.records (record_bytes e))

-- the records of a tick and of an exit have their lengths, and none is longer than the longest
pub tick-length : (moment : ℕ) → length (record_bytes (Tick moment)) ≡ tick_record
tick-length moment = record-length (Tick moment)

pub exit-length : (pid moment : ℕ) → length (record_bytes (Exit pid moment)) ≡ exit_record
exit-length pid moment = record-length (Exit pid moment)

pub any-length : (e : PlainEvent) → HasRecord e → length (record_bytes e) ≤ longest_record
any-length = record-most
