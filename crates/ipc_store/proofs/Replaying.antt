-- What a replay keeps: what it has gone through leads to the state of the machine, and whatever is good goes on from there.
use Rattle.std.proofs.Common.{◌≡◌, ◌⊎◌, inl, inr, ⊎_elim, ℕ, ◌+◌, ◌-◌, ◌<◌, ◌≤◌, List, [], ◌∷◌, ◌++◌, length, take, drop, map}
use Rattle.std.proofs.Common.{refl, sym, ◌∙◌, ap, subst, arith}
use Rattle.std.specs.Prelude.{All, slice_index}
use Rattle.std.specs.Int.{w32, from_be_bytes}
use Rattle.std.proofs.lemmas.List.{take_at, drop_at, take-append-drop, drop-take, drop-drop}
use Rattle.std.proofs.lemmas.List.{length-take, length-take-le, length-drop, length-append, length-map, get_or-take, get_or_past, map-append}
use Rattle.std.proofs.lemmas.Bool.{cases_lt}
use Rattle.std.proofs.lemmas.List.Elements.{All-head, All-tail, All-push}
use Rattle.std.proofs.lemmas.Nat.{be_bytes_4}
use Rattle.std.proofs.Math.Seq.{take-add}
use Rattle.byteorder.specs.Endian.{big_bytes, big_number}
use Rattle.byteorder.specs.Numbers.{big_from-take}
use Rattle.ipc_limits.specs.declared.limits.Limits.{Limits}
use Rattle.ipc_disk.specs.declared.range.Range.{Range}
use Rattle.ipc_disk.specs.Medium.{Image}
use Rattle.ipc_journal.specs.declared.form.Form.{Form}
use Rattle.ipc_journal.specs.declared.reader.Reader.{Reader}
use Rattle.ipc_journal.specs.Batch.{length_in, IsBatch}
use Rattle.ipc_journal.specs.Journal.{sector_of, sectors_in, sectors_of, EndsAt, Fill, Stand, HasLater, HasMore, HasNone, IsNext}
use Rattle.ipc_journal.specs.Reader.{place_of, before_of, form_read, range_read, epoch_read, HasRead, IsReaderOf}
use Rattle.ipc_journal.proofs.CallerLemmas.{EndsAt-later, EndsAt-more, EndsAt-next, HasLater-at, IsAt-one}
use Rattle.ipc_journal.proofs.CallerLemmas.{IsNext-at, IsNext-fill, IsNext-is, IsNext-more}
use Rattle.ipc_state.specs.State.{State}
use Rattle.ipc_engine.specs.Engine.{IsForProcess}
use Rattle.ipc_engine.specs.Event.{PlainEvent}
use Rattle.ipc_engine.specs.Step.{step, run}
use Rattle.ipc_engine.proofs.CallerLemmas.{run-parts}
use Rattle.ipc_image.specs.declared.format.Format.{Format}
use Rattle.ipc_image.specs.Records.{record_bytes, HasRecord, BeginsWith}
use Rattle.ipc_store.specs.Batch.{most_bytes, records_of, batch_bytes, AreBatchOf}
use Rattle.ipc_store.specs.Image.{journal_form, journal_range, place_after, AreFor, events_of, LeadToBy}
use Rattle.ipc_store.specs.Image.{HasBatchesThere, HasLaterAfter, HasNoBatchAfter}
use Rattle.ipc_store.specs.Relations.Replay.{AreRecords, Replays, IsBadAt, IsGoodUpTo}
use Rattle.ipc_store.proofs.Accepting.{records-more}
use Rattle.ipc_store.proofs.Committing.{is_batch}
use Rattle.ipc_store.proofs.Histories.{AreFor-first, AreFor-parts, LeadTo-start, LeadTo-more}

-- ---- events in parts

AreFor-next : (limits : Limits) (s : State) (xs ys : List PlainEvent) → AreFor limits s (xs ++ ys) → AreFor limits (run limits s xs).state ys
AreFor-next limits s [] ys all = all
AreFor-next limits s (x ∷ xs) ys all = AreFor-next limits (step limits s x).state xs ys all.1

-- ---- the records of a batch

-- a record has a byte
record_some : (e : PlainEvent) → 0 < length (record_bytes e)
unfolding record_bytes
record_some e = omega arith

module _ (limits : Limits) (s : State) (bytes : List ℕ) (e : PlainEvent) (more : List PlainEvent) (to : State)
    (are : AreRecords limits s bytes (e ∷ more) to) where
  -- records begin with the first of them
  begins : BeginsWith bytes e
  begins = record {
    has = All-head HasRecord e more are.each;
    front = ap (take (length (record_bytes e))) are.spelled ∙ take_at (record_bytes e) (records_of more) (length (record_bytes e)) refl;
  }

  -- and the others go on after it
  others : AreRecords limits (step limits s e).state (drop (length (record_bytes e)) bytes) more to
  others = record {
    each = All-tail HasRecord e more are.each;
    spelled = ap (drop (length (record_bytes e))) are.spelled ∙ drop_at (record_bytes e) (records_of more) (length (record_bytes e)) refl;
    named = are.named.1;
    state = are.state;
  }

-- the machine has gone through the records before this place
pub record GoneThrough (limits : Limits) (from : State) (bytes : List ℕ) (at : ℕ) (s : State) : Type 0 where
  pub within : at ≤ length bytes
  pub so_far : (events : List PlainEvent) × AreRecords limits from (take at bytes) events s
  pub ahead : (events : List PlainEvent) (to : State) → AreRecords limits from bytes events to
      → (more : List PlainEvent) × AreRecords limits s (drop at bytes) more to

-- a record takes at least a byte of what is left
pub record_left : (bytes : List ℕ) (at : ℕ) (e : PlainEvent) → BeginsWith (drop at bytes) e
    → (0 < length (record_bytes e)) × (length (record_bytes e) ≤ length bytes - at)
record_left bytes at e is =
    (record_some e, omega (arith, ap length is.front, length-take (length (record_bytes e)) (drop at bytes), length-drop at bytes))

-- what is left has a first record, which is the one that was read
module _ (limits : Limits) (bytes : List ℕ) (at : ℕ) (s : State) (e : PlainEvent) (is : BeginsWith (drop at bytes) e)
    (one : (f : PlainEvent) → BeginsWith (drop at bytes) f → f ≡ e) where
  ahead_more : (events : List PlainEvent) (to : State) → AreRecords limits s (drop at bytes) events to
      → (more : List PlainEvent) × AreRecords limits (step limits s e).state (drop (at + length (record_bytes e)) bytes) more to
  ahead_more [] to are =
      absurd (omega (arith, ap length are.spelled, length-drop at bytes, record_left bytes at e is))
  ahead_more (f ∷ more) to are =
      let same : f ≡ e = one f (begins limits s (drop at bytes) f more to are) in
      let rest = others limits s (drop at bytes) e more to (subst (λ (x : PlainEvent). AreRecords limits s (drop at bytes) (x ∷ more) to) same are) in
      (more, subst (λ (l : List ℕ). AreRecords limits (step limits s e).state l more to) (drop-drop (length (record_bytes e)) at bytes) rest)

pub gone_more : (limits : Limits) (from : State) (bytes : List ℕ) (at n : ℕ) (s : State) (e : PlainEvent) → GoneThrough limits from bytes at s
    → BeginsWith (drop at bytes) e → n ≡ length (record_bytes e) → ((f : PlainEvent) → BeginsWith (drop at bytes) f → f ≡ e) → IsForProcess s e
    → GoneThrough limits from bytes (at + n) (step limits s e).state
gone_more limits from bytes at n s e gone is size one for_one =
    let n_is : at + n ≡ at + length (record_bytes e) = omega (arith, size) in
    let events = gone.so_far.0 in
    let are = gone.so_far.1 in
    let reached : s ≡ (run limits from events).state = are.state in
    let next : AreRecords limits from (take (at + length (record_bytes e)) bytes) (events ++ e ∷ []) (step limits s e).state = record {
      each = All-push HasRecord events e are.each is.has;
      spelled =
          take-add at (length (record_bytes e)) bytes ∙ ap (λ (l : List ℕ). l ++ take (length (record_bytes e)) (drop at bytes)) are.spelled
          ∙ ap (λ (l : List ℕ). records_of events ++ l) is.front ∙ sym (records-more events e);
      named = AreFor-parts limits from events (e ∷ []) are.named (subst (λ (t : State). IsForProcess t e) reached for_one, tt);
      state = ap (λ (t : State). (step limits t e).state) reached ∙ sym (run-parts limits from events (e ∷ []));
    } in
    subst (λ (k : ℕ). GoneThrough limits from bytes k (step limits s e).state) (sym n_is) (record {
      within = omega (arith, record_left bytes at e is, gone.within);
      so_far = (events ++ e ∷ [], next);
      ahead = λ all to good. let rest = gone.ahead all to good in ahead_more limits bytes at s e is one rest.0 to rest.1;
    })

-- bytes that are records are not refused
pub gone_refused : (limits : Limits) (from : State) (bytes : List ℕ) (at : ℕ) (s : State) → GoneThrough limits from bytes at s → at < length bytes
    → ((f : PlainEvent) → BeginsWith (drop at bytes) f → IsForProcess s f → ⊥)
    → (events : List PlainEvent) (to : State) → AreRecords limits from bytes events to → ⊥
gone_refused limits from bytes at s gone lt refuses events to good = let rest = gone.ahead events to good in first rest.0 rest.1
  where
    first : (more : List PlainEvent) → AreRecords limits s (drop at bytes) more to → ⊥
    first [] are = omega (arith, ap length are.spelled, length-drop at bytes, lt)
    first (f ∷ more) are = refuses f (begins limits s (drop at bytes) f more to are) are.named.0

pub gone_only : (limits : Limits) (from : State) (bytes : List ℕ) (at : ℕ) (s : State) → GoneThrough limits from bytes at s → length bytes ≤ at
    → (events : List PlainEvent) (to : State) → AreRecords limits from bytes events to → s ≡ to
gone_only limits from bytes at s gone le events to good = let rest = gone.ahead events to good in last rest.0 rest.1
  where
    last : (more : List PlainEvent) → AreRecords limits s (drop at bytes) more to → s ≡ to
    last [] are = sym are.state
    last (f ∷ more) are =
        absurd (omega (arith, ap length are.spelled, length-drop at bytes, le, length-append (record_bytes f) (records_of more), record_some f))

-- ---- the bytes of a batch

length_batch : (events : List PlainEvent) → length (batch_bytes events) ≡ 4 + length (records_of events)
unfolding batch_bytes
length_batch events = length-append (big_bytes 4 (length (records_of events))) (records_of events)

records_in : (events : List PlainEvent) → drop 4 (batch_bytes events) ≡ records_of events
unfolding batch_bytes
records_in events = drop_at (big_bytes 4 (length (records_of events))) (records_of events) 4 refl

-- the first bytes of some that are below 256 are too
pub take_below : (n : ℕ) (xs : List ℕ) → ((i : ℕ) → slice_index xs i < 256) → (i : ℕ) → slice_index (take n xs) i < 256
take_below n xs below i =
    elim (cases_lt i n) [
      | inl lt ↦ rw (get_or-take n xs i 0 lt) (below i)
      | inr le ↦ rw (get_or_past (take n xs) i 0 (omega (arith, length-take n xs, le))) (omega arith)
    ]

number_is : (bytes : List ℕ) → big_number 4 bytes ≡ from_be_bytes w32 (take 4 bytes)
number_is bytes = sym (big_from-take 0 4 4 bytes (omega arith)) ∙ omega arith

-- bytes that are as long as they say, after whose length the records of events stand, are their batch
batch_is : (batch : List ℕ) (events : List PlainEvent) → IsBatch batch → ((i : ℕ) → slice_index (take 4 batch) i < 256)
    → drop 4 batch ≡ records_of events → batch ≡ batch_bytes events
unfolding batch_bytes length_in
batch_is batch events is below records =
    let size : length (records_of events) ≡ big_number 4 batch = omega (arith, ap length records, length-drop 4 batch, is.right, is.field) in
    let field : big_bytes 4 (big_number 4 batch) ≡ take 4 batch =
    be_bytes_4 (take 4 batch) (big_number 4 batch) (length-take-le 4 batch is.field) below (number_is batch) in
    sym (take-append-drop 4 batch) ∙ ap (λ (l : List ℕ). l ++ drop 4 batch) (sym field)
    ∙ ap (λ (n : ℕ). big_bytes 4 n ++ drop 4 batch) (sym size) ∙ ap (λ (l : List ℕ). big_bytes 4 (length (records_of events)) ++ l) records

-- ---- the batches of a journal

-- what holds of the journal that is read holds of that of the device
pub as-journal : (d : Format) (P : Form → Range → ℕ → Type 0) (epoch : ℕ) (reader : Reader) → IsReaderOf (journal_form d) (journal_range d) epoch reader
    → P (form_read reader) (range_read reader) (epoch_read reader) → P (journal_form d) (journal_range d) epoch
as-journal d P epoch reader is p =
    subst (λ (n : ℕ). P (journal_form d) (journal_range d) n) is.epoch_is
    (subst (λ (r : Range). P (journal_form d) r (epoch_read reader)) is.range_is
    (subst (λ (f : Form). P f (range_read reader) (epoch_read reader)) is.form_is p))

-- batches that go on from a place, after so many others, to where the journal ends, and lead from the state there to another
record GoOn (d : Format) (most : ℕ) (limits : Limits) (epoch : ℕ) (image : Image) (place before : ℕ) (s : State) (more : List (List PlainEvent)) (to : State)
    : Type 0 where
  fill : Fill (journal_form d) (journal_range d) epoch place before (map batch_bytes more) image
  ends : EndsAt (journal_form d) (journal_range d) epoch (place + sectors_of (journal_form d) (map batch_bytes more))
      (before + length (map batch_bytes more)) image
  each : All (AreBatchOf most) more
  named : AreFor limits s (events_of more)
  state : to ≡ (run limits s (events_of more)).state

-- the machine has gone through the batches that were read
pub record Replayed (d : Format) (most : ℕ) (limits : Limits) (from : State) (epoch : ℕ) (image : Image) (reader : Reader) (s : State) : Type 0 where
  pub of : IsReaderOf (journal_form d) (journal_range d) epoch reader
  pub so_far : (batches : List (List PlainEvent)) × LeadToBy most limits from batches s × HasRead reader (map batch_bytes batches) image
  ahead : (batches : List (List PlainEvent)) (to : State) → Replays d most limits from epoch image batches to
      → (more : List (List PlainEvent)) × GoOn d most limits epoch image (place_of reader) (before_of reader) s more to

pub replayed_none : (d : Format) (most : ℕ) (limits : Limits) (from : State) (epoch : ℕ) (image : Image) (reader : Reader)
    → IsReaderOf (journal_form d) (journal_range d) epoch reader → HasRead reader [] image → Replayed d most limits from epoch image reader from
replayed_none d most limits from epoch image reader is read = record {
  of = is;
  so_far = ([], LeadTo-start most limits from, read);
  ahead = λ batches to good. (
    batches,
    subst (λ (n : ℕ). GoOn d most limits epoch image n (before_of reader) from batches to) (sym (place_is reader read))
        (subst (λ (n : ℕ). GoOn d most limits epoch image 0 n from batches to) (sym read.count) (record {
          fill = good.holds.stand;
          ends = at_start (map batch_bytes batches) good.holds.ends;
          each = good.leads.each;
          named = good.leads.named;
          state = good.leads.state;
        })),
  );
}
  where
    place_is : (r : Reader) → HasRead r [] image → place_of r ≡ 0
    place_is r was = was.used

    at_start : (bs : List (List ℕ)) → EndsAt (journal_form d) (journal_range d) epoch (sectors_of (journal_form d) bs) (length bs) image
        → EndsAt (journal_form d) (journal_range d) epoch (0 + sectors_of (journal_form d) bs) (0 + length bs) image
    at_start bs end =
        let place : sectors_of (journal_form d) bs ≡ 0 + sectors_of (journal_form d) bs = omega arith in
        let count : length bs ≡ 0 + length bs = omega arith in
        subst (λ (n : ℕ). EndsAt (journal_form d) (journal_range d) epoch n (0 + length bs) image) place
        (subst (λ (n : ℕ). EndsAt (journal_form d) (journal_range d) epoch (sectors_of (journal_form d) bs) n image) count end)

-- the bytes of a batch say how many they are
batch-right : (most : ℕ) → most ≤ most_bytes → (events : List PlainEvent) → AreBatchOf most events → IsBatch (batch_bytes events)
unfolding batch_bytes
batch-right most few events batch = is_batch (records_of events) (batch_bytes events) refl (omega (arith, batch.size, few))

-- a batch has at most so many bytes
batch-short : (most : ℕ) (events : List PlainEvent) → AreBatchOf most events → length (batch_bytes events) ≤ most
batch-short most events batch = omega (arith, batch.size, length_batch events)

-- the batch that was found after what was read
pub record Found (d : Format) (most epoch : ℕ) (image : Image) (place before : ℕ) (batch : List ℕ) : Type 0 where
  pub next : IsNext (journal_form d) (journal_range d) epoch place before batch image
  pub short : length batch ≤ most
  pub field : (i : ℕ) → slice_index (take 4 batch) i < 256

-- the records in a batch
pub records_slice : (len : ℕ) (room : List ℕ) → 4 ≤ len → take (len - 4) (drop 4 room) ≡ drop 4 (take len room)
records_slice len room least =
    let whole : 4 + (len - 4) ≡ len = omega (arith, least) in
    sym (drop-take 4 (len - 4) room) ∙ ap (λ (n : ℕ). drop 4 (take n room)) whole

pub AreRecords-same : (a b : Limits) (s t : State) (x y : List ℕ) (events : List PlainEvent) → a ≡ b → x ≡ y → AreRecords a s x events t
    → AreRecords b s y events t
AreRecords-same a b s t x y events limits bytes are =
    subst (λ (l : Limits). AreRecords l s y events t) limits (subst (λ (z : List ℕ). AreRecords a s z events t) bytes are)

-- where a batch and others end
ends-after : (f : Form) (r : Range) (epoch place before : ℕ) (image : Image) (m : List PlainEvent) (ms : List (List PlainEvent))
    → EndsAt f r epoch (place + sectors_of f (map batch_bytes (m ∷ ms))) (before + length (map batch_bytes (m ∷ ms))) image
    → EndsAt f r epoch (place + (sectors_in f (length (batch_bytes m)) + sectors_of f (map batch_bytes ms))) (before + (length (map batch_bytes ms) + 1)) image
ends-after f r epoch place before image m ms end =
    let one : before + length (map batch_bytes (m ∷ ms)) ≡ before + (length (map batch_bytes ms) + 1) = omega arith in
    subst (λ (n : ℕ). EndsAt f r epoch (place + (sectors_in f (length (batch_bytes m)) + sectors_of f (map batch_bytes ms))) n image) one end

-- what goes on from a place begins with the batch that is found there
module _ (d : Format) (most : ℕ) (limits : Limits) (epoch : ℕ) (image : Image) (place before : ℕ) (s : State) (batch : List ℕ)
    (found : Found d most epoch image place before batch)
    (m : List PlainEvent) (ms : List (List PlainEvent)) (to : State) (left : GoOn d most limits epoch image place before s (m ∷ ms) to) where
  first_is : batch_bytes m ≡ batch
  first_is =
      IsAt-one (journal_form d) (journal_range d) epoch place before (batch_bytes m) batch image left.fill.0
      (IsNext-is (journal_form d) (journal_range d) epoch place before batch image found.next) left.fill.1
      (IsNext-at (journal_form d) (journal_range d) epoch place before batch image found.next)

  first_records : AreRecords limits s (drop 4 batch) m (run limits s m).state
  first_records = record {
    each = (All-head (AreBatchOf most) m ms left.each).each;
    spelled = ap (drop 4) (sym first_is) ∙ records_in m;
    named = AreFor-first limits s m (events_of ms) left.named;
    state = refl;
  }

  after_first : GoOn d most limits epoch image (place + sectors_in (journal_form d) (length batch)) (before + 1) (run limits s m).state ms to
  after_first =
      let taken : ℕ = sectors_in (journal_form d) (length (batch_bytes m)) in
      let left_of : ℕ = sectors_of (journal_form d) (map batch_bytes ms) in
      let ends_at : place + (taken + left_of) ≡ place + taken + left_of = omega arith in
      let after : before + (length (map batch_bytes ms) + 1) ≡ before + 1 + length (map batch_bytes ms) = omega arith in
      subst (λ (l : List ℕ). GoOn d most limits epoch image (place + sectors_in (journal_form d) (length l)) (before + 1) (run limits s m).state ms to)
      first_is (record {
        fill = left.fill.2;
        ends = subst (λ (n : ℕ). EndsAt (journal_form d) (journal_range d) epoch n (before + 1 + length (map batch_bytes ms)) image) ends_at
            (subst (λ (n : ℕ). EndsAt (journal_form d) (journal_range d) epoch (place + (taken + left_of)) n image) after
            (ends-after (journal_form d) (journal_range d) epoch place before image m ms left.ends));
        each = All-tail (AreBatchOf most) m ms left.each;
        named = AreFor-next limits s m (events_of ms) left.named;
        state = left.state ∙ run-parts limits s m (events_of ms);
      })

-- where the journal goes on to its end, it ends at the place if nothing more is there
ends-here : (d : Format) (most : ℕ) (limits : Limits) (epoch : ℕ) (image : Image) (place before : ℕ) (s to : State)
    → GoOn d most limits epoch image place before s [] to
    → EndsAt (journal_form d) (journal_range d) epoch place before image
ends-here d most limits epoch image place before s to left =
    let no_sector : place + 0 ≡ place = omega arith in
    let none : before + 0 ≡ before = omega arith in
    subst (λ (n : ℕ). EndsAt (journal_form d) (journal_range d) epoch n before image) no_sector
    (subst (λ (n : ℕ). EndsAt (journal_form d) (journal_range d) epoch (place + 0) n image) none left.ends)

module _ (d : Format) (most : ℕ) (few : most ≤ most_bytes) (limits : Limits) (from : State) (epoch : ℕ) (image : Image) (reader : Reader) (s : State)
    (replayed : Replayed d most limits from epoch image reader s) where
  abbrev so_far : List (List PlainEvent)
  so_far = replayed.so_far.0

  abbrev read : HasRead reader (map batch_bytes so_far) image
  read = replayed.so_far.2

  form_is : form_read reader ≡ journal_form d
  form_is = replayed.of.form_is

  -- they take as many sectors as were passed, and are as many
  place_is : place_of reader ≡ place_after d so_far
  place_is = read.used ∙ ap (λ (f : Form). sectors_of f (map batch_bytes so_far)) form_is

  before_is : before_of reader ≡ length so_far
  before_is = read.count ∙ length-map so_far batch_bytes

  there : HasBatchesThere d epoch so_far image
  there =
      subst (λ (n : ℕ). Stand (journal_form d) (journal_range d) n (map batch_bytes so_far) image) replayed.of.epoch_is
      (subst (λ (r : Range). Stand (journal_form d) r (epoch_read reader) (map batch_bytes so_far) image) replayed.of.range_is
      (subst (λ (f : Form). Stand f (range_read reader) (epoch_read reader) (map batch_bytes so_far) image) form_is read.stand))

  -- where the journal ends, all of it was read
  pub replayed_all : EndsAt (journal_form d) (journal_range d) epoch (place_of reader) (before_of reader) image
      → (batches : List (List PlainEvent)) × Replays d most limits from epoch image batches s × HasRead reader (map batch_bytes batches) image
  replayed_all end = (
    so_far,
    record {
      holds = record {
        stand = there;
        ends = subst (λ (n : ℕ). EndsAt (journal_form d) (journal_range d) epoch n (length (map batch_bytes so_far)) image) place_is
            (subst (λ (n : ℕ). EndsAt (journal_form d) (journal_range d) epoch (place_of reader) n image) read.count end);
      };
      leads = replayed.so_far.1;
    },
    read,
  )

  -- what is before the place is good
  good-before : (sector : ℕ) → sector ≡ sector_of (journal_form d) (journal_range d) (place_of reader)
      → HasNoBatchAfter d most limits s epoch so_far image ⊎ HasLaterAfter d epoch so_far image → IsGoodUpTo d most limits from epoch image sector
  good-before sector is none = record {
    batches = so_far;
    state = s;
    leads = replayed.so_far.1;
    there = there;
    sector_is = is ∙ ap (sector_of (journal_form d) (journal_range d)) place_is;
    none = none;
  }

  -- where nothing goes on, the journal ends
  here : (to : State) → GoOn d most limits epoch image (place_of reader) (before_of reader) s [] to
      → EndsAt (journal_form d) (journal_range d) epoch (place_of reader) (before_of reader) image
  here to left = ends-here d most limits epoch image (place_of reader) (before_of reader) s to left

  -- what stands there is no batch, or of a later epoch
  module _ (bad : HasLater (journal_form d) (journal_range d) epoch (place_of reader) image
      ⊎ (HasMore (journal_form d) (journal_range d) epoch (place_of reader) (before_of reader) image
      × HasNone (journal_form d) (journal_range d) epoch (place_of reader) (before_of reader) most image)) where
    damaged-none : (batches : List (List PlainEvent)) (to : State) → Replays d most limits from epoch image batches to → ⊥
    damaged-none batches to good = let rest = replayed.ahead batches to good in first rest.0 rest.1 bad
      where
        first : (more : List (List PlainEvent)) → GoOn d most limits epoch image (place_of reader) (before_of reader) s more to
            → HasLater (journal_form d) (journal_range d) epoch (place_of reader) image
            ⊎ (HasMore (journal_form d) (journal_range d) epoch (place_of reader) (before_of reader) image
            × HasNone (journal_form d) (journal_range d) epoch (place_of reader) (before_of reader) most image) → ⊥
        first [] left (inl later) =
            EndsAt-later (journal_form d) (journal_range d) epoch (place_of reader) (before_of reader) image (here to left) later
        first [] left (inr more) =
            EndsAt-more (journal_form d) (journal_range d) epoch (place_of reader) (before_of reader) image (here to left) more.0
        first (m ∷ ms) left (inl later) =
            HasLater-at (journal_form d) (journal_range d) epoch (place_of reader) (before_of reader) (batch_bytes m) image left.fill.1 later
        first (m ∷ ms) left (inr more) =
            more.1 (batch_bytes m) (batch-short most m (All-head (AreBatchOf most) m ms left.each))
            (IsNext-fill (journal_form d) (journal_range d) epoch (place_of reader) (before_of reader) (batch_bytes m) (map batch_bytes ms)
            (before_of reader + length (map batch_bytes (m ∷ ms))) image left.fill left.ends)

    damaged-after : HasNoBatchAfter d most limits s epoch so_far image ⊎ HasLaterAfter d epoch so_far image
    damaged-after = ⊎_elim
        (λ later. inr (subst (λ (n : ℕ). HasLater (journal_form d) (journal_range d) epoch n image) place_is later))
        (λ more. inl (subst (λ (n : ℕ). NoneAt n (length so_far)) place_is (subst (NoneAt (place_of reader)) before_is (more.0, none more.1))))
        bad
      where
        NoneAt : ℕ → ℕ → Type 0
        NoneAt place before = HasMore (journal_form d) (journal_range d) epoch place before image
            × ((events : List PlainEvent) → AreBatchOf most events → AreFor limits s events
            → ¬ IsNext (journal_form d) (journal_range d) epoch place before (batch_bytes events) image)

        none : HasNone (journal_form d) (journal_range d) epoch (place_of reader) (before_of reader) most image
            → (events : List PlainEvent) → AreBatchOf most events → AreFor limits s events
            → ¬ IsNext (journal_form d) (journal_range d) epoch (place_of reader) (before_of reader) (batch_bytes events) image
        none refuses events each named next = refuses (batch_bytes events) (batch-short most events each) next

    pub replayed_damaged : (sector : ℕ) → sector ≡ sector_of (journal_form d) (journal_range d) (place_of reader)
        → IsBadAt d most limits from epoch image sector
    replayed_damaged sector is = record { none = damaged-none; first = good-before sector is damaged-after }

  module _ (batch : List ℕ) (found : Found d most epoch image (place_of reader) (before_of reader) batch) where
    -- where a batch was found, something goes on
    something : (to : State) → GoOn d most limits epoch image (place_of reader) (before_of reader) s [] to → ⊥
    something to left =
        EndsAt-next (journal_form d) (journal_range d) epoch (place_of reader) (before_of reader) batch image (here to left) found.next

    -- its records are those of no events that can come there
    module _ (refuses : (events : List PlainEvent) (to : State) → AreRecords limits s (drop 4 batch) events to → ⊥) where
      refused-none : (batches : List (List PlainEvent)) (to : State) → Replays d most limits from epoch image batches to → ⊥
      refused-none batches to good = let rest = replayed.ahead batches to good in first rest.0 rest.1
        where
          first : (more : List (List PlainEvent)) → GoOn d most limits epoch image (place_of reader) (before_of reader) s more to → ⊥
          first [] left = something to left
          first (m ∷ ms) left =
              refuses m (run limits s m).state
              (first_records d most limits epoch image (place_of reader) (before_of reader) s batch found m ms to left)

      no-batch : (events : List PlainEvent) → AreBatchOf most events → AreFor limits s events
          → ¬ IsNext (journal_form d) (journal_range d) epoch (place_of reader) (before_of reader) (batch_bytes events) image
      no-batch events each named next =
          let same : batch_bytes events ≡ batch =
          IsAt-one (journal_form d) (journal_range d) epoch (place_of reader) (before_of reader) (batch_bytes events) batch image
          (IsNext-is (journal_form d) (journal_range d) epoch (place_of reader) (before_of reader) (batch_bytes events) image next)
          (IsNext-is (journal_form d) (journal_range d) epoch (place_of reader) (before_of reader) batch image found.next)
          (IsNext-at (journal_form d) (journal_range d) epoch (place_of reader) (before_of reader) (batch_bytes events) image next)
          (IsNext-at (journal_form d) (journal_range d) epoch (place_of reader) (before_of reader) batch image found.next) in
          refuses events (run limits s events).state
          (record { each = each.each; spelled = ap (drop 4) (sym same) ∙ records_in events; named = named; state = refl })

      pub replayed_refused : (sector : ℕ) → sector ≡ sector_of (journal_form d) (journal_range d) (place_of reader)
          → IsBadAt d most limits from epoch image sector
      replayed_refused sector is = record {
        none = refused-none;
        first = good-before sector is
            (inl (subst (λ (n : ℕ). NoneAt n (length so_far)) place_is (subst (NoneAt (place_of reader)) before_is
            (IsNext-more (journal_form d) (journal_range d) epoch (place_of reader) (before_of reader) batch image found.next, no-batch))));
      }
        where
          NoneAt : ℕ → ℕ → Type 0
          NoneAt place before = HasMore (journal_form d) (journal_range d) epoch place before image
              × ((events : List PlainEvent) → AreBatchOf most events → AreFor limits s events
              → ¬ IsNext (journal_form d) (journal_range d) epoch place before (batch_bytes events) image)

    -- the machine goes through them
    module _ (next : Reader) (is : IsReaderOf (journal_form d) (journal_range d) epoch next)
        (read-next : HasRead next (map batch_bytes so_far ++ batch ∷ []) image)
        (passes : place_of next ≡ place_of reader + sectors_in (journal_form d) (length batch)) (count : before_of next ≡ before_of reader + 1)
        (events : List PlainEvent) (t : State) (are : AreRecords limits s (drop 4 batch) events t)
        (only : (es : List PlainEvent) (to : State) → AreRecords limits s (drop 4 batch) es to → t ≡ to) where
      next_leads : LeadToBy most limits from (so_far ++ events ∷ []) t
      next_leads =
          let right = IsNext-is (journal_form d) (journal_range d) epoch (place_of reader) (before_of reader) batch image found.next in
          let batch_of : AreBatchOf most events = record {
            each = are.each;
            size = omega (arith, ap length are.spelled, length-drop 4 batch, right.field, found.short);
          } in
          subst (λ (u : State). LeadToBy most limits from (so_far ++ events ∷ []) u) (sym are.state)
          (LeadTo-more most limits from so_far events s replayed.so_far.1 batch_of are.named)

      next_read : HasRead next (map batch_bytes (so_far ++ events ∷ [])) image
      next_read =
          let right = IsNext-is (journal_form d) (journal_range d) epoch (place_of reader) (before_of reader) batch image found.next in
          let same : map batch_bytes so_far ++ batch ∷ [] ≡ map batch_bytes (so_far ++ events ∷ []) =
          ap (λ (l : List ℕ). map batch_bytes so_far ++ l ∷ []) (batch_is batch events right found.field are.spelled)
          ∙ sym (map-append batch_bytes so_far (events ∷ [])) in
          subst (λ (bs : List (List ℕ)). HasRead next bs image) same read-next

      ahead_next : (more : List (List PlainEvent)) (to : State) → GoOn d most limits epoch image (place_of reader) (before_of reader) s more to
          → (rest : List (List PlainEvent)) × GoOn d most limits epoch image (place_of next) (before_of next) t rest to
      ahead_next [] to left = absurd (something to left)
      ahead_next (m ∷ ms) to left =
          let same : t ≡ (run limits s m).state =
          only m (run limits s m).state (first_records d most limits epoch image (place_of reader) (before_of reader) s batch found m ms to left) in (
            ms,
            subst (λ (n : ℕ). GoOn d most limits epoch image n (before_of next) t ms to) (sym passes)
                (subst (λ (n : ℕ). GoOn d most limits epoch image (place_of reader + sectors_in (journal_form d) (length batch)) n t ms to) (sym count)
                (subst
                (λ (u : State).
                GoOn d most limits epoch image (place_of reader + sectors_in (journal_form d) (length batch)) (before_of reader + 1) u ms to)
                (sym same) (after_first d most limits epoch image (place_of reader) (before_of reader) s batch found m ms to left))),
          )

      -- one batch more
      pub replayed_more : Replayed d most limits from epoch image next t
      replayed_more = record {
        of = is;
        so_far = (so_far ++ events ∷ [], next_leads, next_read);
        ahead = λ all to good. let rest = replayed.ahead all to good in ahead_next rest.0 to rest.1;
      }
