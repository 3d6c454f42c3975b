-- A commit takes a store from its base to the state after what waits, by a batch more in the journal, or by a save.
use Rattle.std.proofs.Common.{◌≡◌, ◌≢◌, ◌⊎◌, Ok, Err, Result, inl, inr, ℕ, ◌+◌, ◌≤◌, ◌<◌, ◌++◌, List, [], ◌∷◌, length, refl, sym, ap, subst, ◌∙◌, arith}
use Rattle.std.specs.Prelude.{map, OnOk, ⊤}
use Rattle.std.proofs.lemmas.List.{map-append, length-append}
use Rattle.std.proofs.lemmas.List.Elements.{All-nil}
use Rattle.byteorder.specs.Endian.{big_bytes}
use Rattle.byteorder.specs.Numbers.{big_number-reads_back}
use Rattle.ipc_base.specs.Objects.{PlainObjects, OthersAreThere}
use Rattle.ipc_checkpoint.specs.Checkpoint.{IsElsewhere, epoch_in, Holds as HoldsObjects}
use Rattle.ipc_checkpoint.specs.declared.layout.Layout.{Layout}
use Rattle.ipc_checkpoint.specs.Matches.{CheckpointMatches, HoldsEither}
use Rattle.ipc_checkpoint.specs.View.{CheckpointView, epoch_of as saved_epoch, layout_of as saved_layout}
use Rattle.ipc_checkpoint.proofs.CallerLemmas.{Holds-since, CheckpointMatches-holds, CheckpointMatches-alone}
use Rattle.ipc_disk.specs.declared.range.Range.{Range}
use Rattle.ipc_disk.specs.Calls.{CountsFaultIf}
use Rattle.ipc_disk.specs.Counts.{Counts, counted, with_calls}
use Rattle.ipc_disk.specs.Medium.{Image, Medium}
use Rattle.ipc_disk.specs.Range.{IsOutside}
use Rattle.ipc_disk.specs.Since.{EachImageSince, LeavesAlone}
use Rattle.ipc_disk.specs.Standing.{sector_at}
use Rattle.ipc_disk.proofs.CallerLemmas.{EachImageSince-start, EachImageSince-both, EachImageSince-weaken, EachImageSince-now}
use Rattle.ipc_journal.specs.declared.journal.Journal.{Journal}
use Rattle.ipc_journal.specs.Batch.{length_in, IsBatch}
use Rattle.ipc_journal.specs.Journal.{Holds, IsOlder}
use Rattle.ipc_journal.specs.View.{form_of, range_of, epoch_of, used_of, count_of}
use Rattle.ipc_journal.specs.declared.form.Form.{Form}
use Rattle.ipc_journal.specs.Matches.{JournalMatches, HoldsOneMoreOrNot}
use Rattle.ipc_journal.specs.Meanwhile.{ComesInOrder}
use Rattle.ipc_journal.proofs.CallerLemmas.{ComesInOrder-moment, Holds-older, EachImageSince-alone, EachImageSince-older}
use Rattle.ipc_journal.proofs.CallerLemmas.{JournalMatches-alone, JournalMatches-turned}
use Rattle.ipc_state.specs.State.{State}
use Rattle.ipc_engine.specs.Engine.{Machine}
use Rattle.ipc_engine.specs.Event.{PlainEvent}
use Rattle.ipc_engine.specs.Step.{run}
use Rattle.ipc_image.specs.Records.{HasRecord}
use Rattle.ipc_image.specs.Changed.{differs_in}
use Rattle.ipc_image.specs.declared.format.Format.{Format}
use Rattle.ipc_image.specs.Format.{device_form}
use Rattle.ipc_image.specs.Saved.{StandForStateIn, saved_in}
use Rattle.ipc_image.proofs.CallerLemmas.{form-batch, others-there}
use Rattle.ipc_store.specs.declared.fault.CommitError.{CommitError}
use Rattle.ipc_store.specs.declared.fault.CommitError.TheVariants as commit
use Rattle.ipc_store.specs.Batch.{most_bytes, batch_bytes, AreBatch, AreBatchOf}
use Rattle.ipc_store.specs.Image.{journal_range, StandsFor, LeadTo, epoch_at}
use Rattle.ipc_store.specs.View.{StoreView, store_view}
use Rattle.ipc_store.specs.Relations.Matches.{StoreMatches, StandsForEither}
use Rattle.ipc_store.proofs.Devices.{IsPlace, IsPlace-since, device-form, has-batches, stands-with, device-stands, objects-outside}
use Rattle.ipc_store.proofs.Devices.{journal-outside, journal-some, first-outside, first-elsewhere}
use Rattle.ipc_store.proofs.Histories.{LeadTo-start, LeadTo-more}

-- the bytes of a batch say how many they are
pub is_batch : (records bytes : List ℕ) → bytes ≡ big_bytes 4 (length records) ++ records → 4 + length records ≤ most_bytes → IsBatch bytes
unfolding length_in
is_batch records bytes is size =
    let all : List ℕ = big_bytes 4 (length records) ++ records in
    let whole : length all ≡ 4 + length records = length-append (big_bytes 4 (length records)) records in
    let number : length_in all ≡ length records = big_number-reads_back 4 (length records) records (omega (arith, size)) in
    subst IsBatch (sym is) (record { field = omega (arith, whole); right = omega (arith, whole, number) })

-- one batch more, as bytes
batches-more : (batches : List (List PlainEvent)) (batch : List ℕ) (pending : List PlainEvent) → batch ≡ batch_bytes pending
    → map batch_bytes batches ++ batch ∷ [] ≡ map batch_bytes (batches ++ pending ∷ [])
batches-more batches batch pending is =
    ap (λ (b : List ℕ). map batch_bytes batches ++ b ∷ []) is ∙ sym (map-append batch_bytes batches (pending ∷ []))

module _ {D : Type 0} (medium : Medium) (store : StoreView D) (base : State) (pending : List PlainEvent)
    (at : StoreMatches medium store base pending) where
  -- each image now stands for the base
  pub stands_now : (image : Image) → medium.images_now image → StandsFor store.machine.limits base image
  stands_now = device-stands medium store.machine.limits store.checkpoint store.journal base at.device

  -- the root of the disk has its epoch
  pub root-epoch : epoch_at medium.contents ≡ saved_epoch store.checkpoint
  root-epoch =
      let reads = at.device.honest.reads in
      ap (λ (f : Format). epoch_in (sector_at medium.contents f.root))
      (sym (device-form store.machine.limits medium.contents (at.device.device medium.contents reads).0))
      ∙ ap (λ (l : Layout). epoch_in (sector_at medium.contents l.root)) (sym (at.device.device medium.contents reads).1)
      ∙ (CheckpointMatches-holds store.checkpoint at.device.objects medium at.device.saved medium.contents reads).there.current

  -- what waits makes a batch
  waits-batch : 4 + length store.records ≤ most_bytes → AreBatch pending
  waits-batch size = record {
    each = at.waits.each;
    size = subst (λ (x : List ℕ). 4 + length x ≤ most_bytes) at.waits.records size;
  }

  -- the bytes of what waits
  pub bytes-are : big_bytes 4 (length store.records) ++ store.records ≡ batch_bytes pending
  unfolding batch_bytes
  bytes-are = ap (λ (x : List ℕ). big_bytes 4 (length x) ++ x) at.waits.records

  -- where nothing waits, the base is the state of now
  pub none-waits : store.waiting ≡ 0 → StoreMatches medium store (run store.machine.limits base pending).state []
  none-waits none =
      let empty : pending ≡ [] = nothing pending (sym at.waits.count ∙ none) in
      subst (λ (es : List PlainEvent). StoreMatches medium store (run store.machine.limits base es).state []) (sym empty)
      (subst (λ (es : List PlainEvent). StoreMatches medium store base es) empty at)
    where
      nothing : (es : List PlainEvent) → length es ≡ 0 → es ≡ []
      nothing [] is = refl
      nothing (e ∷ es) is = absurd (omega (arith, is))

  -- one batch more leads to the state after what waits
  leads-more : 4 + length store.records ≤ most_bytes
      → LeadTo store.machine.limits at.device.from (at.device.batches ++ pending ∷ []) (run store.machine.limits base pending).state
  leads-more size =
      LeadTo-more (device_form store.machine.limits).batch store.machine.limits at.device.from at.device.batches pending base at.device.leads
      (subst (λ (n : ℕ). AreBatchOf n pending) (sym (form-batch store.machine.limits)) (waits-batch size)) at.waits.named

-- what a commit that appends has counted
pub append-counts : {D : Type 0} (counts : D → Counts) (old new : D) (writes syncs : ℕ) (done : Result ⊤ CommitError) → done ≢ Err commit.Stopped
    → (done ≡ Err commit.Device → (counts new).failures ≡ counted (counts old).failures 1)
    → OnOk done (counts new ≡ with_calls writes syncs (counts old)) → CountsFaultIf counts (done ≡ Err commit.Device) old new
append-counts counts old new writes syncs done runs failure made =
    record { failure = failure; no_failure = by_result done runs made }
  where
    by_result : (r : Result ⊤ CommitError) → r ≢ Err commit.Stopped → OnOk r (counts new ≡ with_calls writes syncs (counts old))
        → (r ≡ Err commit.Device) ⊎ ((counts new).failures ≡ (counts old).failures)
    by_result (Ok _) runs is = inr (ap (λ (n : Counts). n.failures) is)
    by_result (Err commit.Device) runs is = inl refl
    by_result (Err commit.Stopped) runs is = absurd (runs refl)

-- what holds of each image of a call is one of two states
abbrev Either : {D : Type 0} → StoreView D → State → List PlainEvent → Image → Type 0
Either store base pending = StandsForEither store.machine.limits base (run store.machine.limits base pending).state

-- a store that has committed
abbrev after : {D : Type 0} → StoreView D → Machine → D → CheckpointView → Journal → ℕ → StoreView D
after store machine disk checkpoint journal confirmed =
    store_view disk machine checkpoint journal (record { records = []; count = 0 }) confirmed store.stopped

module _ {D : Type 0} (old new : Medium) (store : StoreView D) (base : State) (pending : List PlainEvent)
    (at : StoreMatches old store base pending) where
  -- no call was made
  pub any_moment-none : ((image : Image) → old.images_since old.moment image → old.images_now image)
      → EachImageSince old old (Either store base pending)
  any_moment-none law =
      EachImageSince-start old (Either store base pending) law (λ image now. inl (stands_now old store base pending at image now))

  -- ---- a batch is appended

  module _ (size : 4 + length store.records ≤ most_bytes) (batch : List ℕ) (is : batch ≡ big_bytes 4 (length store.records) ++ store.records)
      (alone : LeavesAlone (IsOutside (range_of store.journal)) old new) where
    abbrev HasObjectsThere : Image → Type 0
    HasObjectsThere = HoldsObjects (saved_layout store.checkpoint) (saved_epoch store.checkpoint) at.device.objects

    places : EachImageSince old new (IsPlace store.machine.limits store.checkpoint)
    places =
        IsPlace-since (IsOutside (range_of store.journal)) store.machine.limits store.checkpoint old new
        (first-outside old store.machine.limits store.checkpoint store.journal base at.device) alone at.device.device

    objects : EachImageSince old new HasObjectsThere
    objects =
        Holds-since (saved_layout store.checkpoint) (IsOutside (range_of store.journal)) (saved_epoch store.checkpoint) at.device.objects old new
        (objects-outside old store.machine.limits store.checkpoint store.journal base at.device) alone
        (CheckpointMatches-holds store.checkpoint at.device.objects old at.device.saved)

    more : map batch_bytes at.device.batches ++ batch ∷ [] ≡ map batch_bytes (at.device.batches ++ pending ∷ [])
    more = batches-more at.device.batches batch pending (is ∙ bytes-are old store base pending at)

    -- with or without it
    either : (image : Image)
        → (IsPlace store.machine.limits store.checkpoint image × HasObjectsThere image)
        × HoldsOneMoreOrNot (form_of store.journal) (range_of store.journal) (epoch_of store.journal) (map batch_bytes at.device.batches) batch image
        → Either store base pending image
    either image ((is-place, there), inl holds) =
        inl (stands-with store.machine.limits (saved_layout store.checkpoint) (saved_epoch store.checkpoint) image
        is-place.0 is-place.1 at.device.objects there at.device.from at.device.stand at.device.batches
        (has-batches (device_form store.machine.limits) store.journal (saved_epoch store.checkpoint) at.device.batches image
        at.device.form at.device.range at.device.epoch holds)
        base at.device.leads)
    either image ((is-place, there), inr holds) =
        inr (stands-with store.machine.limits (saved_layout store.checkpoint) (saved_epoch store.checkpoint) image
        is-place.0 is-place.1 at.device.objects there at.device.from at.device.stand (at.device.batches ++ pending ∷ [])
        (has-batches (device_form store.machine.limits) store.journal (saved_epoch store.checkpoint) (at.device.batches ++ pending ∷ []) image
        at.device.form at.device.range
        at.device.epoch
        (subst (λ (bs : List (List ℕ)). Holds (form_of store.journal) (range_of store.journal) (epoch_of store.journal) bs image) more holds))
        (run store.machine.limits base pending).state (leads-more old store base pending at size))

    -- at any moment
    either-append : ((batches : List (List ℕ)) → JournalMatches store.journal batches old
        → EachImageSince old new (HoldsOneMoreOrNot (form_of store.journal) (range_of store.journal) (epoch_of store.journal) batches batch))
        → EachImageSince old new (Either store base pending)
    either-append moments =
        let one_more : Image → Type 0 =
        HoldsOneMoreOrNot (form_of store.journal) (range_of store.journal) (epoch_of store.journal) (map batch_bytes at.device.batches) batch in
        let both = EachImageSince-both old new (IsPlace store.machine.limits store.checkpoint) HasObjectsThere places objects in
        EachImageSince-weaken old new (λ image. (IsPlace store.machine.limits store.checkpoint image × HasObjectsThere image) × one_more image)
        (Either store base pending)
        (EachImageSince-both old new (λ image. IsPlace store.machine.limits store.checkpoint image × HasObjectsThere image) one_more both
        (moments (map batch_bytes at.device.batches) at.device.appended))
        either

    -- and then
    pub committed : (disk : D) (journal : Journal) (confirmed : ℕ)
        → form_of journal ≡ form_of store.journal → range_of journal ≡ range_of store.journal → epoch_of journal ≡ epoch_of store.journal
        → ((batches : List (List ℕ)) → JournalMatches store.journal batches old → JournalMatches journal (batches ++ batch ∷ []) new)
        → StoreMatches new (after store store.machine disk store.checkpoint journal confirmed) (run store.machine.limits base pending).state []
    committed disk journal confirmed form range epoch acknowledged = record {
      running = at.running;
      device = record {
        honest = alone.honest;
        form = form ∙ at.device.form;
        range = range ∙ at.device.range;
        epoch = epoch ∙ at.device.epoch;
        device = EachImageSince-now old new (IsPlace store.machine.limits store.checkpoint) places alone.honest;
        from = at.device.from;
        objects = at.device.objects;
        stand = at.device.stand;
        saved = CheckpointMatches-alone store.checkpoint at.device.objects (IsOutside (range_of store.journal)) old new
            (objects-outside old store.machine.limits store.checkpoint store.journal base at.device) alone at.device.saved;
        batches = at.device.batches ++ pending ∷ [];
        appended = subst (λ (bs : List (List ℕ)). JournalMatches journal bs new) more
            (acknowledged (map batch_bytes at.device.batches) at.device.appended);
        leads = leads-more old store base pending at size;
      };
      waits = record { records = refl; count = refl; each = All-nil HasRecord; named = tt; state = at.waits.state };
      tracked = at.tracked;
    }

  -- ---- the state is saved

  -- what was saved are the objects of the state then
  pub was-saved : (those : PlainObjects) → CheckpointMatches store.checkpoint those old
      → those ≡ saved_in (device_form store.machine.limits) at.device.from
  was-saved those there = sym there.map ∙ at.device.saved.map ∙ at.device.stand.are

  -- each object that does not count as changed is among them
  pub unchanged : (form : Format) → form ≡ device_form store.machine.limits
      → StandForStateIn form store.machine.limits store.machine.state (saved_in form store.machine.state)
      → (those : PlainObjects) → CheckpointMatches store.checkpoint those old
      → OthersAreThere (differs_in store.machine.changed (saved_in form store.machine.state)) (saved_in form store.machine.state) those
  unchanged form is stand those there =
      let objects : PlainObjects = saved_in form store.machine.state in
      let same : those ≡ saved_in form at.device.from =
      was-saved those there ∙ ap (λ (f : Format). saved_in f at.device.from) (sym is) in
      subst (λ (o : PlainObjects). OthersAreThere (differs_in store.machine.changed objects) objects o) (sym same)
      (others-there form form refl store.machine.limits store.machine.changed at.device.from store.machine.state at.tracked stand)

  module _ (epoch : ℕ) (later : saved_epoch store.checkpoint < epoch) (next : PlainObjects)
      (stand : StandForStateIn (device_form store.machine.limits) store.machine.limits store.machine.state next)
      (alone : LeavesAlone (IsElsewhere (saved_layout store.checkpoint)) old new) where
    spots : EachImageSince old new (IsPlace store.machine.limits store.checkpoint)
    spots =
        IsPlace-since (IsElsewhere (saved_layout store.checkpoint)) store.machine.limits store.checkpoint old new
        (first-elsewhere old store.machine.limits store.checkpoint store.journal base at.device) alone at.device.device

    abbrev HasBatchesThere : Image → Type 0
    HasBatchesThere image =
        Holds (form_of store.journal) (range_of store.journal) (epoch_of store.journal) (map batch_bytes at.device.batches) image
        × IsOlder (form_of store.journal) (range_of store.journal) epoch image

    -- in the journal's sectors, which stay, all is older than the epoch of the save
    batches-there : EachImageSince old new HasBatchesThere
    batches-there =
        let places : ℕ → Type 0 = IsElsewhere (saved_layout store.checkpoint) in
        let inside = journal-outside old store.machine.limits store.checkpoint store.journal base at.device in
        let some = journal-some old store.machine.limits store.checkpoint store.journal base at.device in
        EachImageSince-both old new
        (Holds (form_of store.journal) (range_of store.journal) (epoch_of store.journal) (map batch_bytes at.device.batches))
        (IsOlder (form_of store.journal) (range_of store.journal) epoch)
        (EachImageSince-alone places store.journal (map batch_bytes at.device.batches) old new some inside alone at.device.appended)
        (EachImageSince-older places store.journal (map batch_bytes at.device.batches) old new some inside alone at.device.appended epoch
        (omega (arith, at.device.epoch, later)))

    -- no batch leads from the new objects to the state after what waits
    no-batch : LeadTo store.machine.limits store.machine.state [] (run store.machine.limits base pending).state
    no-batch =
        subst (λ (s : State). LeadTo store.machine.limits store.machine.state [] s) at.waits.state
        (LeadTo-start (device_form store.machine.limits).batch store.machine.limits store.machine.state)

    -- the old objects or the new
    turned-or-not : (image : Image)
        → (IsPlace store.machine.limits store.checkpoint image × HasBatchesThere image)
        × HoldsEither (saved_layout store.checkpoint) (saved_epoch store.checkpoint) at.device.objects epoch next image
        → Either store base pending image
    turned-or-not image ((is-place, holds), inl there) =
        inl (stands-with store.machine.limits (saved_layout store.checkpoint) (saved_epoch store.checkpoint) image
        is-place.0 is-place.1 at.device.objects there at.device.from at.device.stand at.device.batches
        (has-batches (device_form store.machine.limits) store.journal (saved_epoch store.checkpoint) at.device.batches image
        at.device.form at.device.range at.device.epoch holds.0)
        base at.device.leads)
    turned-or-not image ((is-place, holds), inr there) =
        inr (stands-with store.machine.limits (saved_layout store.checkpoint) epoch image
        is-place.0 is-place.1 next there store.machine.state stand []
        (subst (λ (f : Form). Holds f (journal_range (device_form store.machine.limits)) epoch [] image) at.device.form
        (subst (λ (r : Range). Holds (form_of store.journal) r epoch [] image) at.device.range
        (Holds-older (form_of store.journal) (range_of store.journal) epoch image holds.1)))
        (run store.machine.limits base pending).state no-batch)

    -- at any moment
    pub any_moment-save : ((saved : PlainObjects) → CheckpointMatches store.checkpoint saved old
        → EachImageSince old new (HoldsEither (saved_layout store.checkpoint) (saved_epoch store.checkpoint) saved epoch next))
        → EachImageSince old new (Either store base pending)
    any_moment-save moments =
        let there : Image → Type 0 =
        HoldsEither (saved_layout store.checkpoint) (saved_epoch store.checkpoint) at.device.objects epoch next in
        let both = EachImageSince-both old new (IsPlace store.machine.limits store.checkpoint) HasBatchesThere spots batches-there in
        EachImageSince-weaken old new (λ image. (IsPlace store.machine.limits store.checkpoint image × HasBatchesThere image) × there image)
        (Either store base pending)
        (EachImageSince-both old new (λ image. IsPlace store.machine.limits store.checkpoint image × HasBatchesThere image) there both
        (moments at.device.objects at.device.saved))
        turned-or-not

    -- and then
    pub saved : (disk : D) (checkpoint : CheckpointView) (journal : Journal) (confirmed : ℕ)
        → saved_layout checkpoint ≡ saved_layout store.checkpoint → saved_epoch checkpoint ≡ epoch
        → form_of journal ≡ form_of store.journal → range_of journal ≡ range_of store.journal → epoch_of journal ≡ epoch
        → used_of journal ≡ 0 → count_of journal ≡ 0
        → ((objects : PlainObjects) → CheckpointMatches store.checkpoint objects old → CheckpointMatches checkpoint next new)
        → StoreMatches new (after store (record store.machine { changed = [] }) disk checkpoint journal confirmed)
        (run store.machine.limits base pending).state []
    saved disk checkpoint journal confirmed lies is-epoch form range journal-epoch used count matches = record {
      running = at.running;
      device = record {
        honest = alone.honest;
        form = form ∙ at.device.form;
        range = range ∙ at.device.range;
        epoch = journal-epoch ∙ sym is-epoch;
        device = λ image now. let is = EachImageSince-now old new (IsPlace store.machine.limits store.checkpoint) spots alone.honest image now in
            (is.0, lies ∙ is.1);
        from = store.machine.state;
        objects = next;
        stand = stand;
        saved = matches at.device.objects at.device.saved;
        batches = [];
        appended = JournalMatches-turned store.journal journal (map batch_bytes at.device.batches) new form range
            (omega (arith, at.device.epoch, later, journal-epoch)) used count
            (JournalMatches-alone (IsElsewhere (saved_layout store.checkpoint)) store.journal (map batch_bytes at.device.batches) old new
            (journal-some old store.machine.limits store.checkpoint store.journal base at.device)
            (journal-outside old store.machine.limits store.checkpoint store.journal base at.device) alone at.device.appended);
        leads = no-batch;
      };
      waits = record { records = refl; count = refl; each = All-nil HasRecord; named = tt; state = at.waits.state };
      tracked = λ o off e is. is;
    }

-- a batch is appended: at any moment
pub any_moment-append : {D : Type 0} (medium : D → Medium) (store : StoreView D) (new : D) (base : State) (pending : List PlainEvent)
    → StoreMatches (medium store.disk) store base pending → 4 + length store.records ≤ most_bytes
    → (batch : List ℕ) → batch ≡ big_bytes 4 (length store.records) ++ store.records
    → LeavesAlone (IsOutside (range_of store.journal)) (medium store.disk) (medium new)
    → ((batches : List (List ℕ)) → JournalMatches store.journal batches (medium store.disk)
    → ComesInOrder medium store.journal batches batch store.disk new)
    → EachImageSince (medium store.disk) (medium new) (Either store base pending)
any_moment-append medium store new base pending at size batch is alone comes =
    either-append (medium store.disk) (medium new) store base pending at size batch is alone
    (λ batches was. ComesInOrder-moment medium store.journal batches batch store.disk new (comes batches was))
