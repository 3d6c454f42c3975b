-- What one finds who reads a device while a store goes on.
use Rattle.std.proofs.Common.{◌≡◌, ◌⊎◌, inl, inr, ⊎_elim, ℕ, ◌+◌, ◌<◌, List, ◌++◌, length, map, take, drop, refl, sym, ap, subst, ◌∙◌, arith}
use Rattle.std.proofs.Common.{take-append-drop}
use Rattle.std.specs.Prelude.{All, Contains}
use Rattle.std.proofs.lemmas.List.{append_cancel_left, map-append, take-map, take_at}
use Rattle.std.proofs.lemmas.List.Concat.{flat_map-append}
use Rattle.std.proofs.lemmas.List.Elements.{All-contains, All-take}
use Rattle.byteorder.specs.Endian.{big_bytes}
use Rattle.ipc_limits.specs.declared.limits.Limits.{Limits}
use Rattle.ipc_base.specs.Objects.{PlainObjects}
use Rattle.ipc_checkpoint.specs.declared.layout.Layout.{Layout}
use Rattle.ipc_checkpoint.specs.Checkpoint.{IsElsewhere, epoch_in}
use Rattle.ipc_checkpoint.specs.Matches.{CheckpointMatches}
use Rattle.ipc_checkpoint.specs.Meanwhile.{EachLater, KeepsUsedOrTurns}
use Rattle.ipc_checkpoint.specs.View.{CheckpointView, epoch_of as saved_epoch, layout_of as saved_layout}
use Rattle.ipc_checkpoint.proofs.CallerLemmas.{CheckpointMatches-holds}
use Rattle.ipc_disk.specs.declared.range.Range.{Range}
use Rattle.ipc_disk.specs.Medium.{Image, Medium, IsHonest}
use Rattle.ipc_disk.specs.Range.{IsInside, IsOutside}
use Rattle.ipc_disk.specs.Since.{EachImageSince, LeavesAlone, SameAt}
use Rattle.ipc_disk.specs.Standing.{sector_at}
use Rattle.ipc_disk.proofs.CallerLemmas.{EachImageSince-both, EachImageSince-weaken, LeavesAlone-start, sector_at-same}
use Rattle.ipc_heap.specs.Heap.{Allocation, HoldsIn, used}
use Rattle.ipc_heap.specs.Meanwhile.{IsUsedIn, KeepsUsed}
use Rattle.ipc_heap.proofs.CallerLemmas.{EachLater-start, HoldsIn-one, HoldsIn-sectors}
use Rattle.ipc_journal.specs.Batch.{epoch_in as journal_epoch}
use Rattle.ipc_journal.specs.Journal.{Holds, Stand}
use Rattle.ipc_journal.specs.Matches.{HoldsOneMoreOrNot, JournalMatches}
use Rattle.ipc_journal.specs.Meanwhile.{ComesInOrder, IsPartOf, IsReadFrom, KeepsBatches}
use Rattle.ipc_journal.specs.declared.journal.Journal.{Journal}
use Rattle.ipc_journal.specs.View.{form_of, epoch_of, range_of}
use Rattle.ipc_journal.specs.declared.form.Form.{Form}
use Rattle.ipc_journal.specs.declared.form.Form.TheVariants.{Headed, Tagged}
use Rattle.ipc_journal.proofs.CallerLemmas.{ComesInOrder-alone, ComesInOrder-moment, Holds-read}
use Rattle.ipc_journal.proofs.CallerLemmas.{KeepsBatches-append, KeepsBatches-refl, KeepsBatches-same, KeepsBatches-stand, KeepsBatches-then, Stand-read}
use Rattle.ipc_state.specs.State.{State}
use Rattle.ipc_engine.specs.Event.{PlainEvent}
use Rattle.ipc_engine.specs.Step.{run}
use Rattle.ipc_image.specs.declared.format.Format.{Format}
use Rattle.ipc_image.specs.Format.{device_form}
use Rattle.ipc_image.specs.Superblock.{IsSuperblockIn, sectors_in, named_form}
use Rattle.ipc_store.specs.Batch.{batch_bytes, AreBatchOf}
use Rattle.ipc_store.specs.Image.{AreFor, events_of}
use Rattle.ipc_store.specs.Image.{HasBase, HasBatches, StandsFor, epoch_at, form_at, journal_form, journal_range, layout_of, named_sectors, objects_range}
use Rattle.ipc_store.specs.Meanwhile.{GoesOn, HasOneRoot, IsNeeded, IsOfSameSave, IsRead, IsReadInParts, StaysReadable}
use Rattle.ipc_store.specs.Relations.Matches.{StoreMatches}
use Rattle.ipc_store.specs.View.{StoreView}
use Rattle.ipc_store.proofs.Committing.{bytes-are}
use Rattle.ipc_store.proofs.Histories.{AreFor-first, LeadTo-many}
use Rattle.ipc_store.proofs.Devices.{IsPlace, IsPlace-since, batches-now, device-form, first-elsewhere, journal-outside, journal-same, journal-some, placed-at}

-- where the objects of an image lie
abbrev its_range : Image → Range
its_range image = objects_range (form_at image) (named_sectors image)

-- where their root stands
abbrev its_root : Image → ℕ
its_root image = (form_at image).root

-- nothing that is needed is in the journal
needed-outside : (image : Image) (i : ℕ) → IsNeeded image i → IsOutside (journal_range (form_at image)) i
needed-outside image i (inl first) = inl (omega (arith, first))
needed-outside image i (inr (inl root)) = inl (omega (arith, root, (placed-at image).root.1))
needed-outside image i (inr (inr u)) =
    let inside : IsInside (its_range image) i = All-contains (IsInside (its_range image)) (used u.has) i u.there.allocated.inside u.is in
    inr (omega (arith, inside.0))

-- ---- images of one save

pub same-refl : (image : Image) → IsOfSameSave image image
same-refl image = record {
  needed = record { count = refl; sectors = λ i here. refl };
  journal = KeepsBatches-refl (journal_form (form_at image)) (journal_range (form_at image)) (epoch_at image) image;
}

module _ (a b : Image) (same : IsOfSameSave a b) where
  same-sector : (i : ℕ) → IsNeeded a i → sector_at a i ≡ sector_at b i
  same-sector i need = sector_at-same (IsNeeded a) a b i same.needed need

  same-form : form_at a ≡ form_at b
  same-form = ap named_form (same-sector 0 (inl refl))

  same-range : its_range a ≡ its_range b
  same-range = ap (λ (s : List ℕ). objects_range (named_form s) (sectors_in s)) (same-sector 0 (inl refl))

  same-epoch : epoch_at a ≡ epoch_at b
  same-epoch = ap epoch_in (same-sector (its_root a) (inr (inl refl))) ∙ ap (λ (f : Format). epoch_in (sector_at b f.root)) same-form

  -- the objects stand in the same sectors
  same-holds : (epoch : ℕ) (has : Allocation) (objects : PlainObjects) → HoldsIn (its_range a) (its_root a) epoch has objects a
      → HoldsIn (its_range a) (its_root a) epoch has objects b
  same-holds epoch has objects there =
      HoldsIn-sectors a b (its_range a) (its_root a) epoch has objects (same-sector (its_root a) (inr (inl refl)))
      (λ s is. same-sector s (inr (inr (record { epoch = epoch; has = has; objects = objects; there = there; is = is })))) there

  same-needed : (i : ℕ) → IsNeeded a i → IsNeeded b i
  same-needed i (inl first) = inl first
  same-needed i (inr (inl root)) = inr (inl (root ∙ ap (λ (f : Format). f.root) same-form))
  same-needed i (inr (inr u)) =
      inr (inr (subst (λ (s : List ℕ). IsUsedIn (objects_range (named_form s) (sectors_in s)) (named_form s).root b i) (same-sector 0 (inl refl)) (record {
        epoch = u.epoch;
        has = u.has;
        objects = u.objects;
        there = same-holds u.epoch u.has u.objects u.there;
        is = u.is;
      })))

  same-then : (c : Image) → IsOfSameSave b c → IsOfSameSave a c
  same-then c next = record {
    needed = record {
      count = same.needed.count ∙ next.needed.count;
      sectors = λ i need. same.needed.sectors i need ∙ next.needed.sectors i (same-needed i need);
    };
    journal = KeepsBatches-then (journal_form (form_at a)) (journal_range (form_at a)) (epoch_at a) a b c same.journal
        (subst (λ (e : ℕ). KeepsBatches (journal_form (form_at a)) (journal_range (form_at a)) e b c) (sym same-epoch)
        (subst (λ (f : Format). KeepsBatches (journal_form f) (journal_range f) (epoch_at b) b c) (sym same-form) next.journal));
  }

-- it goes on from there
pub goes-on-then : (a b c : Image) → GoesOn a b → GoesOn b c → GoesOn a c
goes-on-then a b c (inl same) (inl next) = inl (same-then a b same c next)
goes-on-then a b c (inl same) (inr turned) = inr (record {
  form = same-form a b same ∙ turned.form;
  epoch = omega (arith, same-epoch a b same, turned.epoch);
})
goes-on-then a b c (inr turned) (inl next) = inr (record {
  form = turned.form ∙ same-form b c next;
  epoch = omega (arith, turned.epoch, same-epoch b c next);
})
goes-on-then a b c (inr turned) (inr more) = inr (record { form = turned.form ∙ more.form; epoch = omega (arith, turned.epoch, more.epoch) })

-- under one root it is of the same save
same-root : (a b : Image) → HasOneRoot a b → IsOfSameSave a b
same-root a b (inl same, root) = same
same-root a b (inr turned, root) =
    absurd (omega (arith, turned.epoch, ap epoch_in root, ap (λ (f : Format). epoch_in (sector_at b f.root)) turned.form))

-- ---- what is read meanwhile

-- what is read if nobody writes
pub read-same : (image : Image) → IsRead image image image
read-same image =
    let one : HasOneRoot image image = (inl (same-refl image), refl) in
    record {
      count = refl;
      outside = λ i out. (image, one, refl);
      one_root = one;
      journal = record {
        header = refl;
        body = λ i low high. (image, (λ batches holds. holds.stand), refl);
      };
    }

pub parts-same : (image : Image) → IsReadInParts image image image
parts-same image = record { count = refl; each = λ i. (image, (inl (same-refl image), refl), λ j lt. inr refl, refl) }

-- where an image has the superblock of another, and its objects, it is of the same save
base-read : (limits : Limits) (epoch : ℕ) (base : State) (image read : Image) (kept : HasBase limits epoch base image)
    → length read ≡ length image → sector_at image 0 ≡ sector_at read 0
    → HoldsIn (objects_range (device_form limits) (named_sectors image)) (device_form limits).root epoch kept.there.allocation kept.objects read
    → HasBase limits epoch base read
base-read limits epoch base image read kept count sector there =
    let d = device_form limits in
    let named : named_sectors image ≡ named_sectors read = ap sectors_in sector in
    record {
      device = record {
        superblock = subst (λ (l : List ℕ). IsSuperblockIn d (sectors_in l) limits l) sector kept.device.superblock;
        whole = omega (arith, kept.device.whole, count, named);
      };
      objects = kept.objects;
      there = record {
        allocation = kept.there.allocation;
        there = subst (λ (k : ℕ). HoldsIn (objects_range d k) d.root epoch kept.there.allocation kept.objects read) named there;
      };
      stand = kept.stand;
    }

module _ (first seen read : Image) (is : IsRead first seen read) where
  seen-same : IsOfSameSave first seen
  seen-same = same-root first seen is.one_root

  -- what is needed is as it is in each of the images
  read-sector : (i : ℕ) → IsNeeded first i → sector_at seen i ≡ sector_at read i
  read-sector i need =
      let from = is.outside i (needed-outside first i need) in
      sym (same-sector first seen seen-same i need) ∙ same-sector first from.0 (same-root first from.0 from.1) i need ∙ sym from.2

  pub read-stands : (limits : Limits) (was s : State) → journal_form (device_form limits) ≡ Headed → StandsFor limits was first
      → StandsFor limits s seen → StandsFor limits s read
  read-stands limits was s headed began stands =
      let d = device_form limits in
      let named-first : d ≡ form_at first = device-form limits first began.kept.device in
      let there = began.kept.there in
      let n : ℕ = named_sectors first in
      let R : Range = objects_range d n in
      let sector : sector_at seen 0 ≡ sector_at read 0 = read-sector 0 (inl refl) in
      let from-seen : named_sectors seen ≡ n = ap sectors_in (sym (same-sector first seen seen-same 0 (inl refl))) in
      let root : sector_at seen d.root ≡ sector_at read d.root = read-sector d.root (inr (inl (ap (λ (f : Format). f.root) named-first))) in
      let used-here : (epoch : ℕ) (has : Allocation) (objects : PlainObjects) → HoldsIn R d.root epoch has objects first → (i : ℕ) → Contains (used has) i
      → IsNeeded first i =
      λ epoch has objects holds i is. inr (inr (subst (λ (f : Format). IsUsedIn (objects_range f n) f.root first i) named-first
      (record { epoch = epoch; has = has; objects = objects; there = holds; is = is }))) in
      let at = stands.kept.there in
      let a : Allocation = at.allocation in
      let holds : HoldsIn R d.root stands.epoch a stands.kept.objects seen =
      subst (λ (k : ℕ). HoldsIn (objects_range d k) d.root stands.epoch a stands.kept.objects seen) from-seen at.there in
      let began-seen : HoldsIn R d.root began.epoch there.allocation began.kept.objects seen =
      HoldsIn-sectors first seen R d.root began.epoch there.allocation began.kept.objects
      (same-sector first seen seen-same d.root (inr (inl (ap (λ (f : Format). f.root) named-first))))
      (λ i is. same-sector first seen seen-same i (used-here began.epoch there.allocation began.kept.objects there.there i is)) there.there in
      let one : there.allocation ≡ a =
      HoldsIn-one R d.root began.epoch stands.epoch there.allocation a began.kept.objects stands.kept.objects seen began-seen holds in
      let reads : HoldsIn R d.root stands.epoch a stands.kept.objects read =
      HoldsIn-sectors seen read R d.root stands.epoch a stands.kept.objects root
      (λ i here. read-sector i (used-here began.epoch there.allocation began.kept.objects there.there i
      (subst (λ (b : Allocation). Contains (used b) i) (sym one) here))) holds in
      let journal : Holds Headed (journal_range d) stands.epoch (map batch_bytes stands.batches) seen =
      subst (λ (f : Form). Holds f (journal_range d) stands.epoch (map batch_bytes stands.batches) seen) headed stands.journal in
      let current : epoch_at seen ≡ stands.epoch =
      ap (λ (f : Format). epoch_in (sector_at seen f.root)) (sym (device-form limits seen stands.kept.device)) ∙ at.there.current in
      record {
        epoch = stands.epoch;
        base = stands.base;
        kept = base-read limits stands.epoch stands.base seen read stands.kept (is.count ∙ seen-same.needed.count) sector
            (subst (λ (k : ℕ). HoldsIn (objects_range d k) d.root stands.epoch a stands.kept.objects read) (sym from-seen) reads);
        batches = stands.batches;
        journal = subst (λ (f : Form). Holds f (journal_range d) stands.epoch (map batch_bytes stands.batches) read) (sym headed)
            (Holds-read (journal_range d) stands.epoch (map batch_bytes stands.batches) seen read journal
            (subst (λ (e : ℕ). IsReadFrom (journal_range d) e seen read) current
            (subst (λ (f : Format). IsReadFrom (journal_range f) (epoch_at seen) seen read) (sym named-first) is.journal)));
        leads = stands.leads;
      }

module _ (first whole read : Image) (is : IsReadInParts first whole read) where
  -- what is needed is as it is in the first image
  part-sector : (i : ℕ) → IsNeeded first i → sector_at first i ≡ sector_at read i
  part-sector i need = let from = is.each i in same-sector first from.0 (same-root first from.0 from.1) i need ∙ sym from.3

  -- what was read is a part of what comes
  part-read : (limits : Limits) (epoch : ℕ) → device_form limits ≡ form_at first → epoch_at first ≡ epoch
      → IsPartOf (journal_range (device_form limits)) epoch whole read
  part-read limits epoch form current i lt =
      let range = journal_range (device_form limits) in
      let from = is.each (range.first + i) in
      let part : IsPartOf range epoch whole from.0 =
      subst (λ (e : ℕ). IsPartOf range e whole from.0) current
      (subst (λ (f : Format). IsPartOf (journal_range f) (epoch_at first) whole from.0) (sym form) from.2) in
      subst (λ (l : List ℕ). (journal_epoch l < epoch) ⊎ (l ≡ sector_at whole (range.first + i))) (sym from.3) (part i lt)

  -- the batches of the first image stand in it
  stand-read : (limits : Limits) (epoch : ℕ) (batches : List (List ℕ)) → device_form limits ≡ form_at first → epoch_at first ≡ epoch
      → Holds (journal_form (device_form limits)) (journal_range (device_form limits)) epoch batches first
      → Stand (journal_form (device_form limits)) (journal_range (device_form limits)) epoch batches read
  stand-read limits epoch batches form current holds =
      let range = journal_range (device_form limits) in
      Stand-read (journal_form (device_form limits)) range epoch batches first read holds.stand
      (λ j. let from = is.each j in
      let keeps = (same-root first from.0 from.1).journal in
      let kept : KeepsBatches (journal_form (device_form limits)) range epoch first from.0 =
      subst (λ (e : ℕ). KeepsBatches (journal_form (device_form limits)) range e first from.0) current
      (subst (λ (f : Format). KeepsBatches (journal_form f) (journal_range f) (epoch_at first) first from.0) (sym form) keeps) in
      (from.0, KeepsBatches-stand (journal_form (device_form limits)) range epoch first from.0 kept batches holds, from.3))

-- where the bytes of batches go on so, those of the first ones are these
firsts : (before more : List (List PlainEvent)) (kept rest : List (List ℕ))
    → map batch_bytes (before ++ more) ≡ map batch_bytes before ++ (kept ++ rest)
    → map batch_bytes before ++ kept ≡ map batch_bytes (before ++ take (length kept) more)
firsts before more kept rest same =
    let bytes : map batch_bytes more ≡ kept ++ rest =
    append_cancel_left (map batch_bytes before) (map batch_bytes more) (kept ++ rest) (sym (map-append batch_bytes before more) ∙ same) in
    let first : kept ≡ map batch_bytes (take (length kept) more) =
    sym (take_at kept rest (length kept) refl) ∙ ap (take (length kept)) (sym bytes) ∙ take-map batch_bytes (length kept) more in
    ap (λ (l : List (List ℕ)). map batch_bytes before ++ l) first ∙ sym (map-append batch_bytes before (take (length kept) more))

-- batches are the first ones of them, and the others
first-and-rest : (n : ℕ) (batches : List (List PlainEvent)) → batches ≡ take n batches ++ drop n batches
first-and-rest n batches = sym (take-append-drop n batches)

-- the events of the first batches come first
events-first : (n : ℕ) (batches : List (List PlainEvent)) → events_of batches ≡ events_of (take n batches) ++ events_of (drop n batches)
events-first n batches =
    ap (λ (l : List (List PlainEvent)). events_of l) (first-and-rest n batches)
    ∙ flat_map-append (λ (es : List PlainEvent). es) (take n batches) (drop n batches)

-- what was read stands for the state after some of the batches that come, from the first on
pub read-in-parts : (limits : Limits) (was : State) (first whole read : Image) (more : List (List PlainEvent))
    → ((earlier batches : List (List ℕ)) → Holds Tagged (journal_range (device_form limits)) (epoch_at first) batches whole
    → IsPartOf (journal_range (device_form limits)) (epoch_at first) whole read
    → Stand Tagged (journal_range (device_form limits)) (epoch_at first) earlier read
    → (kept : List (List ℕ)) × (rest : List (List ℕ)) × (batches ≡ earlier ++ (kept ++ rest))
    × Holds Tagged (journal_range (device_form limits)) (epoch_at first) (earlier ++ kept) read)
    → journal_form (device_form limits) ≡ Tagged → (began : StandsFor limits was first)
    → HasBatches (device_form limits) began.epoch (began.batches ++ more) whole
    → All (AreBatchOf (device_form limits).batch) more → AreFor limits was (events_of more) → IsReadInParts first whole read
    → (kept : List (List PlainEvent)) × (rest : List (List PlainEvent)) × (more ≡ kept ++ rest)
    × StandsFor limits (run limits was (events_of kept)).state read
read-in-parts limits was first whole read more law tagged began holds each named is =
    let d = device_form limits in
    let range = journal_range d in
    let form : d ≡ form_at first = device-form limits first began.kept.device in
    let current : epoch_at first ≡ began.epoch =
    ap (λ (f : Format). epoch_in (sector_at first f.root)) (sym form) ∙ began.kept.there.there.current in
    let needs : (i : ℕ) → IsUsedIn (objects_range d (named_sectors first)) d.root first i → IsNeeded first i =
    λ i u. inr (inr (subst (λ (f : Format). IsUsedIn (objects_range f (named_sectors first)) f.root first i) form u)) in
    let root : sector_at first d.root ≡ sector_at read d.root =
    part-sector first whole read is d.root (inr (inl (ap (λ (f : Format). f.root) form))) in
    let objects : HoldsIn (objects_range d (named_sectors first)) d.root began.epoch began.kept.there.allocation began.kept.objects read =
    HoldsIn-sectors first read (objects_range d (named_sectors first)) d.root began.epoch began.kept.there.allocation began.kept.objects root
    (λ i here. part-sector first whole read is i (needs i (record {
      epoch = began.epoch;
      has = began.kept.there.allocation;
      objects = began.kept.objects;
      there = began.kept.there.there;
      is = here;
    }))) began.kept.there.there in
    let come : Holds Tagged range (epoch_at first) (map batch_bytes (began.batches ++ more)) whole =
    subst (λ (e : ℕ). Holds Tagged range e (map batch_bytes (began.batches ++ more)) whole) (sym current)
    (subst (λ (f : Form). Holds f range began.epoch (map batch_bytes (began.batches ++ more)) whole) tagged holds) in
    let stand : Stand Tagged range (epoch_at first) (map batch_bytes began.batches) read =
    subst (λ (e : ℕ). Stand Tagged range e (map batch_bytes began.batches) read) (sym current)
    (subst (λ (f : Form). Stand f range began.epoch (map batch_bytes began.batches) read) tagged
    (stand-read first whole read is limits began.epoch (map batch_bytes began.batches) form current began.journal)) in
    let found = law (map batch_bytes began.batches) (map batch_bytes (began.batches ++ more)) come
    (part-read first whole read is limits (epoch_at first) form refl) stand in
    let n : ℕ = length found.0 in (
      take n more,
      drop n more,
      first-and-rest n more,
      record {
        epoch = began.epoch;
        base = began.base;
        kept = base-read limits began.epoch began.base first read began.kept is.count (part-sector first whole read is 0 (inl refl)) objects;
        batches = began.batches ++ take n more;
        journal = subst (λ (f : Form). Holds f range began.epoch (map batch_bytes (began.batches ++ take n more)) read) (sym tagged)
            (subst (λ (e : ℕ). Holds Tagged range e (map batch_bytes (began.batches ++ take n more)) read) current
            (subst (λ (l : List (List ℕ)). Holds Tagged range (epoch_at first) l read) (firsts began.batches more found.0 found.1 found.2) found.3));
        leads = LeadTo-many d.batch limits began.base began.batches (take n more) was began.leads (All-take (AreBatchOf d.batch) n more each)
            (AreFor-first limits was (events_of (take n more)) (events_of (drop n more))
            (subst (λ (es : List PlainEvent). AreFor limits was es) (events-first n more) named));
      },
    )

-- ---- while what stands after the batches is cleared

-- the batches stay, and so does all that is outside the journal
pub kept-batches : (old new : Medium) (limits : Limits) (checkpoint : CheckpointView) (journal : Journal) (batches : List (List ℕ))
    → ((image : Image) → old.images_now image → IsPlace limits checkpoint image)
    → form_of journal ≡ journal_form (device_form limits) → range_of journal ≡ journal_range (device_form limits)
    → ((image : Image) → old.images_now image → epoch_of journal ≡ epoch_at image)
    → LeavesAlone (IsOutside (range_of journal)) old new
    → ((image : Image) → old.images_now image → Holds (form_of journal) (range_of journal) (epoch_of journal) batches image)
    → EachImageSince old new (Holds (form_of journal) (range_of journal) (epoch_of journal) batches) → EachLater GoesOn old new
kept-batches old new limits checkpoint journal batches here form range epochs alone before run =
    let Batches : Image → Type 0 = Holds (form_of journal) (range_of journal) (epoch_of journal) batches in
    let P : Image → Type 0 = λ image. (earlier : Image) × old.images_now earlier × SameAt (IsOutside (range_of journal)) earlier image in
    EachImageSince-weaken old new (λ image. P image × Batches image) (λ image. (earlier : Image) × old.images_now earlier × GoesOn earlier image)
    (EachImageSince-both old new P Batches alone.images run)
    (λ image both.
    let from = both.0 in
    let named = device-form limits from.0 (here from.0 from.1).0 in
    let its-range : range_of journal ≡ journal_range (form_at from.0) = range ∙ ap journal_range named in
    let its-form : form_of journal ≡ journal_form (form_at from.0) = form ∙ ap journal_form named in (
      from.0,
      from.1,
      inl (record {
        needed = record {
          count = from.2.count;
          sectors = λ i need. from.2.sectors i (subst (λ (r : Range). IsOutside r i) (sym its-range) (needed-outside from.0 i need));
        };
        journal = kept-at (form_of journal) (range_of journal) (epoch_of journal) (journal_form (form_at from.0)) (journal_range (form_at from.0))
            (epoch_at from.0) batches from.0 image its-form its-range (epochs from.0 from.1) (before from.0 from.1) both.1;
      }),
    ))
  where
    kept-at : (f : Form) (r : Range) (e : ℕ) (g : Form) (s : Range) (n : ℕ) (bs : List (List ℕ)) (a b : Image) → f ≡ g → r ≡ s → e ≡ n
        → Holds f r e bs a → Holds f r e bs b → KeepsBatches g s n a b
    kept-at f r e g s n bs a b same-form same-range same-epoch first next =
        subst (λ (x : Form). KeepsBatches x s n a b) same-form
        (subst (λ (x : Range). KeepsBatches f x n a b) same-range
        (subst (λ (x : ℕ). KeepsBatches f r x a b) same-epoch (KeepsBatches-same f r e bs a b first next)))

-- ---- while a store goes on

module _ {D : Type 0} (old new : Medium) (store : StoreView D) (base : State) (pending : List PlainEvent)
    (at : StoreMatches old store base pending) where
  -- each image now names the form of the limits
  form-now : (image : Image) → old.images_now image → device_form store.machine.limits ≡ form_at image
  form-now image now = device-form store.machine.limits image (at.device.device image now).0

  -- each image now is of its save
  epoch-now : (image : Image) → old.images_now image → epoch_at image ≡ saved_epoch store.checkpoint
  epoch-now image now =
      ap (λ (f : Format). epoch_in (sector_at image f.root)) (sym (form-now image now))
      ∙ ap (λ (l : Layout). epoch_in (sector_at image l.root)) (sym (at.device.device image now).1)
      ∙ (CheckpointMatches-holds store.checkpoint at.device.objects old at.device.saved image now).there.current

  epoch-is : (image : Image) → old.images_now image → epoch_of store.journal ≡ epoch_at image
  epoch-is image now = at.device.epoch ∙ sym (epoch-now image now)

  form-is : (image : Image) → old.images_now image → form_of store.journal ≡ journal_form (form_at image)
  form-is image now = at.device.form ∙ ap journal_form (form-now image now)

  range-is : (image : Image) → old.images_now image → range_of store.journal ≡ journal_range (form_at image)
  range-is image now = at.device.range ∙ ap journal_range (form-now image now)

  -- a batch is appended
  appended : (batch : List ℕ) (earlier later : Image) → old.images_now earlier → SameAt (IsOutside (range_of store.journal)) earlier later
      → HoldsOneMoreOrNot (form_of store.journal) (range_of store.journal) (epoch_of store.journal) (map batch_bytes at.device.batches) batch later
      → IsOfSameSave earlier later
  appended batch earlier later now same more = record {
    needed = record {
      count = same.count;
      sectors = λ i need. same.sectors i (subst (λ (r : Range). IsOutside r i) (sym (range-is earlier now)) (needed-outside earlier i need));
    };
    journal = subst (λ (f : Form). KeepsBatches f (journal_range (form_at earlier)) (epoch_at earlier) earlier later) (form-is earlier now)
        (subst (λ (r : Range). KeepsBatches (form_of store.journal) r (epoch_at earlier) earlier later) (range-is earlier now)
        (subst (λ (e : ℕ). KeepsBatches (form_of store.journal) (range_of store.journal) e earlier later) (epoch-is earlier now)
        (KeepsBatches-append store.journal (map batch_bytes at.device.batches) batch old at.device.appended earlier later now more)));
  }

  goes-on-append : (batch : List ℕ) → LeavesAlone (IsOutside (range_of store.journal)) old new
      → EachImageSince old new
      (HoldsOneMoreOrNot (form_of store.journal) (range_of store.journal) (epoch_of store.journal) (map batch_bytes at.device.batches) batch)
      → EachLater GoesOn old new
  goes-on-append batch alone moments =
      let P : Image → Type 0 =
      λ image. (earlier : Image) × old.images_now earlier × SameAt (IsOutside (range_of store.journal)) earlier image in
      let one_more : Image → Type 0 =
      HoldsOneMoreOrNot (form_of store.journal) (range_of store.journal) (epoch_of store.journal) (map batch_bytes at.device.batches) batch in
      EachImageSince-weaken old new (λ image. P image × one_more image) (λ image. (earlier : Image) × old.images_now earlier × GoesOn earlier image)
      (EachImageSince-both old new P one_more alone.images moments)
      (λ image both. let from = both.0 in (from.0, from.1, inl (appended batch from.0 image from.1 from.2 both.1)))

  -- the state is saved
  kept-saved : (earlier later : Image) → old.images_now earlier → KeepsUsed (its_range earlier) (its_root earlier) earlier later → IsOfSameSave earlier later
  kept-saved earlier later now kept =
      let R : Range = its_range earlier in
      let d = form_at earlier in
      let places : ℕ → Type 0 = λ i. IsOutside R i ⊎ IsUsedIn R d.root earlier i in
      let here : HasBatches d (epoch_at earlier) at.device.batches earlier =
      subst (λ (f : Format). HasBatches f (epoch_at earlier) at.device.batches earlier) (form-now earlier now)
      (subst (λ (e : ℕ). HasBatches (device_form store.machine.limits) e at.device.batches earlier) (sym (epoch-now earlier now))
      (batches-now old store.machine.limits store.checkpoint store.journal base at.device earlier now)) in
      record {
        needed = record {
          count = kept.count;
          sectors = λ i need. kept.sectors i (place i need);
        };
        journal = KeepsBatches-same (journal_form d) (journal_range d) (epoch_at earlier) (map batch_bytes at.device.batches) earlier later here
            (journal-same d (placed-at earlier).some places (epoch_at earlier) at.device.batches earlier later
            (λ i inside. inl (inl (omega (arith, inside.1)))) kept here);
      }
    where
      place : (i : ℕ) → IsNeeded earlier i → IsOutside (its_range earlier) i ⊎ IsUsedIn (its_range earlier) (its_root earlier) earlier i
      place i (inl first) = inl (inl (omega (arith, first)))
      place i (inr (inl root)) = inl (inl (omega (arith, root, (placed-at earlier).root.1)))
      place i (inr (inr u)) = inr u

  goes-on-save : LeavesAlone (IsElsewhere (saved_layout store.checkpoint)) old new
      → EachLater (KeepsUsedOrTurns (saved_layout store.checkpoint)) old new → EachLater GoesOn old new
  goes-on-save alone saves =
      let Saves : Image → Type 0 =
      λ image. (earlier : Image) × old.images_now earlier × KeepsUsedOrTurns (saved_layout store.checkpoint) earlier image in
      let Spot : Image → Type 0 = IsPlace store.machine.limits store.checkpoint in
      EachImageSince-weaken old new (λ image. Spot image × Saves image)
      (λ image. (earlier : Image) × old.images_now earlier × GoesOn earlier image)
      (EachImageSince-both old new Spot Saves
      (IsPlace-since (IsElsewhere (saved_layout store.checkpoint)) store.machine.limits store.checkpoint old new
      (first-elsewhere old store.machine.limits store.checkpoint store.journal base at.device) alone at.device.device) saves)
      (λ image both.
      let from = both.1 in
      let d = device_form store.machine.limits in
      let n = named_sectors from.0 in
      let lies = (at.device.device from.0 from.1).1 in
      let named = form-now from.0 from.1 in
      let its = device-form store.machine.limits image both.0.0 in
      let either : KeepsUsedOrTurns (layout_of store.machine.limits n) from.0 image =
      subst (λ (l : Layout). KeepsUsedOrTurns l from.0 image) lies from.2 in (
        from.0,
        from.1,
        ⊎_elim
            (λ kept. inl (kept-saved from.0 image from.1 (subst (λ (f : Format). KeepsUsed (objects_range f n) f.root from.0 image) named kept)))
            (λ turned. inr (record {
              form = sym named ∙ its;
              epoch = omega (
                arith,
                turned,
                ap (λ (f : Format). epoch_in (sector_at from.0 f.root)) named,
                ap (λ (f : Format). epoch_in (sector_at image f.root)) its,
              );
            }))
            either,
      ))

module _ {D : Type 0} (medium : D → Medium) (store : StoreView D) where
  -- no call was made
  pub readable-none : ((image : Image) → (medium store.disk).images_since (medium store.disk).moment image → (medium store.disk).images_now image)
      → StaysReadable medium store store.disk
  readable-none law = record {
    goes_on = λ base pending at. EachLater-start GoesOn (medium store.disk) law (λ image. inl (same-refl image));
    stands_first = λ base pending at. ComesInOrder-alone medium (IsInside (range_of store.journal)) store.journal (map batch_bytes at.device.batches)
        (batch_bytes pending) store.disk store.disk
        (journal-some (medium store.disk) store.machine.limits store.checkpoint store.journal base at.device) (λ i inside. inside)
        (LeavesAlone-start (IsInside (range_of store.journal)) (medium store.disk) at.device.honest law) at.device.appended;
  }

  pub readable-append : (new : D) (batch : List ℕ) → batch ≡ big_bytes 4 (length store.records) ++ store.records
      → (IsHonest (medium store.disk) → LeavesAlone (IsOutside (range_of store.journal)) (medium store.disk) (medium new))
      → ((batches : List (List ℕ)) → JournalMatches store.journal batches (medium store.disk)
      → ComesInOrder medium store.journal batches batch store.disk new) → StaysReadable medium store new
  readable-append new batch is alone comes = record {
    goes_on = λ base pending at.
        goes-on-append (medium store.disk) (medium new) store base pending at batch (alone at.device.honest)
        (ComesInOrder-moment medium store.journal (map batch_bytes at.device.batches) batch store.disk new
        (comes (map batch_bytes at.device.batches) at.device.appended));
    stands_first = λ base pending at.
        subst (λ (b : List ℕ). ComesInOrder medium store.journal (map batch_bytes at.device.batches) b store.disk new)
        (is ∙ bytes-are (medium store.disk) store base pending at) (comes (map batch_bytes at.device.batches) at.device.appended);
  }

  pub readable-save : (new : D) → (IsHonest (medium store.disk)
      → LeavesAlone (IsElsewhere (saved_layout store.checkpoint)) (medium store.disk) (medium new))
      → ((saved : PlainObjects) → CheckpointMatches store.checkpoint saved (medium store.disk)
      → EachLater (KeepsUsedOrTurns (saved_layout store.checkpoint)) (medium store.disk) (medium new)) → StaysReadable medium store new
  readable-save new alone saves = record {
    goes_on = λ base pending at.
        goes-on-save (medium store.disk) (medium new) store base pending at (alone at.device.honest) (saves at.device.objects at.device.saved);
    stands_first = λ base pending at. ComesInOrder-alone medium (IsElsewhere (saved_layout store.checkpoint)) store.journal
        (map batch_bytes at.device.batches) (batch_bytes pending) store.disk new
        (journal-some (medium store.disk) store.machine.limits store.checkpoint store.journal base at.device)
        (journal-outside (medium store.disk) store.machine.limits store.checkpoint store.journal base at.device) (alone at.device.honest)
        at.device.appended;
  }
