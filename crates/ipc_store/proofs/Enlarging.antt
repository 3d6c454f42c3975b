-- What an upgrade to version 3 reads and leaves: the state after a restart in version 2, and beside it in version 3.
use Rattle.std.proofs.Common.{◌≡◌, ◌⊎◌, inl, inr, true, false, ℕ, ◌+◌, ◌<◌, ◌≤◌, List, [], ◌∷◌, ◌++◌, length, refl, sym, ap, subst, ◌∙◌, arith}
use Rattle.std.specs.Prelude.{◌/◌, None, map, nat_le, if◌then◌else◌, sum_by}
use Rattle.std.specs.List.{flat_map}
use Rattle.std.proofs.lemmas.List.{length-append, length-map}
use Rattle.std.proofs.lemmas.List.Elements.{All-nil}
use Rattle.std.proofs.lemmas.List.Sums.{sum_by-append, sum_by-cons, sum_by_from}
use Rattle.ipc_limits.specs.declared.limits.Limits.{Limits}
use Rattle.ipc_base.specs.Objects.{Fit, PlainObjects}
use Rattle.ipc_checkpoint.specs.declared.layout.Layout.{Layout}
use Rattle.ipc_checkpoint.specs.Checkpoint.{IsOwn, Holds as HoldsObjects}
use Rattle.ipc_checkpoint.specs.View.{CheckpointView, epoch_of, layout_of as saved_layout}
use Rattle.ipc_checkpoint.specs.Matches.{CheckpointMatches}
use Rattle.ipc_checkpoint.proofs.CallerLemmas.{CheckpointMatches-holds, Holds-one, Holds-since}
use Rattle.ipc_disk.specs.Medium.{Image, Medium, IsDurable, IsHonest, Stays}
use Rattle.ipc_disk.specs.Range.{IsOutside}
use Rattle.ipc_disk.specs.Since.{EachImageSince, LeavesAlone}
use Rattle.ipc_disk.proofs.CallerLemmas.{EachImageSince-both, EachImageSince-join, EachImageSince-start, EachImageSince-sync, EachImageSince-weaken}
use Rattle.ipc_disk.proofs.CallerLemmas.{LeavesAlone-keeps, sector_at-same}
use Rattle.ipc_heap.proofs.CallerLemmas.{Holds-wider}
use Rattle.ipc_journal.specs.declared.form.Form.{Form}
use Rattle.ipc_journal.specs.declared.form.Form.TheVariants.{Headed, Tagged}
use Rattle.ipc_journal.specs.declared.journal.Journal.{Journal}
use Rattle.ipc_journal.specs.Journal.{Holds, sectors_of}
use Rattle.ipc_journal.specs.View.{form_of, used_of}
use Rattle.ipc_state.specs.Keyed.{KeyedEntry}
use Rattle.ipc_state.specs.State.{State, next_pid_after, restart}
use Rattle.ipc_engine.specs.Engine.{Machine}
use Rattle.ipc_engine.specs.Event.{PlainEvent}
use Rattle.ipc_engine.specs.Step.{run}
use Rattle.sysv_msg.specs.Queue.{Queue, PlainMessage}
use Rattle.ipc_image.specs.declared.format.Format.{Format}
use Rattle.ipc_image.specs.Format.{device_form, format, opened_form, IsFormat, IsOpened}
use Rattle.ipc_image.specs.Greater.{AreAtLeast}
use Rattle.ipc_image.specs.Saved.{saved_in, adjustments_bytes, clock_bytes, later_in, later_objects, message_bytes, processes_bytes, queue_bytes}
use Rattle.ipc_image.specs.Saved.{queue_object, set_object, waits_bytes, StandForStateIn}
use Rattle.ipc_image.specs.Superblock.{sectors_in, AreOf}
use Rattle.ipc_image.proofs.CallerLemmas.{each-at-least, form-known, last-known, of-format, stand-one, three-known, three-opened}
use Rattle.ipc_store.specs.Batch.{batch_bytes, AreBatchOf}
use Rattle.ipc_store.specs.Image.{events_of, journal_range, last_epoch, layout_in, named_sectors, objects_range}
use Rattle.ipc_store.specs.Image.{HasBatches, IsDeviceIn, LeadToBy, StandsFor, StandsForIn}
use Rattle.ipc_store.specs.Larger.{exceeded_field, larger, StandsBeside, StandsInPlace}
use Rattle.ipc_store.specs.Relations.Format.{EachNow, IsPrepared}
use Rattle.ipc_store.specs.Relations.Larger.{beside, IsInPlace, IsReadBeside}
use Rattle.ipc_store.specs.Relations.Loading.{IsObjectDamage}
use Rattle.ipc_store.specs.Relations.Matches.{DeviceMatches, StandsForEither}
use Rattle.ipc_store.specs.Relations.Upgrade.{HasOldIn}
use Rattle.ipc_store.proofs.Devices.{IsDeviceIn-same, batches-now}
use Rattle.ipc_store.proofs.Greater.{few-of-three, restart-undo, restart-waits, sound-greater}
use Rattle.ipc_store.proofs.Loaded.{stays-durable}
use Rattle.ipc_store.proofs.Opened.{device-begins}
use Rattle.ipc_store.proofs.Upgrading.{old-stands}

pub larger-opened : IsOpened larger
larger-opened = three-opened 257 (omega arith, omega arith)

pub larger-known : IsFormat larger
larger-known = three-known 257 (omega arith, omega arith)

-- ---- a restart

-- a restart under limits of version 3 is any other, but for the next pid
restart-as : (limits own : Limits) (s : State) → limits.version ≡ 3
    → restart limits s ≡ record (restart own s) { processes = record { next = 1; entries = [] } }
restart-as limits own s three =
    let same : next_pid_after limits s ≡ 1 = ap (λ (v : ℕ). if nat_le 3 v then 1 else s.processes.next) three in
    λ i. record (restart own s) { processes = record { next = same i; entries = [] } }

-- after any other it is the same as at once
pub restart-after : (limits own : Limits) (s : State) → limits.version ≡ 3 → restart own (restart own s) ≡ restart own s
    → restart limits (restart own s) ≡ restart limits s
restart-after limits own s three twice =
    restart-as limits own (restart own s) three ∙ ap (λ (x : State). record x { processes = record { next = 1; entries = [] } }) twice
    ∙ sym (restart-as limits own s three)

-- ---- objects of version 2 are no larger than those of version 3

longer-message : (m : PlainMessage) → length (message_bytes false m) ≤ length (message_bytes true m)
longer-message m = omega arith

longer-messages : (messages : List PlainMessage) → length (flat_map (message_bytes false) messages) ≤ length (flat_map (message_bytes true) messages)
longer-messages [] = omega arith
longer-messages (m ∷ messages) =
    omega (
      arith,
      longer-message m,
      longer-messages messages,
      length-append (message_bytes false m) (flat_map (message_bytes false) messages),
      length-append (message_bytes true m) (flat_map (message_bytes true) messages),
    )

longer-queue : (e : KeyedEntry Queue) → length (queue_bytes false e) ≤ length (queue_bytes true e)
longer-queue e = omega (arith, longer-messages e.object.messages)

abbrev of : ℕ × List ℕ → ℕ
of o = (length o.1 + 511) / 512

larger-queues : (entries : List (ℕ × KeyedEntry Queue)) → sum_by of (map (queue_object false) entries) ≤ sum_by of (map (queue_object true) entries)
larger-queues [] = omega arith
larger-queues (e ∷ entries) =
    omega (
      arith,
      sum_by-cons of (queue_object false e) (map (queue_object false) entries),
      sum_by-cons of (queue_object true e) (map (queue_object true) entries),
      longer-queue e.1,
      larger-queues entries,
    )

-- so they fit where those do
pub smaller-fits : (area : ℕ) (s : State) → Fit area (saved_in larger s) → Fit area (saved_in format s)
unfolding saved_in
smaller-fits area s fit =
    let rest : PlainObjects = map set_object s.semset.entries ++ later_objects (later_in s) in
    let smaller : PlainObjects = map (queue_object false) s.msg.entries in
    let greater : PlainObjects = map (queue_object true) s.msg.entries in
    let first : ℕ = 0 + of (0, clock_bytes format s) + of (1, processes_bytes s.processes.entries) + of (2, waits_bytes s.wait)
    + of (3, adjustments_bytes s.undo) in
    omega (
      arith,
      fit,
      larger-queues s.msg.entries,
      sum_by_from of first (smaller ++ rest),
      sum_by_from of first (greater ++ rest),
      sum_by-append of smaller rest,
      sum_by-append of greater rest,
      length-append smaller rest,
      length-append greater rest,
      length-map s.msg.entries (queue_object false),
      length-map s.msg.entries (queue_object true),
    )

-- ---- what is there in version 2

-- no batch leads from a state to itself
leads-none : (most : ℕ) (limits : Limits) (s : State) → LeadToBy most limits s [] s
leads-none most limits s = record { each = All-nil (AreBatchOf most); named = tt; state = refl }

-- objects without a batch stand for their state
pub alone-stands : (own : Limits) (epoch : ℕ) (objects : PlainObjects) (s : State) (image : Image) → HasOldIn format own epoch objects [] image
    → StandForStateIn format own s objects → StandsForIn format own s image
alone-stands own epoch objects s image has stand =
    old-stands format own epoch objects [] s s image has stand (leads-none format.batch own s)

-- the objects of version 2, as a wider range has them
pub seen-beside : (limits own : Limits) (size epoch : ℕ) (objects : PlainObjects) (image : Image) → named_sectors image ≤ size
    → HoldsObjects (layout_in format own (named_sectors image)) epoch objects image → HoldsObjects (beside limits size) epoch objects image
seen-beside limits own size epoch objects image there =
    Holds-wider (objects_range format (named_sectors image)) (objects_range larger size) format.root epoch objects image
    (λ i inside. (inside.0, omega (arith, inside.1, there)))

module _ (own limits : Limits) (s : State) (epoch : ℕ) (objects : PlainObjects) (stand : StandForStateIn format own (restart own s) objects) where
  -- so an image with them stands for the state after a restart
  pub in-old : (image : Image) → HasOldIn format own epoch objects [] image → StandsBeside own limits s image
  in-old image has = inl (alone-stands own epoch objects (restart own s) image has stand)

  pub all-old : (old new : Medium) → EachImageSince old new (HasOldIn format own epoch objects []) → EachImageSince old new (StandsBeside own limits s)
  all-old old new has = EachImageSince-weaken old new (HasOldIn format own epoch objects []) (StandsBeside own limits s) has in-old

-- calls on the sectors of the journal leave it, if the journal stays without a batch
pub old-through : (own : Limits) (epoch : ℕ) (objects : PlainObjects) (old new : Medium) → IsDurable old
    → EachNow old (HasOldIn format own epoch objects []) → LeavesAlone (IsOutside (journal_range larger)) old new
    → EachImageSince old new (Holds Headed (journal_range larger) epoch [])
    → EachImageSince old new (HasOldIn format own epoch objects [])
old-through own epoch objects old new durable has alone journal =
    let n : ℕ = named_sectors old.contents in
    let Named : Image → Type 0 = λ image. IsDeviceIn format own image × (named_sectors image ≡ n) in
    let device : EachImageSince old new Named =
    LeavesAlone-keeps (IsOutside (journal_range larger)) old new Named alone
    (λ image now. ((has image now).device, ap named_sectors (durable image now)))
    (λ a b same is. (
      IsDeviceIn-same format (IsOutside (journal_range larger)) own a b (inl (omega arith)) same is.0,
      ap sectors_in (sym (sector_at-same (IsOutside (journal_range larger)) a b 0 same (inl (omega arith)))) ∙ is.1,
    )) in
    let layout : Layout = layout_in format own n in
    let there : EachImageSince old new (HoldsObjects layout epoch objects) =
    Holds-since layout (IsOutside (journal_range larger)) epoch objects old new (outside own n) alone
    (λ image now. subst (λ (k : ℕ). HoldsObjects (layout_in format own k) epoch objects image) (ap named_sectors (durable image now))
    (has image now).there) in
    EachImageSince-weaken old new (λ image. (Named image × HoldsObjects layout epoch objects image) × Holds Headed (journal_range larger) epoch [] image)
    (HasOldIn format own epoch objects [])
    (EachImageSince-both old new (λ image. Named image × HoldsObjects layout epoch objects image) (Holds Headed (journal_range larger) epoch [])
    (EachImageSince-both old new Named (HoldsObjects layout epoch objects) device there) journal)
    (λ image all. record {
      device = all.0.0.0;
      there = subst (λ (k : ℕ). HoldsObjects (layout_in format own k) epoch objects image) (sym all.0.0.1) all.0.1;
      journal = all.1;
    })
  where
    outside : (own : Limits) (n i : ℕ) → IsOwn (layout_in format own n) i → IsOutside (journal_range larger) i
    outside own n i (inl root) = inl (omega (arith, root))
    outside own n i (inr inside) = inr (omega (arith, inside.0))

-- ---- a device in place, seen from the whole disk

module _ (limits own : Limits) (s : State) (size : ℕ) (layout : Layout) (lies : layout ≡ beside limits size) (old : Medium)
    (count : length old.contents ≡ size) (at : IsInPlace own s old) where
  seen : HoldsObjects layout at.epoch at.objects old.contents
  seen =
      subst (λ (l : Layout). HoldsObjects l at.epoch at.objects old.contents) (sym lies)
      (seen-beside limits own size at.epoch at.objects old.contents (omega (arith, at.old.device.whole, count)) at.old.there)

  -- its objects stand under the new limits, if the state does not exceed these
  stands-then : AreAtLeast limits own → exceeded_field limits (restart own s) ≡ None → StandForStateIn format limits (restart own s) at.objects
  stands-then greater within = record {
    sound = sound-greater own limits (restart own s) (each-at-least limits own greater) (restart-waits own s)
        (few-of-three limits (restart own s) (restart-undo own s) within) at.stand.sound;
    places = at.stand.places;
    kinds = at.stand.kinds;
    are = at.stand.are;
  }

  -- so they are not damaged
  pub is-whole : AreAtLeast limits own → exceeded_field limits (restart own s) ≡ None → (sector : ℕ)
      → IsObjectDamage format limits layout old.contents sector → ⊥
  is-whole greater within sector (inl none) = none.none at.epoch at.objects seen
  is-whole greater within sector (inr others) =
      let one = Holds-one layout others.epoch at.epoch others.objects at.objects old.contents others.there seen in
      others.none (restart own s) (subst (λ (o : PlainObjects). StandForStateIn format limits (restart own s) o) (sym one.1) (stands-then greater within))

  -- what was loaded are its objects
  module _ (new : Medium) (stays : Stays old new) (checkpoint : CheckpointView) (its : saved_layout checkpoint ≡ layout) (objects : PlainObjects)
      (matches : CheckpointMatches checkpoint objects new) where
    pub is-its : (epoch_of checkpoint ≡ at.epoch) × (objects ≡ at.objects)
    is-its =
        let there : HoldsObjects layout (epoch_of checkpoint) objects new.contents =
        subst (λ (l : Layout). HoldsObjects l (epoch_of checkpoint) objects new.contents) its
        (CheckpointMatches-holds checkpoint objects new matches new.contents (stays.time.honest.0 at.honest).reads) in
        Holds-one layout (epoch_of checkpoint) at.epoch objects at.objects old.contents
        (subst (λ (i : Image). HoldsObjects layout (epoch_of checkpoint) objects i) (stays.contents at.honest) there) seen

    -- and the machine that they stand for has gone through a restart
    pub read-beside : (t : State) (machine : Machine) → StandForStateIn format limits t objects → machine.state ≡ restart limits t
        → limits.version ≡ 3 → restart own (restart own s) ≡ restart own s → IsReadBeside own limits s new checkpoint machine
    read-beside t machine stand restarted three twice =
        let same : t ≡ restart own s =
        stand-one format last-known limits own t (restart own s) at.objects
        (subst (λ (o : PlainObjects). StandForStateIn format limits t o) is-its.1 stand) at.stand in
        record {
          durable = stays-durable old new at.honest stays at.durable;
          some = omega (arith, at.some, is-its.0);
          objects = at.objects;
          old = subst (λ (i : Image). HasOldIn format own (epoch_of checkpoint) at.objects [] i) (sym (stays.contents at.honest))
              (subst (λ (n : ℕ). HasOldIn format own n at.objects [] old.contents) (sym is-its.0) at.old);
          stand = at.stand;
          saved = subst (λ (o : PlainObjects). CheckpointMatches checkpoint o new) is-its.1 matches;
          restarted = restarted ∙ ap (restart limits) same ∙ restart-after limits own s three twice;
        }

-- ---- what is there in version 3

-- its objects and an empty journal are all but the superblock
pub larger-prepared : (limits : Limits) (epoch : ℕ) (objects : PlainObjects) (s : State) (image : Image) → device_form limits ≡ larger
    → HoldsObjects (layout_in larger limits (length image)) epoch objects image → StandForStateIn larger limits s objects
    → Holds Tagged (journal_range larger) epoch [] image → IsPrepared limits s image
larger-prepared limits epoch objects s image is there stand journal = record {
  epoch = epoch;
  objects = objects;
  there = subst (λ (f : Format). HoldsObjects (layout_in f limits (length image)) epoch objects image) (sym is) there;
  stand = subst (λ (f : Format). StandForStateIn f limits s objects) (sym is) stand;
  journal = subst (λ (f : Format). HasBatches f epoch [] image) (sym is) journal;
}

-- no image is of both versions
pub not-both : (limits own : Limits) (s t : State) (image : Image) → limits.version ≡ 3 → StandsFor limits s image → StandsForIn format own t image → ⊥
unfolding device_form
not-both limits own s t image three new old =
    let first = (device-begins format last-known own image old.kept.device).1 in
    let second = (device-begins (device_form limits) (form-known limits) limits image new.kept.device).1 in
    let version : (device_form limits).version ≡ 3 = ap (λ (v : ℕ). (opened_form v limits.journal).version) three in
    absurd (omega (arith, first, second, version))

-- ---- a store that was saved after a restart

batch-length : (events : List PlainEvent) → 4 ≤ length (batch_bytes events)
unfolding batch_bytes
batch-length events = omega arith

-- a journal of which no sector is used has no batch
none-used : (form : Form) (batches : List (List PlainEvent)) → sectors_of form (map batch_bytes batches) ≡ 0 → batches ≡ []
none-used form [] is = refl
none-used Headed (b ∷ batches) is = absurd (omega (arith, is, batch-length b))
none-used Tagged (b ∷ batches) is = absurd (omega (arith, is, batch-length b))

module _ (medium : Medium) (own : Limits) (checkpoint : CheckpointView) (journal : Journal) (s : State) (of : AreOf format own)
    (at : DeviceMatches medium own checkpoint journal (restart own s)) (unused : used_of journal ≡ 0) where
  is-format : device_form own ≡ format
  is-format = of-format own of

  no-batches : at.batches ≡ []
  no-batches = none-used (form_of journal) at.batches (sym at.appended.used ∙ unused)

  from-is : at.from ≡ restart own s
  from-is = sym (at.leads.state ∙ ap (λ (b : List (List PlainEvent)). (run own at.from (events_of b)).state) no-batches)

  pub in-place : IsDurable medium → 0 < epoch_of checkpoint → epoch_of checkpoint < last_epoch → IsInPlace own s medium
  in-place durable some later =
      let image : Image = medium.contents in
      let here = at.device image at.honest.reads in
      let epoch : ℕ = epoch_of checkpoint in
      let lies : saved_layout checkpoint ≡ layout_in format own (named_sectors image) =
      here.1 ∙ ap (λ (f : Format). layout_in f own (named_sectors image)) is-format in
      record {
        honest = at.honest;
        durable = durable;
        epoch = epoch;
        some = some;
        later = later;
        objects = at.objects;
        old = record {
          device = subst (λ (f : Format). IsDeviceIn f own image) is-format here.0;
          there = subst (λ (l : Layout). HoldsObjects l epoch at.objects image) lies
              (CheckpointMatches-holds checkpoint at.objects medium at.saved image at.honest.reads);
          journal = subst (λ (b : List (List PlainEvent)). HasBatches format epoch b image) no-batches
              (subst (λ (f : Format). HasBatches f epoch at.batches image) is-format
              (batches-now medium own checkpoint journal (restart own s) at image at.honest.reads));
        };
        stand = subst (λ (x : State). StandForStateIn format own x at.objects) from-is
            (subst (λ (f : Format). StandForStateIn f own at.from at.objects) is-format at.stand);
      }

-- what a crash within the save in place may leave
abbrev pub LeavesInPlace : Limits → Medium → Image → Type 0
LeavesInPlace own old image = old.images_now image ⊎ ((x : State) × StandsForIn format own x old.contents × StandsInPlace own x image)

module _ (own : Limits) (old mid : Medium) (law : (image : Image) → old.images_since old.moment image → old.images_now image) (honest : IsHonest old)
    (stays : Stays old mid) where
  pub reads-leave : EachImageSince old mid (LeavesInPlace own old)
  reads-leave =
      EachImageSince-sync old old mid (LeavesInPlace own old) (EachImageSince-start old (LeavesInPlace own old) law (λ image now. inl now)) honest stays

  pub save-leaves : (new : Medium) (s : State) → StandsForIn format own s old.contents → EachImageSince mid new (StandsInPlace own s)
      → EachImageSince old new (LeavesInPlace own old)
  save-leaves new s stood saved =
      EachImageSince-join old mid new (LeavesInPlace own old) reads-leave
      (EachImageSince-weaken mid new (StandsInPlace own s) (LeavesInPlace own old) saved (λ image is. inr (s, stood, is)))

-- either of the two states of a save, in version 2
pub either-in-place : (own limits : Limits) (s : State) (image : Image) → AreOf format own → limits ≡ own
    → StandsForEither limits s (restart limits s) image → StandsInPlace own s image
either-in-place own limits s image of is either =
    subst (λ (f : Format). StandsForIn f own s image ⊎ StandsForIn f own (restart own s) image) (of-format own of)
    (subst (λ (l : Limits). StandsForEither l s (restart l s) image) is either)
