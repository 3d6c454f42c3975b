-- What was loaded, step by step, is the device.
use Rattle.std.proofs.Common.{◌≡◌, inl, inr, ⊎_elim, ℕ, ◌≤◌, List, Ok, sym, ap, subst, ◌∙◌, arith}
use Rattle.ipc_limits.specs.declared.limits.Limits.{Limits}
use Rattle.ipc_base.specs.Objects.{PlainObjects}
use Rattle.ipc_checkpoint.specs.declared.layout.Layout.{Layout}
use Rattle.ipc_checkpoint.specs.Checkpoint.{IsLaidOut}
use Rattle.ipc_checkpoint.specs.Matches.{CheckpointMatches}
use Rattle.ipc_checkpoint.specs.View.{CheckpointView, epoch_of as saved_epoch, layout_of as saved_layout}
use Rattle.ipc_disk.specs.declared.range.Range.{Range}
use Rattle.ipc_disk.specs.Medium.{Image, Medium, IsHonest, IsDurable, Stays}
use Rattle.ipc_disk.specs.Range.{IsWithin}
use Rattle.ipc_disk.proofs.CallerLemmas.{Stays-join, IsSameDisk-call, IsSameDisk-then, OnlyReads-as}
use Rattle.ipc_disk.specs.Calls.{IsOneCall, OnlyReads}
use Rattle.ipc_disk.specs.Counts.{Counts, counted, with_sync}
use Rattle.ipc_journal.specs.declared.journal.Journal.{Journal}
use Rattle.ipc_journal.specs.View.{form_of, range_of, epoch_of}
use Rattle.ipc_state.specs.State.{State}
use Rattle.ipc_engine.specs.Changes.{IsTracked}
use Rattle.ipc_engine.specs.Engine.{Machine}
use Rattle.ipc_engine.specs.Event.{PlainEvent}
use Rattle.ipc_image.specs.declared.format.Format.{Format}
use Rattle.ipc_image.specs.Format.{device_form}
use Rattle.ipc_image.proofs.CallerLemmas.{form-known}
use Rattle.ipc_image.specs.Saved.{StandForStateIn}
use Rattle.ipc_image.specs.Sizes.{need_in}
use Rattle.ipc_image.specs.Superblock.{AreOf}
use Rattle.ipc_store.specs.Image.{journal_form, journal_range, layout_of, named_sectors, HasBatches, IsDevice, LeadTo}
use Rattle.ipc_store.specs.Relations.Loading.{IsAfter, IsLoaded, IsLoadedUnder, OnlySyncs}
use Rattle.ipc_store.specs.Relations.Matches.{AreOnDisk}
use Rattle.ipc_store.proofs.Formatting.{laid-out}

-- calls that only read, one after another
pub chain : (m0 m1 m2 : Medium) → IsHonest m0 → Stays m0 m1 → (IsHonest m1 → Stays m1 m2) → Stays m0 m2
chain m0 m1 m2 honest first next = Stays-join m0 m1 m2 honest first (next (first.time.honest.0 honest))

-- reads that went well, whatever is called a failure that cannot be
pub OnlyReads-never : {D : Type 0} {size : D → ℕ} {medium : D → Medium} {counts : D → Counts} {other : Type 0} {old new : D} → (other → ⊥)
    → OnlyReads size medium counts ⊥ old new → OnlyReads size medium counts other old new
OnlyReads-never not reads = OnlyReads-as (λ never. absurd never) not reads

-- one read that went well
pub OnlyReads-call : {D T E : Type 0} {size : D → ℕ} {medium : D → Medium} {counts : D → Counts} {x : T} {old new : D}
    → IsOneCall {T = T} {E = E} size counts (Ok x) (λ (n : Counts). n) old new → Stays (medium old) (medium new) → OnlyReads size medium counts ⊥ old new
OnlyReads-call {D} {T} {E} {size} {medium} {counts} {x} {old} {new} one call = record {
  same = IsSameDisk-call one call.time;
  stays = λ honest. call;
  failure = λ never. absurd never;
  no_failure = inr one.ok;
}

module _ {D : Type 0} {size : D → ℕ} {medium : D → Medium} {counts : D → Counts} where
  -- a sync that went well
  pub OnlySyncs-call : {T E : Type 0} {x : T} {old new : D} → IsOneCall {T = T} {E = E} size counts (Ok x) with_sync old new
      → Stays (medium old) (medium new) → OnlySyncs size medium counts ⊥ old new
  OnlySyncs-call {T} {E} {x} {old} {new} one call = record {
    same = IsSameDisk-call one call.time;
    stays = λ honest. call;
    writes = ap (λ n. n.writes) one.ok;
    failure = λ never. absurd never;
    no_failure = inr (ap (λ n. n.failures) one.ok);
  }

  -- the same calls, where failed means the same
  pub OnlySyncs-as : {failed other : Type 0} {old new : D} → (failed → other) → (other → failed) → OnlySyncs size medium counts failed old new
      → OnlySyncs size medium counts other old new
  OnlySyncs-as {failed} {other} {old} {new} to from syncs = record {
    same = syncs.same;
    stays = syncs.stays;
    writes = syncs.writes;
    failure = λ bad. syncs.failure (from bad);
    no_failure = ⊎_elim (λ bad. inl (to bad)) inr syncs.no_failure;
  }

  -- calls that went well
  pub OnlySyncs-ok : {failed : Type 0} {old new : D} → (failed → ⊥) → OnlySyncs size medium counts failed old new
      → OnlySyncs size medium counts ⊥ old new
  OnlySyncs-ok not syncs = OnlySyncs-as not (λ never. absurd never) syncs

  -- whatever is called a failure that cannot be
  pub OnlySyncs-never : {other : Type 0} {old new : D} → (other → ⊥) → OnlySyncs size medium counts ⊥ old new
      → OnlySyncs size medium counts other old new
  OnlySyncs-never not syncs = OnlySyncs-as (λ never. absurd never) not syncs

  -- calls none of which failed, and then reads
  pub OnlySyncs-then : {failed : Type 0} {old mid new : D} → OnlySyncs size medium counts ⊥ old mid → OnlyReads size medium counts failed mid new
      → OnlySyncs size medium counts failed old new
  OnlySyncs-then {failed} {old} {mid} {new} first reads =
      let before : (counts mid).failures ≡ (counts old).failures = ⊎_elim (λ never. absurd never) (λ same. same) first.no_failure in
      record {
        same = IsSameDisk-then first.same reads.same;
        stays = λ honest. chain (medium old) (medium mid) (medium new) honest (first.stays honest) reads.stays;
        writes = ⊎_elim (λ bad. ap (λ n. n.writes) (reads.failure bad)) (λ same. ap (λ n. n.writes) same) reads.no_failure ∙ first.writes;
        failure = λ bad. ap (λ n. n.failures) (reads.failure bad) ∙ ap (λ n. counted n 1) before;
        no_failure = ⊎_elim inl (λ same. inr (ap (λ n. n.failures) same ∙ before)) reads.no_failure;
      }

-- what lasted before lasts after such calls
pub stays-durable : (m0 m1 : Medium) → IsHonest m0 → Stays m0 m1 → IsDurable m0 → IsDurable m1
stays-durable m0 m1 honest call durable = λ now left. durable now (call.images now left) ∙ sym (call.contents honest)

-- the objects that stand for a state, as a checkpoint knows them
abbrev pub Kept : Format → Limits → State → CheckpointView → Medium → Type 0
Kept form limits from checkpoint medium =
    (objects : PlainObjects) × StandForStateIn form limits from objects × CheckpointMatches checkpoint objects medium

-- the batches that lead on from there
abbrev pub Led : Limits → State → State → ℕ → Journal → Image → Type 0
Led limits from to epoch journal image =
    (batches : List (List PlainEvent)) × HasBatches (device_form limits) epoch batches image × LeadTo limits from batches to × IsAfter journal batches

module _ (limits : Limits) (sectors : ℕ) (checkpoint : CheckpointView) (layout : saved_layout checkpoint ≡ layout_of limits sectors) where
  module _ (journal : Journal) (form : form_of journal ≡ journal_form (device_form limits)) (range : range_of journal ≡ journal_range (device_form limits))
      (epoch : epoch_of journal ≡ saved_epoch checkpoint)
      (machine : Machine) (same : machine.limits ≡ limits) where
    -- the whole device
    pub loaded : (medium : Medium) (from : State) → IsHonest medium → IsDurable medium → IsDevice limits medium.contents
        → sectors ≡ named_sectors medium.contents → Kept (device_form limits) limits from checkpoint medium
        → Led limits from machine.state (saved_epoch checkpoint) journal medium.contents
        → IsTracked machine.changed from machine.state → IsLoaded medium machine checkpoint journal
    loaded medium from honest durable device count kept led tracked =
        subst (λ (l : Limits). IsLoadedUnder l medium machine checkpoint journal) (sym same) (record {
          honest = honest;
          durable = durable;
          form = form;
          range = range;
          epoch = epoch;
          device = device;
          lies = layout ∙ ap (layout_of limits) count;
          from = from;
          objects = kept.0;
          stand = kept.1;
          saved = kept.2;
          batches = led.0;
          journal_is = led.1;
          after = led.3;
          leads = led.2;
          tracked = tracked;
        })

    -- and where it lies
    pub on-disk : (last : ℕ) → sectors ≤ last → AreOf (device_form limits) limits → need_in (device_form limits) limits ≤ sectors
        → AreOnDisk last machine.limits checkpoint journal
    on-disk last there of room = subst (λ (l : Limits). AreOnDisk last l checkpoint journal) (sym same) (record {
      of = of;
      objects = subst (λ (l : Layout). IsLaidOut l last) (sym layout) (laid-out (device_form limits) (form-known limits) limits sectors last of room there);
      room = ap (λ (l : Layout). l.area) layout;
      form = form;
      within = subst (λ (r : Range). IsWithin r last) (sym range) (omega (arith, there, room));
      epoch = epoch;
    })
