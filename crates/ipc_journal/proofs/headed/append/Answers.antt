-- Each exit: the images since the start, and the sectors that stay. Those after the last call share its record.
use Rattle.std.proofs.Common.{inl, inr, List, [], ◌∷◌, ◌++◌, ℕ, ◌≡◌, ◌+◌, ◌<◌, ◌≤◌, length, sym, ◌∙◌, ap, refl, subst, arith}
use Rattle.std.specs.Prelude.{slice_set}
use Rattle.ipc_disk.specs.declared.range.Range.{Range}
use Rattle.ipc_disk.specs.Medium.{Image, Medium, IsHonest}
use Rattle.ipc_disk.specs.Range.{IsOutside}
use Rattle.ipc_disk.specs.Since.{EachImageSince, LeavesAlone}
use Rattle.ipc_disk.specs.Standing.{sectors_for, sector_at, IsWrittenAt, StandsAt}
use Rattle.ipc_disk.proofs.CallerLemmas.{EachImageSince-durable, EachImageSince-now, LeavesAlone-join, LeavesAlone-keeps, LeavesAlone-part}
use Rattle.ipc_disk.proofs.CallerLemmas.{LeavesAlone-stays, IsWrittenAt-under, StandsAt-written, counts-calls}
use Rattle.ipc_disk.proofs.CallerLemmas.{sector_at-same, sector_at-set_same, sector_at-set_other}
use Rattle.ipc_journal.specs.declared.form.Form.TheVariants.{Headed}
use Rattle.ipc_journal.specs.Batch.{epoch_in}
use Rattle.ipc_journal.specs.Headed.{header_bytes, used_in, Counts}
use Rattle.ipc_journal.specs.Journal.{sectors_of, Holds, Stand}
use Rattle.ipc_journal.specs.Matches.{HoldsOneMoreOrNot, IsKept}
use Rattle.ipc_journal.specs.Meanwhile.{Comes}
use Rattle.ipc_journal.proofs.CallerLemmas.{Fill-push, Fill-same, sectors_of-push}
use Rattle.ipc_journal.proofs.Headers.{Counts-same}
use Rattle.ipc_journal.proofs.headed.append.Given.{Over}
use Rattle.ipc_journal.proofs.headed.append.Goals as goal
use Rattle.ipc_journal.proofs.headed.append.Goals.{After-write_durably}

-- the free sectors that a batch is written to
abbrev free : Range → ℕ → List ℕ → Range
free range used batch = record { first = range.first + 1 + used; count = sectors_for (length batch) }

module _ (range : Range) (epoch : ℕ) (batches : List (List ℕ)) where
  -- the header and the batches' sectors decide it
  same-headed : (a b : Image) → ((j : ℕ) → range.first ≤ j → j < range.first + 1 + sectors_of Headed batches → sector_at a j ≡ sector_at b j)
      → Holds Headed range epoch batches a → Holds Headed range epoch batches b
  same-headed a b same holds = record {
    stand = Fill-same Headed range epoch 0 0 batches a b (λ j low high. same j (omega (arith, low)) (omega (arith, high))) holds.stand;
    ends = Counts-same range epoch (sectors_of Headed batches) a b (same range.first (omega arith) (omega arith)) holds.ends;
  }

  -- calls that write to the free ones alone leave the batches
  body : (used : ℕ) (batch : List ℕ) (old new : Medium) → used ≡ sectors_of Headed batches → IsKept Headed range epoch batches old
      → LeavesAlone (IsOutside (free range used batch)) old new → EachImageSince old new (Holds Headed range epoch batches)
  body used batch old new is at run =
      LeavesAlone-keeps (IsOutside (free range used batch)) old new (Holds Headed range epoch batches) run at.images
      (λ a b same holds. same-headed a b (λ j low high. sector_at-same (IsOutside (free range used batch)) a b j same (inl (omega (arith, high, is)))) holds)

  -- batches that stand are there from the moment that the header says so
  set : (sector : List ℕ) (image : Image) → range.first < length image → sectors_of Headed batches < range.count → Stand Headed range epoch batches image
      → epoch_in sector ≡ epoch → used_in sector ≡ sectors_of Headed batches → Holds Headed range epoch batches (slice_set image range.first sector)
  set sector image lt room stand e u =
      let new = slice_set image range.first sector in
      let header = sector_at-set_same image range.first sector lt in
      record {
        stand = Fill-same Headed range epoch 0 0 batches image new
            (λ j low high. sym (sector_at-set_other image range.first j sector (λ same. absurd (omega (arith, same, low))))) stand;
        ends = Counts.Current (ap epoch_in header ∙ e) (ap used_in header ∙ u) room;
      }

-- once the batch is synced there is one image, in which it stands, and then the header is written
module _ (g : Over) (c : After-write_durably g) where
  abbrev old : Medium
  old = g.D.SectorDisk.medium c.args.disk.now

  abbrev kept : Medium
  kept = g.D.SectorDisk.medium c.sync.new.self

  abbrev range : Range
  range = c.args.range

  run : IsHonest old → LeavesAlone (IsOutside (free range c.args.used c.args.batch.now)) old kept
  run h = LeavesAlone-stays (IsOutside (free range c.args.used c.args.batch.now)) old _ kept (c.write_bytes.ensures.others h) c.sync.ensures.medium

  others : IsHonest old → LeavesAlone (IsOutside range) old (g.D.SectorDisk.medium c.write_durably.new.disk)
  others h = LeavesAlone-join (IsOutside range) old kept _
      (LeavesAlone-part (free range c.args.used c.args.batch.now) range old kept (omega arith) (omega (arith, c.requires.fits)) (run h))
      (LeavesAlone-part _ range kept _ (omega arith) (omega (arith, c.requires.fits)) (c.write_durably.ensures.others (run h).honest))

  there : IsHonest old → range.first < length kept.contents
  there h =
      let long = (g.met.D.SectorDisk.shaped c.sync.new.self kept.contents (run h).honest.reads).count in
      omega (arith, long, c.sync.ensures.call.sectors, c.write_bytes.ensures.same.sectors, c.requires.within, c.requires.fits)

  written : IsHonest old → IsWrittenAt (range.first + 1 + c.args.used) c.args.batch.now kept.contents
  written h = subst (IsWrittenAt (range.first + 1 + c.args.used) c.args.batch.now)
      (sym (c.sync.ensures.medium.contents (c.write_bytes.ensures.others h).honest)) (c.in_ok-write_bytes.ensures.written h)

  module _ (batches : List (List ℕ)) (used : c.args.used ≡ sectors_of Headed batches) (at : IsKept Headed range c.args.epoch batches old) where
    abbrev more : List (List ℕ)
    more = batches ++ c.args.batch.now ∷ []

    synced : EachImageSince old kept (Holds Headed range c.args.epoch batches)
    synced = body range c.args.epoch batches c.args.used c.args.batch.now old kept used at (run at.honest)

    before : Holds Headed range c.args.epoch batches kept.contents
    before = EachImageSince-now old kept _ synced (run at.honest).honest kept.contents (run at.honest).honest.reads

    stand : Stand Headed range c.args.epoch more kept.contents
    stand = Fill-push Headed range c.args.epoch 0 0 batches c.args.batch.now kept.contents before.stand c.requires.batch
        (subst (λ (n : ℕ). StandsAt (range.first + 1 + n) c.args.batch.now kept.contents) (omega (arith, used))
        (StandsAt-written _ c.args.batch.now kept.contents (written at.honest)))

    pushed : Holds Headed range c.args.epoch more (slice_set kept.contents range.first c.header_sector.result)
    pushed =
        let end = sectors_of-push Headed batches c.args.batch.now in
        set range c.args.epoch more c.header_sector.result kept.contents (there at.honest) (omega (arith, end, c.requires.fits, used))
        stand c.header_sector.ensures.epoch (omega (arith, end, c.header_sector.ensures.used, c.sectors_for_len.ensures, used))

    comes : Comes g.D.SectorDisk.medium Headed range c.args.epoch batches c.args.batch.now c.args.disk.now c.write_durably.new.disk
    comes = inr (
      c.sync.new.self,
      synced,
      EachImageSince-durable kept _ range.first c.header_sector.result
          (λ image. Stand Headed range c.args.epoch more image × HoldsOneMoreOrNot Headed range c.args.epoch batches c.args.batch.now image)
          c.in_ok-sync.ensures.durable (stand, inl before) (pushed.stand, inr pushed)
          (c.write_durably.ensures.any_moment (run at.honest).honest),
    )

pub returns-in_err-write_bytes-clause-any_moment : goal.returns-in_err-write_bytes-clause-any_moment
returns-in_err-write_bytes-clause-any_moment g c = λ batches used at.
    inl (body c.args.range c.args.epoch batches c.args.used c.args.batch.now _ _ used at (c.write_bytes.ensures.others at.honest))

pub returns-in_err-write_bytes-clause-others : goal.returns-in_err-write_bytes-clause-others
returns-in_err-write_bytes-clause-others g c = λ h.
    LeavesAlone-part (free c.args.range c.args.used c.args.batch.now) c.args.range _ _ (omega arith) (omega (arith, c.requires.fits))
    (c.write_bytes.ensures.others h)

pub returns-in_err-sync-clause-any_moment : goal.returns-in_err-sync-clause-any_moment
returns-in_err-sync-clause-any_moment g c = λ batches used at.
    inl (body c.args.range c.args.epoch batches c.args.used c.args.batch.now _ _ used at
    (LeavesAlone-stays _ _ _ _ (c.write_bytes.ensures.others at.honest) c.sync.ensures.medium))

pub returns-in_err-sync-clause-others : goal.returns-in_err-sync-clause-others
returns-in_err-sync-clause-others g c = λ h.
    LeavesAlone-part (free c.args.range c.args.used c.args.batch.now) c.args.range _ _ (omega arith) (omega (arith, c.requires.fits))
    (LeavesAlone-stays _ _ _ _ (c.write_bytes.ensures.others h) c.sync.ensures.medium)

pub returns-clause-any_moment : goal.returns-clause-any_moment
returns-clause-any_moment g c = comes g (goal.at.returns-clause-any_moment g c).After-write_durably

pub returns-clause-others : goal.returns-clause-others
returns-clause-others g c = others g (goal.at.returns-clause-others g c).After-write_durably

-- the batch and the header, to the byte
pub returns-clause-written : goal.returns-clause-written
returns-clause-written g c = λ h.
    let m = (goal.at.returns-clause-written g c).After-write_durably in (
      IsWrittenAt-under c.args.range.first (c.args.range.first + 1 + c.args.used) c.args.batch.now c.header_sector.result _ _
          (omega arith) (c.in_ok-write_durably.ensures.written (run g m h).honest) (written g m h),
      ap (λ (image : Image). sector_at image c.args.range.first) (c.in_ok-write_durably.ensures.written (run g m h).honest)
          ∙ sector_at-set_same _ c.args.range.first c.header_sector.result (there g m h)
          ∙ c.header_sector.ensures.bytes ∙ ap (λ (n : ℕ). header_bytes c.args.epoch (c.args.used + n)) c.sectors_for_len.ensures,
    )

-- and then the batch is there
pub returns-clause-acknowledged : goal.returns-clause-acknowledged
returns-clause-acknowledged g c = λ batches used at.
    let m = (goal.at.returns-clause-acknowledged g c).After-write_durably in
    record {
      honest = (others g m at.honest).honest;
      images = λ image now.
          subst (Holds Headed c.args.range c.args.epoch (batches ++ c.args.batch.now ∷ []))
          (sym (c.in_ok-write_durably.ensures.durable image now ∙ c.in_ok-write_durably.ensures.written (run g m at.honest).honest))
          (pushed g m batches used at);
      clear = λ image now. tt;
      alike = λ a b here there. tt;
    }

pub returns-in_err-write_durably-clause-any_moment : goal.returns-in_err-write_durably-clause-any_moment
returns-in_err-write_durably-clause-any_moment g c =
    comes g (goal.at.returns-in_err-write_durably-clause-any_moment g c).After-write_durably

pub returns-in_err-write_durably-clause-others : goal.returns-in_err-write_durably-clause-others
returns-in_err-write_durably-clause-others g c = others g (goal.at.returns-in_err-write_durably-clause-others g c).After-write_durably

pub returns-clause-counts : goal.returns-clause-counts
returns-clause-counts g c = record {
  err = tt;
  ok = rw (c.in_ok-write_durably.ensures.counts.ok, c.in_ok-sync.ensures.call.ok, c.in_ok-write_bytes.ensures.counts.ok)
      (counts-calls _ _ _ _ refl (omega arith) (omega arith));
}
