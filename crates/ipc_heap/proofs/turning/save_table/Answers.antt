-- Each exit: the images since the start, and the sectors that stay. Those after the last call share its record.
use Rattle.std.proofs.Common.{◌≢◌, inl, inr, ⊎_elim, ℕ, refl, sym, subst, arith}
use Rattle.std.specs.Prelude.{Contains, slice_set}
use Rattle.std.proofs.lemmas.Bool.{cases_lt}
use Rattle.ipc_disk.specs.Medium.{Image, Medium, IsHonest}
use Rattle.ipc_disk.specs.Range.{IsOutside}
use Rattle.ipc_disk.specs.Since.{EachImageSince, LeavesAlone}
use Rattle.ipc_disk.proofs.CallerLemmas.{EachImageSince-durable, EachImageSince-join, EachImageSince-now, LeavesAlone-fewer, LeavesAlone-join}
use Rattle.ipc_disk.proofs.CallerLemmas.{LeavesAlone-stays, counts-calls}
use Rattle.ipc_heap.specs.Relations.Flip.{IsEither, IsTurned}
use Rattle.ipc_heap.specs.Relations.Table.{IsTableOn}
use Rattle.ipc_heap.proofs.Flips.{moment-table, others-table, turned-there}
use Rattle.ipc_heap.proofs.turning.save_table.Given.{Over}
use Rattle.ipc_heap.proofs.turning.save_table.Goals as goal
use Rattle.ipc_heap.proofs.turning.save_table.Goals.{After-write_durably}

-- once the table is synced there is one image, in which it stands, and then the root is written
module _ (g : Over) (c : After-write_durably g) (honest : IsHonest (g.D.SectorDisk.medium c.args.disk.now)) where
  abbrev old : Medium
  old = g.D.SectorDisk.medium c.args.disk.now

  abbrev kept : Medium
  kept = g.D.SectorDisk.medium c.sync.new.self

  run : LeavesAlone (λ i. Contains c.args.table.now i → ⊥) old kept
  run = LeavesAlone-stays (λ i. Contains c.args.table.now i → ⊥) old _ kept (c.write_table.ensures.others honest) c.sync.ensures.medium

  others : LeavesAlone (λ i. (Contains c.args.table.now i → ⊥) × (i ≢ c.args.root)) old (g.D.SectorDisk.medium c.write_durably.new.disk)
  others =
      let alone : ℕ → Type 0 = λ i. (Contains c.args.table.now i → ⊥) × (i ≢ c.args.root) in
      LeavesAlone-join alone old kept _ (others-table c.args.words.now c.args.table.now c.args.root c.args.epoch c.requires.root_apart old kept run)
      (LeavesAlone-fewer alone (IsOutside (record { first = c.args.root; count = 1 })) kept _
      (λ i both. ⊎_elim inl (λ le. inr (omega (arith, le, both.1))) (cases_lt i c.args.root)) (c.write_durably.ensures.others run.honest))

  turned : IsTurned c.args.words.now c.args.table.now c.args.root c.args.epoch old.contents (slice_set kept.contents c.args.root c.root_sector.result)
  turned =
      let long = (g.met.D.SectorDisk.shaped c.sync.new.self kept.contents run.honest.reads).count in
      turned-there c.args.words.now c.args.table.now c.args.root c.args.epoch c.requires.root_apart old.contents kept.contents c.root_sector.result
      run.contents
      (subst (IsTableOn c.args.words.now c.args.table.now) (sym (c.sync.ensures.medium.contents (c.write_table.ensures.others honest).honest))
      (c.in_ok-write_table.ensures.written honest))
      (omega (arith, long, c.sync.ensures.call.sectors, c.write_table.ensures.same.sectors, c.requires.root_there)) c.root_sector.ensures

  moment : EachImageSince old (g.D.SectorDisk.medium c.write_durably.new.disk) (IsEither c.args.words.now c.args.table.now c.args.root c.args.epoch old)
  moment =
      let Either : Image → Type 0 = IsEither c.args.words.now c.args.table.now c.args.root c.args.epoch old in
      let before = moment-table c.args.words.now c.args.table.now c.args.root c.args.epoch c.requires.root_apart old kept run in
      EachImageSince-join old kept _ Either before
      (EachImageSince-durable kept _ c.args.root c.root_sector.result Either c.in_ok-sync.ensures.durable
      (EachImageSince-now old kept Either before run.honest kept.contents run.honest.reads) (inr turned) (c.write_durably.ensures.any_moment run.honest))

pub returns-in_err-write_table-clause-any_moment : goal.returns-in_err-write_table-clause-any_moment
returns-in_err-write_table-clause-any_moment g c = λ honest.
    moment-table c.args.words.now c.args.table.now c.args.root c.args.epoch c.requires.root_apart _ _ (c.write_table.ensures.others honest)

pub returns-in_err-write_table-clause-others : goal.returns-in_err-write_table-clause-others
returns-in_err-write_table-clause-others g c = λ honest.
    others-table c.args.words.now c.args.table.now c.args.root c.args.epoch c.requires.root_apart _ _ (c.write_table.ensures.others honest)

pub returns-in_err-sync-clause-any_moment : goal.returns-in_err-sync-clause-any_moment
returns-in_err-sync-clause-any_moment g c = λ honest.
    moment-table c.args.words.now c.args.table.now c.args.root c.args.epoch c.requires.root_apart _ _
    (LeavesAlone-stays _ _ _ _ (c.write_table.ensures.others honest) c.sync.ensures.medium)

pub returns-in_err-sync-clause-others : goal.returns-in_err-sync-clause-others
returns-in_err-sync-clause-others g c = λ honest.
    others-table c.args.words.now c.args.table.now c.args.root c.args.epoch c.requires.root_apart _ _
    (LeavesAlone-stays _ _ _ _ (c.write_table.ensures.others honest) c.sync.ensures.medium)

pub returns-in_err-write_durably-clause-any_moment : goal.returns-in_err-write_durably-clause-any_moment
returns-in_err-write_durably-clause-any_moment g c = moment g (goal.at.returns-in_err-write_durably-clause-any_moment g c).After-write_durably

pub returns-in_err-write_durably-clause-others : goal.returns-in_err-write_durably-clause-others
returns-in_err-write_durably-clause-others g c = others g (goal.at.returns-in_err-write_durably-clause-others g c).After-write_durably

pub returns-clause-any_moment : goal.returns-clause-any_moment
returns-clause-any_moment g c = moment g (goal.at.returns-clause-any_moment g c).After-write_durably

pub returns-clause-others : goal.returns-clause-others
returns-clause-others g c = others g (goal.at.returns-clause-others g c).After-write_durably

pub returns-clause-turned : goal.returns-clause-turned
returns-clause-turned g c = λ honest.
    let m = (goal.at.returns-clause-turned g c).After-write_durably in
    subst (IsTurned c.args.words.now c.args.table.now c.args.root c.args.epoch (g.D.SectorDisk.medium c.args.disk.now).contents)
    (sym (c.in_ok-write_durably.ensures.written (run g m honest).honest)) (turned g m honest)

pub returns-clause-counts : goal.returns-clause-counts
returns-clause-counts g c = record {
  err = tt;
  ok = rw (c.in_ok-write_durably.ensures.counts.ok, c.in_ok-sync.ensures.call.ok, c.in_ok-write_table.ensures.counts.ok)
      (counts-calls _ _ _ _ refl (omega arith) (omega (arith, (g.met.D.SectorDisk.in_range c.args.disk.now).syncs_fit)));
}
