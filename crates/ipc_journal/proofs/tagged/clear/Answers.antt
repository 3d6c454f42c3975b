-- One sector more is cleared; each image since holds the batches, and in the end what is read is clear.
use Rattle.std.proofs.Common.{◌≡◌, ◌⊎◌, inl, inr, ⊎_elim, ℕ, ◌+◌, ◌<◌, List, replicate, refl, sym, ◌∙◌, ap, subst, arith, Ok}
use Rattle.std.specs.Prelude.{slice_set}
use Rattle.std.proofs.lemmas.Bool.{cases_lt, or_from, or_parts}
use Rattle.ipc_disk.specs.declared.range.Range.{Range}
use Rattle.ipc_disk.specs.Medium.{Image, Medium, IsHonest, Writes}
use Rattle.ipc_disk.specs.Range.{IsOutside}
use Rattle.ipc_disk.specs.Since.{EachImageSince, LeavesAlone}
use Rattle.ipc_disk.specs.Standing.{sector_at}
use Rattle.ipc_disk.proofs.CallerLemmas.{EachImageSince-now, EachImageSince-sync, EachImageSince-weaken, LeavesAlone-writes}
use Rattle.ipc_disk.proofs.CallerLemmas.{Stays-join, honest-join, sector_at-set_other}
use Rattle.ipc_journal.specs.declared.form.Form.TheVariants.{Tagged}
use Rattle.ipc_journal.specs.Batch.{epoch_in}
use Rattle.ipc_journal.specs.Journal.{sectors_of, Holds, IsClear}
use Rattle.ipc_journal.specs.Matches.{KeepsSectors}
use Rattle.ipc_journal.proofs.Cleared.{IsCleared, Cleared, Holds-cleared, cleared-more}
use Rattle.ipc_journal.proofs.tagged.clear.Given.{Over}
use Rattle.ipc_journal.proofs.tagged.clear.Goals as goal
use Rattle.ipc_journal.proofs.tagged.clear.Goals.{After-clear_sector}

-- what holds of each image with some of the sectors cleared
holds : (range : Range) (epoch used : ℕ) (batches : List (List ℕ)) (old new : Medium) → 0 < epoch → used ≡ sectors_of Tagged batches
    → ((image : Image) → old.images_now image → Holds Tagged range epoch batches image)
    → EachImageSince old new (Cleared (range.first + used) old) → EachImageSince old new (Holds Tagged range epoch batches)
holds range epoch used batches old new later at here run =
    EachImageSince-weaken old new (Cleared (range.first + used) old) (Holds Tagged range epoch batches) run (λ image from.
    Holds-cleared range epoch batches from.0 image later
    (subst (λ (n : ℕ). IsCleared (range.first + n) from.0 image) at from.2) (here from.0 from.1))

-- a sector of before stays in another write
older-still : (old new : Image) (at other epoch : ℕ) (bytes : List ℕ) → other < at → (new ≡ old) ⊎ (new ≡ slice_set old at bytes)
    → epoch_in (sector_at old other) < epoch → epoch_in (sector_at new other) < epoch
older-still old new at other epoch bytes lt (inl same) older = subst (λ (image : Image). epoch_in (sector_at image other) < epoch) (sym same) older
older-still old new at other epoch bytes lt (inr set) older =
    subst (λ (s : List ℕ). epoch_in s < epoch)
    (sym (ap (λ (image : Image). sector_at image other) set ∙ sector_at-set_other old at other bytes (λ same. absurd (omega (arith, same, lt))))) older

module _ (g : Over) (c : After-clear_sector g) (honest : IsHonest (g.D.SectorDisk.medium c.args.disk.now)) where
  abbrev mid : Medium
  mid = g.D.SectorDisk.medium c.loop-i.disk

  then : IsHonest mid
  then = c.loop-i.invariant.honest.0 honest

  call : Writes (c.args.range.first + c.loop-i.i) (replicate 512 0) mid (g.D.SectorDisk.medium c.clear_sector.new.disk)
  call = c.clear_sector.ensures.medium then

  images : EachImageSince (g.D.SectorDisk.medium c.args.disk.now) (g.D.SectorDisk.medium c.clear_sector.new.disk)
      (Cleared (c.args.range.first + c.args.used) (g.D.SectorDisk.medium c.args.disk.now))
  images =
      cleared-more (c.args.range.first + c.args.used) (c.args.range.first + c.loop-i.i) _ mid _ (omega arith)
      (λ image now. omega (arith, (g.met.D.SectorDisk.shaped c.loop-i.disk image now).count, c.loop-i.invariant.size, c.requires.within))
      then (c.loop-i.invariant.images honest) call

  others : LeavesAlone (IsOutside c.args.range) (g.D.SectorDisk.medium c.args.disk.now) (g.D.SectorDisk.medium c.clear_sector.new.disk)
  others =
      LeavesAlone-writes (IsOutside c.args.range) _ mid _ (c.args.range.first + c.loop-i.i) (replicate 512 0) (c.loop-i.invariant.others honest)
      (λ out. ⊎_elim (λ low. absurd (omega (arith, low))) (λ high. absurd (omega (arith, high))) out) call

pub returns-in_err-found-clause-any_moment : goal.returns-in_err-found-clause-any_moment
returns-in_err-found-clause-any_moment g c = λ batches later honest at count here.
    let m = (goal.at.returns-in_err-found-clause-any_moment g c).After-clear_sector in
    holds c.args.range c.args.epoch c.args.used batches _ _ later at here (images g m honest)

pub returns-in_err-found-clause-others : goal.returns-in_err-found-clause-others
returns-in_err-found-clause-others g c = λ honest. others g (goal.at.returns-in_err-found-clause-others g c).After-clear_sector honest

pub loop-i-preserved : goal.loop-i-preserved
loop-i-preserved g c =
    let m = (goal.at.loop-i-preserved g c).After-clear_sector in
    let so_far = c.loop-i.invariant in
    let new = g.D.SectorDisk.medium c.clear_sector.new.disk in
    record {
      older = λ later honest k low high. elim (cases_lt k c.loop-i.i) [
        | inl lt ↦ older-still _ _ (c.args.range.first + c.loop-i.i) (c.args.range.first + k) c.args.epoch (replicate 512 0) (omega (arith, lt))
            ((call g m honest).contents (then g m honest)) (so_far.older later honest k low lt)
        | inr le ↦
            let is : k ≡ c.loop-i.i = omega (arith, le, high) in
            subst (λ (n : ℕ). epoch_in (sector_at new.contents (c.args.range.first + n)) < c.args.epoch) (sym is)
            (c.in_ok-found.ensures.older later (then g m honest))
      ];
      images = λ honest. images g m honest;
      others = λ honest. others g m honest;
      kept = λ none honest.
          let both = or_parts c.loop-i.found c.in_ok-found.field-0 none in
          Stays-join _ _ _ honest (so_far.kept both.0 honest) (c.clear_sector.ensures.kept (c.in_ok-found.was ∙ ap Ok both.1) (then g m honest));
      honest = honest-join _ _ _ so_far.honest c.clear_sector.ensures.same.honest;
      size = c.clear_sector.ensures.same.sectors ∙ so_far.size;
      failures = c.in_ok-found.ensures.counts.ok ∙ so_far.failures;
      writes = omega (arith, so_far.writes, c.in_ok-found.ensures.writes);
      syncs = c.in_ok-found.ensures.syncs ∙ so_far.syncs;
      quiet = λ none.
          let both = or_parts c.loop-i.found c.in_ok-found.field-0 none in
          c.clear_sector.ensures.quiet (c.in_ok-found.was ∙ ap Ok both.1) ∙ so_far.quiet both.0;
      clear = λ honest clear.
          let none = so_far.clear honest clear in
          or_from c.loop-i.found c.in_ok-found.field-0 none (c.in_ok-found.ensures.exact (then g m honest)
          (subst (λ (image : Image). epoch_in (sector_at image (c.args.range.first + c.loop-i.i)) < c.args.epoch)
          (sym ((so_far.kept none honest).contents honest)) (clear c.loop-i.i (omega arith) (omega arith))));
      begun = λ at. absurd (omega (arith, at));
    }

pub returns-in_err-sync-clause-any_moment : goal.returns-in_err-sync-clause-any_moment
returns-in_err-sync-clause-any_moment g c = λ batches later honest at count here.
    holds c.args.range c.args.epoch c.args.used batches _ _ later at here
    (EachImageSince-sync _ _ _ _ (c.loop-i.invariant.images honest) (c.loop-i.invariant.honest.0 honest) c.sync.ensures.medium)

pub returns-clause-any_moment : goal.returns-clause-any_moment
returns-clause-any_moment g c = λ batches later honest at count here.
    holds c.args.range c.args.epoch c.args.used batches _ _ later at here
    (EachImageSince-sync _ _ _ _ (c.loop-i.invariant.images honest) (c.loop-i.invariant.honest.0 honest) c.sync.ensures.medium)

pub returns-clause-cleared : goal.returns-clause-cleared
returns-clause-cleared g c = λ batches later honest durable at count here.
    let range = c.args.range in
    let epoch = c.args.epoch in
    let old = g.D.SectorDisk.medium c.args.disk.now in
    let mid = g.D.SectorDisk.medium c.loop-i.disk in
    let new = g.D.SectorDisk.medium c.sync.new.self in
    let then = c.loop-i.invariant.honest.0 honest in
    let run = holds range epoch c.args.used batches old mid later at
    (λ image now. subst (Holds Tagged range epoch batches) (sym (durable image now)) here) (c.loop-i.invariant.images honest) in
    let one : (image : Image) → new.images_now image → mid.contents ≡ image = λ image now.
    sym (c.in_ok-sync.ensures.durable image now ∙ c.sync.ensures.medium.contents then) in
    let clear : IsClear Tagged range epoch (sectors_of Tagged batches) mid.contents = λ i low high.
    c.loop-i.invariant.older later honest i (omega (arith, at, low)) (omega (arith, high)) in
    record {
      honest = c.sync.ensures.medium.time.honest.0 then;
      images = λ image now. EachImageSince-now old mid _ run then image (c.sync.ensures.medium.images image now);
      clear = λ image now. subst (IsClear Tagged range epoch (sectors_of Tagged batches)) (one image now) clear;
      alike = λ a b first second. subst (KeepsSectors Tagged range epoch a) (sym (one a first) ∙ one b second) (λ i lt is. refl);
    }
