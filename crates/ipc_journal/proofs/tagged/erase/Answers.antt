-- Each write adds a sector, and touches no other.
use Rattle.std.proofs.Common.{◌≡◌, ⊎_elim, inl, inr, ℕ, ◌+◌, ◌<◌, [], length, replicate, refl, sym, ◌∙◌, ap, subst, arith}
use Rattle.std.specs.Prelude.{slice_set}
use Rattle.std.proofs.lemmas.Bool.{cases_lt}
use Rattle.ipc_disk.specs.declared.range.Range.{Range}
use Rattle.ipc_disk.specs.Medium.{Image, Medium, IsHonest}
use Rattle.ipc_disk.specs.Range.{IsOutside}
use Rattle.ipc_disk.specs.Since.{EachImageSince, LeavesAlone}
use Rattle.ipc_disk.specs.Standing.{sector_at}
use Rattle.ipc_disk.proofs.CallerLemmas.{EachImageSince-now, EachImageSince-start, EachImageSince-step, LeavesAlone-start, LeavesAlone-writes}
use Rattle.ipc_disk.proofs.CallerLemmas.{honest-join, sector_at-set_same, sector_at-set_other}
use Rattle.ipc_journal.specs.Batch.{epoch_in}
use Rattle.ipc_journal.specs.Journal.{Holds}
use Rattle.ipc_journal.specs.declared.form.Form.TheVariants.{Headed}
use Rattle.ipc_journal.proofs.CallerLemmas.{Holds-older}
use Rattle.ipc_journal.proofs.Cleared.{epoch_in-zeros}
use Rattle.ipc_journal.proofs.Headers.{Counts-same}
use Rattle.ipc_journal.proofs.tagged.erase.Given.{Over}
use Rattle.ipc_journal.proofs.tagged.erase.Goals as goal
use Rattle.ipc_journal.proofs.tagged.erase.Goals.{After-write}

-- zeros at one place more
one-more : (first n : ℕ) (image : Image) → first + n < length image
    → ((k : ℕ) → k < n → sector_at image (first + k) ≡ replicate 512 0)
    → (k : ℕ) → k < n + 1 → sector_at (slice_set image (first + n) (replicate 512 0)) (first + k) ≡ replicate 512 0
one-more first n image has so_far k lt =
    elim (cases_lt k n) [
      | inl low ↦ sector_at-set_other image (first + n) (first + k) (replicate 512 0) (λ same. absurd (omega (arith, same, low))) ∙ so_far k low
      | inr high ↦
          let is : first + k ≡ first + n = omega (arith, lt, high) in
          ap (sector_at (slice_set image (first + n) (replicate 512 0))) is ∙ sector_at-set_same image (first + n) (replicate 512 0) has
    ]

others : (g : Over) (c : After-write g) → IsHonest (g.D.SectorDisk.medium c.args.disk.now)
    → LeavesAlone (IsOutside c.args.range) (g.D.SectorDisk.medium c.args.disk.now) (g.D.SectorDisk.medium c.write.new.self)
others g c honest =
    LeavesAlone-writes (IsOutside c.args.range) _ _ _ (c.args.range.first + c.loop-i.i) (replicate 512 0) (c.loop-i.invariant.others honest)
    (λ out. ⊎_elim (λ low. absurd (omega (arith, low))) (λ high. absurd (omega (arith, high))) out) c.write.ensures.medium

pub returns-in_err-write-clause-others : goal.returns-in_err-write-clause-others
returns-in_err-write-clause-others g c = others g (goal.at.returns-in_err-write-clause-others g c).After-write

-- a header stands for no batch if it is as it was, or zeros
no-batch : (range : Range) (epoch i : ℕ) (image : Image) → 0 < epoch → range.first + i < length image → Holds Headed range epoch [] image
    → Holds Headed range epoch [] (slice_set image (range.first + i) (replicate 512 0))
no-batch range epoch i image some has none =
    let set : Image = slice_set image (range.first + i) (replicate 512 0) in
    elim (cases_lt 0 i) [
      | inl later ↦ record {
        stand = tt;
        ends = Counts-same range epoch 0 image set
            (sym (sector_at-set_other image (range.first + i) range.first (replicate 512 0) (λ same. absurd (omega (arith, same, later))))) none.ends;
      }
      | inr first ↦
          let is : range.first ≡ range.first + i = omega (arith, first) in
          let zeros : sector_at set range.first ≡ replicate 512 0 =
          ap (sector_at set) is ∙ sector_at-set_same image (range.first + i) (replicate 512 0) has in
          Holds-older Headed range epoch set (omega (arith, some, epoch_in-zeros, ap epoch_in zeros))
    ]

headed : (g : Over) (c : After-write g) (epoch : ℕ) → 0 < epoch → IsHonest (g.D.SectorDisk.medium c.args.disk.now)
    → ((image : Image) → (g.D.SectorDisk.medium c.args.disk.now).images_now image → Holds Headed c.args.range epoch [] image)
    → EachImageSince (g.D.SectorDisk.medium c.args.disk.now) (g.D.SectorDisk.medium c.write.new.self) (Holds Headed c.args.range epoch [])
headed g c epoch some honest none =
    let mid : Medium = g.D.SectorDisk.medium c.loop-i.disk in
    let P : Image → Type 0 = Holds Headed c.args.range epoch [] in
    let so_far = c.loop-i.invariant.headed epoch some honest none in
    let now = (c.loop-i.invariant.others honest).honest in
    let before : (image : Image) → mid.images_now image → P image = EachImageSince-now _ mid P so_far now in
    EachImageSince-step _ mid (g.D.SectorDisk.medium c.write.new.self) P so_far c.write.ensures.medium.time
    (λ image left. let was = c.write.ensures.medium.images image left in
    let zeros = no-batch c.args.range epoch c.loop-i.i was.0 some
    (omega (arith, (g.met.D.SectorDisk.shaped c.loop-i.disk was.0 was.1).count, c.loop-i.invariant.size, c.requires.within)) (before was.0 was.1) in
    ⊎_elim (λ same. subst P (sym same) (before was.0 was.1)) (λ set. subst P (sym set) zeros) was.2)

pub returns-in_err-write-clause-headed : goal.returns-in_err-write-clause-headed
returns-in_err-write-clause-headed g c = headed g (goal.at.returns-in_err-write-clause-headed g c).After-write

pub loop-i-init : goal.loop-i-init
loop-i-init g c = record {
  erased = λ honest k lt. absurd (omega (arith, lt));
  others = λ honest. LeavesAlone-start _ _ honest (g.met.D.SectorDisk.only_now c.args.disk.now);
  headed = λ epoch some honest none. EachImageSince-start _ _ (g.met.D.SectorDisk.only_now c.args.disk.now) none;
  honest = (λ h. h, λ h. h);
  size = refl;
  failures = refl;
  writes = omega (arith, (g.met.D.SectorDisk.in_range c.args.disk.now).writes_fit);
  syncs = refl;
}

pub loop-i-preserved : goal.loop-i-preserved
loop-i-preserved g c =
    let here = (goal.at.loop-i-preserved g c).After-write in
    let so_far = c.loop-i.invariant in
    record {
      erased = λ honest k lt.
          let now = (so_far.others honest).honest in
          let old = g.D.SectorDisk.medium c.loop-i.disk in
          let long : length old.contents ≡ g.D.SectorDisk.size c.loop-i.disk = (g.met.D.SectorDisk.shaped c.loop-i.disk old.contents now.reads).count in
          subst (λ (image : Image). sector_at image (c.args.range.first + k) ≡ replicate 512 0) (sym (c.in_ok-write.ensures.written now))
          (one-more c.args.range.first c.loop-i.i old.contents (omega (arith, long, so_far.size, c.requires.within)) (so_far.erased honest) k lt);
      others = others g here;
      headed = headed g here;
      honest = honest-join _ _ _ so_far.honest c.write.ensures.medium.time.honest;
      size = c.write.ensures.call.sectors ∙ so_far.size;
      failures = ap (λ n. n.failures) c.in_ok-write.ensures.call.ok ∙ so_far.failures;
      writes = omega (arith, ap (λ n. n.writes) c.in_ok-write.ensures.call.ok, so_far.writes);
      syncs = ap (λ n. n.syncs) c.in_ok-write.ensures.call.ok ∙ so_far.syncs;
    }
