-- Each write adds a sector, and touches no other.
use Rattle.std.proofs.Common.{◌≡◌, inl, inr, ℕ, List, length, ◌+◌, ◌<◌, ⊎_elim, refl, ap, sym}
use Rattle.std.proofs.Common.{◌∙◌, subst, arith, length-take, drop, ◌*◌}
use Rattle.std.specs.Prelude.{slice_set}
use Rattle.ipc_disk.specs.Medium.{Image, Medium, IsHonest, SetOrNot, Writes}
use Rattle.ipc_disk.specs.Range.{IsOutside}
use Rattle.ipc_disk.specs.Since.{EachImageSince, LeavesAlone}
use Rattle.ipc_disk.proofs.CallerLemmas.{EachImageSince-now, EachImageSince-start, EachImageSince-step, LeavesAlone-start, LeavesAlone-writes, honest-join}
use Rattle.ipc_journal.specs.Tagged.{pieces_for, tagged_bytes, tagged_piece, IsMixed}
use Rattle.ipc_journal.proofs.TagPieces.{WrittenBelow, written_more, IsMixed-start, IsMixed-set}
use Rattle.ipc_journal.proofs.tagged.write_tagged.Given.{Over}
use Rattle.ipc_journal.proofs.tagged.write_tagged.Goals as goal
use Rattle.ipc_journal.proofs.tagged.write_tagged.Goals.{After-write}

-- each image has some of the sectors
abbrev Some : ℕ → ℕ → ℕ → List ℕ → Medium → Image → Type 0
Some at epoch number batch old image = (before : Image) × old.images_now before × IsMixed at epoch number batch before image

-- one more, or not
some-more : (at epoch number n : ℕ) (batch : List ℕ) (old mid new : Medium) → n < pieces_for (length batch)
    → ((image : Image) → mid.images_now image → at + n < length image) → IsHonest mid → EachImageSince old mid (Some at epoch number batch old)
    → Writes (at + n) (tagged_bytes epoch number n (pieces_for (length batch)) (tagged_piece n batch)) mid new
    → EachImageSince old new (Some at epoch number batch old)
some-more at epoch number n batch old mid new few long honest so_far call =
    EachImageSince-step old mid new (Some at epoch number batch old) so_far call.time (λ image now. from image (call.images image now))
  where
    from : (image : Image) → SetOrNot (at + n) (tagged_bytes epoch number n (pieces_for (length batch)) (tagged_piece n batch)) mid image
        → Some at epoch number batch old image
    from image (before, now, inl same) = subst (Some at epoch number batch old) (sym same) (EachImageSince-now old mid _ so_far honest before now)
    from image (before, now, inr set) =
        let was = EachImageSince-now old mid _ so_far honest before now in
        subst (Some at epoch number batch old) (sym set)
        (was.0, was.1, IsMixed-set at epoch number n batch was.0 before few (long before now) was.2)

-- the sector that is written
sector-is : (g : Over) (c : After-write g)
    → c.tagged_sector-sector.result
    ≡ tagged_bytes c.args.epoch c.args.number c.loop-i.i (pieces_for (length c.args.batch.now)) (tagged_piece c.loop-i.i c.args.batch.now)
sector-is g c =
    c.tagged_sector-sector.ensures
    ∙ ap (λ (k : ℕ). tagged_bytes c.args.epoch c.args.number c.loop-i.i k c.piece_of.result.now) c.pieces_for_len-count.ensures
    ∙ ap (λ (p : List ℕ). tagged_bytes c.args.epoch c.args.number c.loop-i.i (pieces_for (length c.args.batch.now)) p) c.piece_of.ensures

pub tagged_sector-sector-requires : goal.tagged_sector-sector-requires
tagged_sector-sector-requires g c =
    omega (arith, ap length c.piece_of.ensures, length-take 496 (drop (496 * c.loop-i.i) c.args.batch.now))

-- its medium, after so many
more : (g : Over) (c : After-write g) → IsHonest (g.D.SectorDisk.medium c.args.disk.now)
    → EachImageSince (g.D.SectorDisk.medium c.args.disk.now) (g.D.SectorDisk.medium c.write.new.self)
    (Some c.args.at c.args.epoch c.args.number c.args.batch.now (g.D.SectorDisk.medium c.args.disk.now))
more g c honest =
    let so_far = c.loop-i.invariant in
    some-more c.args.at c.args.epoch c.args.number c.loop-i.i c.args.batch.now _ (g.D.SectorDisk.medium c.loop-i.disk) _
    (omega (arith, c.pieces_for_len-count.ensures))
    (λ image now. omega (arith, (g.met.D.SectorDisk.shaped c.loop-i.disk image now).count, so_far.size, c.requires.within, c.pieces_for_len-count.ensures))
    (so_far.others honest).honest (so_far.mixed honest)
    (subst (λ (s : List ℕ). Writes (c.args.at + c.loop-i.i) s (g.D.SectorDisk.medium c.loop-i.disk) (g.D.SectorDisk.medium c.write.new.self)) (sector-is g c)
    c.write.ensures.medium)

-- the others stay
others : (g : Over) (c : After-write g) → IsHonest (g.D.SectorDisk.medium c.args.disk.now)
    → LeavesAlone (IsOutside (record { first = c.args.at; count = pieces_for (length c.args.batch.now) })) (g.D.SectorDisk.medium c.args.disk.now)
    (g.D.SectorDisk.medium c.write.new.self)
others g c honest =
    LeavesAlone-writes (IsOutside (record { first = c.args.at; count = pieces_for (length c.args.batch.now) })) _ _ _
    (c.args.at + c.loop-i.i) c.tagged_sector-sector.result (c.loop-i.invariant.others honest)
    (λ out. ⊎_elim (λ low. absurd (omega (arith, low))) (λ high. absurd (omega (arith, high, c.pieces_for_len-count.ensures))) out)
    c.write.ensures.medium

pub returns-in_err-write-clause-any_moment : goal.returns-in_err-write-clause-any_moment
returns-in_err-write-clause-any_moment g c = more g (goal.at.returns-in_err-write-clause-any_moment g c).After-write

pub returns-in_err-write-clause-others : goal.returns-in_err-write-clause-others
returns-in_err-write-clause-others g c = others g (goal.at.returns-in_err-write-clause-others g c).After-write

pub loop-i-init : goal.loop-i-init
loop-i-init g c = record {
  written = λ honest i lt. absurd (omega (arith, lt));
  mixed = λ honest. EachImageSince-start (g.D.SectorDisk.medium c.args.disk.now) _ (g.met.D.SectorDisk.only_now c.args.disk.now)
      (λ image now. (image, now, IsMixed-start c.args.at c.args.epoch c.args.number c.args.batch.now image));
  others = λ honest. LeavesAlone-start _ _ honest (g.met.D.SectorDisk.only_now c.args.disk.now);
  honest = (λ h. h, λ h. h);
  size = refl;
  failures = refl;
  writes = omega (arith, (g.met.D.SectorDisk.in_range c.args.disk.now).writes_fit);
  syncs = refl;
}

pub loop-i-preserved : goal.loop-i-preserved
loop-i-preserved g c =
    let here = (goal.at.loop-i-preserved g c).After-write in
    let so_far = c.loop-i.invariant in
    record {
      written = λ honest.
          let now = (so_far.others honest).honest in
          let old = g.D.SectorDisk.medium c.loop-i.disk in
          let long : length old.contents ≡ g.D.SectorDisk.size c.loop-i.disk = (g.met.D.SectorDisk.shaped c.loop-i.disk old.contents now.reads).count in
          let set = c.in_ok-write.ensures.written now
          ∙ ap (λ (l : List ℕ). slice_set old.contents (c.args.at + c.loop-i.i) l) (sector-is g here) in
          subst (WrittenBelow (c.loop-i.i + 1) c.args.at c.args.epoch c.args.number c.args.batch.now) (sym set)
          (written_more c.loop-i.i c.args.at c.args.epoch c.args.number c.args.batch.now old.contents
          (omega (arith, long, so_far.size, c.requires.within, c.pieces_for_len-count.ensures)) (so_far.written honest));
      mixed = more g here;
      others = others g here;
      honest = honest-join _ _ _ so_far.honest c.write.ensures.medium.time.honest;
      size = c.write.ensures.call.sectors ∙ so_far.size;
      failures = ap (λ n. n.failures) c.in_ok-write.ensures.call.ok ∙ so_far.failures;
      writes = omega (arith, ap (λ n. n.writes) c.in_ok-write.ensures.call.ok, so_far.writes);
      syncs = ap (λ n. n.syncs) c.in_ok-write.ensures.call.ok ∙ so_far.syncs;
    }
