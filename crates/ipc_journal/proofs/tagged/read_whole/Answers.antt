-- One sector more is tagged, and its piece is read.
use Rattle.std.proofs.Common.{inl, inr, ◌≡◌, ◌+◌, ℕ, List, [], refl, ap, sym, subst, ◌∙◌, arith}
use Rattle.std.specs.Prelude.{Some, slice_get}
use Rattle.std.proofs.lemmas.Bool.{cases_lt}
use Rattle.std.proofs.lemmas.Option.{get_or_from_slice_get}
use Rattle.ipc_disk.specs.Medium.{Image, IsHonest}
use Rattle.ipc_disk.proofs.CallerLemmas.{Stays-start, Stays-join, honest-join}
use Rattle.ipc_disk.specs.Standing.{sector_at}
use Rattle.ipc_journal.specs.Tagged.{IsTagged}
use Rattle.ipc_journal.proofs.TagPieces.{StandsBelow, pieces_more, pieces_none}
use Rattle.ipc_journal.proofs.tagged.read_whole.Given.{Over}
use Rattle.ipc_journal.proofs.tagged.read_whole.Goals as goal
use Rattle.ipc_journal.proofs.tagged.read_whole.Goals.{After-read, then-not-is_empty, else-not-is_empty, then-index-into, else-index-into}

-- the sector that is read
read : (g : Over) (c : After-read g) → IsHonest (g.D.SectorDisk.medium c.args.disk.now)
    → slice_get (g.D.SectorDisk.medium c.loop-index.disk).contents (c.args.at + c.loop-index.index) ≡ Some c.read.new.into
    → sector_at (g.D.SectorDisk.medium c.args.disk.now).contents (c.args.at + c.loop-index.index) ≡ c.read.new.into
read g c honest bytes =
    ap (λ (image : Image). sector_at image (c.args.at + c.loop-index.index)) (sym ((c.loop-index.invariant.reads honest).contents honest))
    ∙ get_or_from_slice_get _ (c.args.at + c.loop-index.index) c.read.new.into [] bytes

pub loop-index-init : goal.loop-index-init
loop-index-init g c =
    let old = g.D.SectorDisk.medium c.args.disk.now in
    let some : c.args.at + 0 ≡ c.args.at = omega arith in
    record {
      tagged = λ honest i low high. absurd (omega (arith, low, high));
      stands = λ honest first. elim c.if-not-is_empty.branch [
        | then-not-is_empty w ↦ subst (λ (l : List ℕ). StandsBelow 1 c.args.at l old.contents) (sym w.into-is)
            (pieces_more 0 c.args.at c.args.into.now w.put_piece.new.into c.args.first.now old.contents w.put_piece.ensures.before w.put_piece.ensures.piece
            (ap (λ (n : ℕ). sector_at old.contents n) some ∙ get_or_from_slice_get old.contents c.args.at c.args.first.now [] first)
            (λ i lt. absurd (omega (arith, lt))))
        | else-not-is_empty w ↦ pieces_none 0 c.args.at c.if-not-is_empty.into old.contents (grind arith) (λ i lt. absurd (omega (arith, lt)))
      ];
      reads = λ honest. Stays-start old;
      honest = (λ h. h, λ h. h);
      size = refl;
      counts = refl;
    }

pub returns-then-not-is_part-clause-whole : goal.returns-then-not-is_part-clause-whole
returns-then-not-is_part-clause-whole g c = λ honest first. (
  λ whole. absurd (cc),
  λ each.
      let old = g.D.SectorDisk.medium c.args.disk.now in
      let stays = c.loop-index.invariant.reads honest in
      let is = read g (goal.at.returns-then-not-is_part-clause-whole g c).After-read honest (c.in_ok-read.ensures.bytes (stays.time.honest.0 honest)) in
      let tagged = subst (IsTagged c.args.tag.epoch c.args.tag.number c.loop-index.index c.args.tag.count) is
      (each c.loop-index.index (omega arith) (omega arith)) in
      let yes = c.is_part.ensures.1 tagged in
      cc,
)

pub loop-index-preserved : goal.loop-index-preserved
loop-index-preserved g c =
    let old = g.D.SectorDisk.medium c.args.disk.now in
    let so_far = c.loop-index.invariant in
    let n = c.loop-index.index in
    record {
      tagged = λ honest i low high.
          let is = sector g c honest in
          elim (cases_lt i n) [
            | inl lt ↦ so_far.tagged honest i low lt
            | inr le ↦
                let same : i ≡ n = omega (arith, le, high) in
                subst (λ (k : ℕ). IsTagged c.args.tag.epoch c.args.tag.number k c.args.tag.count (sector_at old.contents (c.args.at + k))) (sym same)
                (subst (IsTagged c.args.tag.epoch c.args.tag.number n c.args.tag.count) (sym is) (c.is_part.ensures.0 c.if-not-is_part.false))
          ];
      stands = λ honest first. elim c.if-index-into.branch [
        | then-index-into w ↦ subst (λ (l : List ℕ). StandsBelow (n + 1) c.args.at l old.contents) (sym w.into-is)
            (pieces_more n c.args.at c.loop-index.into w.put_piece-then-index-into.new.into c.read.new.into old.contents
            w.put_piece-then-index-into.ensures.before w.put_piece-then-index-into.ensures.piece (sector g c honest) (so_far.stands honest first))
        | else-index-into w ↦ subst (λ (l : List ℕ). StandsBelow (n + 1) c.args.at l old.contents) (sym w.into-is)
            (pieces_none n c.args.at c.loop-index.into old.contents w.if-index-into.false (so_far.stands honest first))
      ];
      reads = λ honest. Stays-join old _ _ honest (so_far.reads honest) c.read.ensures.medium;
      honest = honest-join old _ _ so_far.honest c.read.ensures.medium.time.honest;
      size = c.read.ensures.call.sectors ∙ so_far.size;
      counts = c.in_ok-read.ensures.call.ok ∙ so_far.counts;
    }
  where
    sector : (g : Over) (c : goal.Joined-index-into g) → IsHonest (g.D.SectorDisk.medium c.args.disk.now)
        → sector_at (g.D.SectorDisk.medium c.args.disk.now).contents (c.args.at + c.loop-index.index) ≡ c.read.new.into
    sector g c honest =
        read g (goal.at.loop-index-preserved g c).After-read honest (c.in_ok-read.ensures.bytes ((c.loop-index.invariant.reads honest).time.honest.0 honest))
