-- All sectors of a batch stand there just if they are read; it is the batch that is read if its length fits.
use Rattle.std.proofs.Common.{◌≡◌, ◌↔◌, inr, ⊎_elim, ℕ, zero, suc, ◌+◌, ◌<◌, ◌≤◌, List, [], ◌++◌, length, take, drop, ap, sym, subst, ◌∙◌, arith}
use Rattle.std.specs.Prelude.{Some, slice_get}
use Rattle.std.proofs.lemmas.List.{take_at, length-take-le}
use Rattle.std.proofs.lemmas.Option.{get_or_from_slice_get, same_Some}
use Rattle.byteorder.specs.Endian.{big_number}
use Rattle.byteorder.specs.Numbers.{big_from-take}
use Rattle.ipc_disk.specs.declared.range.Range.{Range}
use Rattle.ipc_disk.specs.Medium.{Image, IsHonest}
use Rattle.ipc_disk.specs.Standing.{sector_at}
use Rattle.ipc_journal.specs.declared.tagged.Tag.{Tag}
use Rattle.ipc_journal.specs.declared.form.Form.TheVariants.{Tagged}
use Rattle.ipc_journal.specs.Batch.{length_in, IsBatch}
use Rattle.ipc_journal.specs.Journal.{IsAt}
use Rattle.ipc_journal.specs.Tagged.{count_in, pieces_for, IsTagged, IsWhole, StandsTagged}
use Rattle.ipc_journal.proofs.CallerLemmas.{IsBatch-tagged, length-tagged}
use Rattle.ipc_journal.proofs.tagged.read_next.Given.{Over}
use Rattle.ipc_journal.proofs.tagged.read_next.Goals as goal
use Rattle.ipc_journal.proofs.tagged.read_next.Goals.{After-read_whole}

-- the first sector, and the others
whole-from : (range : Range) (epoch place before count : ℕ) (image : Image) → 0 < count → place + count ≤ range.count
    → IsTagged epoch (before + 1) 0 count (sector_at image (range.first + place))
    → ((i : ℕ) → 0 < i → i < count → IsTagged epoch (before + 1) i count (sector_at image (range.first + place + i)))
    → IsWhole range epoch place before count image
whole-from range epoch place before count image some within first others = record { some = some; within = within; each = each }
  where
    each : (i : ℕ) → i < count → IsTagged epoch (before + 1) i count (sector_at image (range.first + place + i))
    each zero lt =
        let at : range.first + place + 0 ≡ range.first + place = omega arith in
        subst (λ (n : ℕ). IsTagged epoch (before + 1) 0 count (sector_at image n)) (sym at) first
    each (suc i) lt = others (suc i) (omega arith) lt

-- what is read of a length field
read-length : (sector : List ℕ) (found : ℕ) → found ≡ big_number 4 (take 496 (drop 16 sector)) → length_in (drop 16 sector) ≡ found
unfolding length_in
read-length sector found is = sym (is ∙ big_from-take 0 4 496 (drop 16 sector) (omega arith))

module _ (g : Over) (c : After-read_whole g) (honest : IsHonest (g.D.SectorDisk.medium c.args.disk.now)) where
  abbrev image : Image
  image = (g.D.SectorDisk.medium c.args.disk.now).contents

  abbrev at : ℕ
  at = c.args.range.first + c.args.used

  -- the sectors that the first one counts
  abbrev count : ℕ
  count = c.tag_of-tag.result.count

  -- all others are of its batch
  abbrev Others : Image → Type 0
  Others now = (i : ℕ) → 0 < i → i < count
      → IsTagged c.tag_of-tag.result.epoch c.tag_of-tag.result.number i count (sector_at now (at + i))

  module _ (bytes : IsHonest (g.D.SectorDisk.medium c.args.disk.now) → slice_get image at ≡ Some c.read.new.into) where
    mid : IsHonest (g.D.SectorDisk.medium c.read.new.self)
    mid = c.read.ensures.medium.time.honest.0 honest

    same : (g.D.SectorDisk.medium c.read.new.self).contents ≡ image
    same = c.read.ensures.medium.contents honest

    there : slice_get (g.D.SectorDisk.medium c.read.new.self).contents at ≡ Some c.read.new.into
    there = ap (λ (now : Image). slice_get now at) same ∙ bytes honest

    sector : sector_at image at ≡ c.read.new.into
    sector = get_or_from_slice_get image at c.read.new.into [] (bytes honest)

    said : length_in (drop 16 (sector_at image at)) ≡ c.read_u32.result
    said = ap (λ (s : List ℕ). length_in (drop 16 s)) sector ∙ read-length c.read.new.into c.read_u32.result c.read_u32.ensures

    -- it is the first of its batch
    first : IsTagged c.args.epoch (c.args.before + 1) 0 count (sector_at image at)
    first =
        let tag = (c.is_first.ensures.0 c.if-not-is_first.false).0 in
        subst (IsTagged c.args.epoch (c.args.before + 1) 0 count) (sym sector) (record {
          epoch_is = sym c.tag_of-tag.ensures.epoch ∙ ap (λ (t : Tag). t.epoch) tag;
          number_is = sym c.tag_of-tag.ensures.number ∙ ap (λ (t : Tag). t.number) tag;
          index_is = sym c.tag_of-tag.ensures.index ∙ ap (λ (t : Tag). t.index) tag;
          count_is = sym c.tag_of-tag.ensures.count;
        })

    few : (0 < count) × (c.args.used + count ≤ c.args.range.count)
    few =
        let is = c.is_first.ensures.0 c.if-not-is_first.false in
        (is.1, omega (arith, is.2))

    -- the tags of the others name the same batch
    others : (i : ℕ) (s : List ℕ) → IsTagged c.tag_of-tag.result.epoch c.tag_of-tag.result.number i count s
        ↔ IsTagged c.args.epoch (c.args.before + 1) i count s
    others i s =
        let tag = (c.is_first.ensures.0 c.if-not-is_first.false).0 in
        let epoch : c.tag_of-tag.result.epoch ≡ c.args.epoch = ap (λ (t : Tag). t.epoch) tag in
        let number : c.tag_of-tag.result.number ≡ c.args.before + 1 = ap (λ (t : Tag). t.number) tag in (
          λ t. record { epoch_is = t.epoch_is ∙ epoch; number_is = t.number_is ∙ number; index_is = t.index_is; count_is = t.count_is },
          λ t. record { epoch_is = t.epoch_is ∙ sym epoch; number_is = t.number_is ∙ sym number; index_is = t.index_is; count_is = t.count_is },
        )

    -- if all of them are, the batch is there, and only then
    whole : Others image → IsWhole c.args.range c.args.epoch c.args.used c.args.before count image
    whole each = whole-from c.args.range c.args.epoch c.args.used c.args.before count image few.0 few.1 first
        (λ i low high. (others i (sector_at image (at + i))).0 (each i low high))

    only : (n : ℕ) → IsWhole c.args.range c.args.epoch c.args.used c.args.before n image → (n ≡ count) × Others image
    only n is =
        let begin : at + 0 ≡ at = omega arith in
        let same_count : n ≡ count = sym (is.each 0 is.some).count_is ∙ ap (λ (k : ℕ). count_in (sector_at image k)) begin ∙ first.count_is in (
          same_count,
          λ i low high. (others i (sector_at image (at + i))).1
              (subst (λ (k : ℕ). IsTagged c.args.epoch (c.args.before + 1) i k (sector_at image (at + i))) same_count
              (is.each i (omega (arith, high, same_count)))),
        )

pub returns-then-not-branch-clause-ended : goal.returns-then-not-branch-clause-ended
returns-then-not-branch-clause-ended g c = λ none honest.
    let m = (goal.at.returns-then-not-branch-clause-ended g c).After-read_whole in
    let bytes = c.in_ok-read.ensures.bytes in
    record {
      within = c.requires.room;
      none = λ n is.
          let yes = (c.in_ok-read_whole.ensures.whole (mid g m honest bytes) (there g m honest bytes)).1
          (subst (Others g m honest) (sym (same g m honest bytes)) (only g m honest bytes n is).1) in
          absurd (cc);
      not_later = λ lt. omega (arith, (first g m honest bytes).epoch_is);
    }

pub returns-then-room-len-clause-damaged : goal.returns-then-room-len-clause-damaged
returns-then-room-len-clause-damaged g c = λ sector is honest.
    let m = (goal.at.returns-then-room-len-clause-damaged g c).After-read_whole in
    let bytes = c.in_ok-read.ensures.bytes in
    inr (
      (
        count g m honest,
        whole g m honest bytes (subst (Others g m honest) (same g m honest bytes)
            ((c.in_ok-read_whole.ensures.whole (mid g m honest bytes) (there g m honest bytes)).0 c.if-not-branch.false)),
      ),
      λ batch short next.
          let first_at : c.args.range.first + 0 + c.args.used ≡ at g m honest = omega arith in
          let stands = subst (λ (n : ℕ). StandsTagged n batch (image g m honest)) first_at next.1.1 in
          let size = length-tagged (at g m honest) batch (image g m honest) next.0 stands in
          let pieces = (only g m honest bytes _ next.1.0).0 in
          let fits = c.bytes_to_read-room.ensures.all.1
          (omega (arith, size, said g m honest bytes, pieces), omega (arith, size, said g m honest bytes, short)) in
          omega (arith, fits, c.if-room-len.true),
    )

pub returns-clause-is : goal.returns-clause-is
returns-clause-is g c = λ len is honest.
    let m = (goal.at.returns-clause-is g c).After-read_whole in
    let bytes = c.in_ok-read.ensures.bytes in
    let yes = c.if-not-branch.false in
    let read = c.read_whole.new.into in
    let from = at g m honest in
    let now = image g m honest in
    let room : c.bytes_to_read-room.result ≡ c.read_u32.result + 4 =
    ⊎_elim (λ all. all) (λ none. absurd (omega (arith, none, c.if-room-len.false))) c.bytes_to_read-room.ensures.none in
    let fits = c.bytes_to_read-room.ensures.all.0 room in
    let long : length read ≡ c.read_u32.result + 4 = omega
    (arith, c.read_whole.auto.into, length-take-le c.bytes_to_read-room.result c.args.into.now (omega (arith, room, fits.1)), room) in
    let front : take len (read ++ drop c.bytes_to_read-room.result c.args.into.now) ≡ read =
    take_at read (drop c.bytes_to_read-room.result c.args.into.now) len (long ∙ same_Some _ _ is) in
    let stands = subst (StandsTagged from read) (same g m honest bytes)
    (c.in_ok-read_whole.ensures.stands (mid g m honest bytes) yes (there g m honest bytes)) in
    let all = whole g m honest bytes (subst (Others g m honest) (same g m honest bytes)
    ((c.in_ok-read_whole.ensures.whole (mid g m honest bytes) (there g m honest bytes)).0 yes)) in
    let pieces : count g m honest ≡ pieces_for (length read) = omega (arith, fits.0, ap pieces_for long) in
    let first_at : from ≡ c.args.range.first + 0 + c.args.used = omega arith in
    subst (λ (l : List ℕ). IsBatch l × IsAt Tagged c.args.range c.args.epoch c.args.used c.args.before l now) (sym front) (
      IsBatch-tagged from read now (omega (arith, long)) stands (omega (arith, long, said g m honest bytes)),
      (
        subst (λ (n : ℕ). IsWhole c.args.range c.args.epoch c.args.used c.args.before n now) pieces all,
        subst (λ (n : ℕ). StandsTagged n read now) first_at stands,
      ),
    )
