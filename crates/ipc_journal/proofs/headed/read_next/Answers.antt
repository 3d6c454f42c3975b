-- The batch that stands there is the one that is read; else its length does not fit.
use Rattle.std.proofs.Common.{◌≡◌, ◌+◌, ◌++◌, [], ℕ, List, length, take, drop, ap, sym, ◌∙◌, subst, arith}
use Rattle.std.specs.Prelude.{Some, slice_get}
use Rattle.std.proofs.lemmas.List.{take_at, length-take-le}
use Rattle.std.proofs.lemmas.Option.{get_or_from_slice_get, same_Some}
use Rattle.byteorder.specs.Endian.{big_number}
use Rattle.ipc_disk.specs.Medium.{Image}
use Rattle.ipc_disk.specs.Standing.{sector_at, StandsAt}
use Rattle.ipc_journal.specs.Batch.{length_in}
use Rattle.ipc_journal.proofs.CallerLemmas.{IsBatch-there, length-there}
use Rattle.ipc_journal.proofs.headed.read_next.Goals as goal
use Rattle.ipc_journal.proofs.headed.read_next.Goals.{then-sectors_for_len-end-via-then-sectors_for_len-end}
use Rattle.ipc_journal.proofs.headed.read_next.Goals.{then-sectors_for_len-end-via-else-sectors_for_len-end+then-len-into}

-- what is read of a length field
read-length : (image : Image) (at : ℕ) (sector : List ℕ) (found : ℕ) → slice_get image at ≡ Some sector → found ≡ big_number 4 sector
    → length_in (sector_at image at) ≡ found
unfolding length_in
read-length image at sector found read is =
    ap (λ (l : List ℕ). big_number 4 l) (get_or_from_slice_get image at sector [] read) ∙ sym is

pub returns-then-sectors_for_len-end-clause-damaged : goal.returns-then-sectors_for_len-end-clause-damaged
returns-then-sectors_for_len-end-clause-damaged g c = λ sector is honest batch right short stands inside.
    let old = g.D.SectorDisk.medium c.args.disk.now in
    let at = c.args.range.first + 1 + c.args.used in
    let said = read-length old.contents at _ _ (c.in_ok-read.ensures.bytes honest) c.read_u32.ensures in
    let size : c.read_u32.result + 4 ≡ length batch = omega (arith, said, length-there at batch old.contents right stands) in
    elim c.then-sectors_for_len-end.branch [
      | then-sectors_for_len-end-via-then-sectors_for_len-end w ↦ omega (arith, size, inside, c.sectors_for_len.ensures, w.if-sectors_for_len-end.true)
      | then-sectors_for_len-end-via-else-sectors_for_len-end+then-len-into w ↦ omega (arith, size, short, w.if-len-into.true)
    ]

pub returns-clause-is : goal.returns-clause-is
returns-clause-is g c = λ len is honest.
    let old = g.D.SectorDisk.medium c.args.disk.now in
    let from = c.args.range.first + 1 + c.args.used in
    let said = read-length old.contents from _ _ (c.in_ok-read.ensures.bytes honest) c.read_u32.ensures in
    let same = c.read.ensures.medium.contents honest in
    let stands = subst (StandsAt from c.read_bytes.new.into) same
    (c.in_ok-read_bytes.ensures.stands (c.read.ensures.medium.time.honest.0 honest)
    (ap (λ (image : Image). slice_get image from) same ∙ c.in_ok-read.ensures.bytes honest)) in
    let kept : length c.read_bytes.new.into ≡ c.read_u32.result + 4 = omega
    (arith, c.read_bytes.auto.into, length-take-le (c.read_u32.result + 4) c.args.into.now (omega arith)) in
    let front : take len (c.read_bytes.new.into ++ drop (c.read_u32.result + 4) c.args.into.now) ≡ c.read_bytes.new.into =
    take_at c.read_bytes.new.into (drop (c.read_u32.result + 4) c.args.into.now) len (kept ∙ same_Some _ _ is) in
    let there = subst (λ (l : List ℕ). StandsAt from l old.contents) (sym front) stands in
    let long : length (take len (c.read_bytes.new.into ++ drop (c.read_u32.result + 4) c.args.into.now)) ≡ c.read_u32.result + 4 =
    ap length front ∙ kept in
    (IsBatch-there from _ old.contents (omega (arith, long)) there (omega (arith, long, said)), there)
