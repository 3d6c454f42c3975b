-- It is of an earlier epoch, as it was read, or zeros.
use Rattle.std.proofs.Common.{◌≡◌, ⊎_elim, inl, inr, ℕ, List, [], sym, ◌∙◌, ap, arith}
use Rattle.std.specs.Prelude.{Some, slice_get, slice_set, replicate}
use Rattle.std.proofs.lemmas.Option.{get_or_from_slice_get}
use Rattle.byteorder.specs.Endian.{big_number}
use Rattle.ipc_disk.specs.Medium.{Image, Medium, IsHonest, Stays, Writes}
use Rattle.ipc_disk.specs.Standing.{sector_at}
use Rattle.ipc_disk.proofs.CallerLemmas.{honest-join, sector_at-set_same}
use Rattle.ipc_journal.specs.Batch.{epoch_in}
use Rattle.ipc_journal.proofs.Cleared.{epoch_in-zeros}
use Rattle.ipc_journal.proofs.tagged.clear_sector.Goals as goal

-- a read, and then a write
writes-then : (at : ℕ) (bytes : List ℕ) (old mid new : Medium) → IsHonest old → Stays old mid → Writes at bytes mid new → Writes at bytes old new
writes-then at bytes old mid new honest read write =
    let same = read.contents honest in
    let then = read.time.honest.0 honest in
    record {
      contents = λ h. ⊎_elim (λ kept. inl (kept ∙ same)) (λ set. inr (set ∙ ap (λ (image : Image). slice_set image at bytes) same)) (write.contents then);
      images = λ image now. let from = write.images image now in (from.0, read.images from.0 from.1, from.2);
      time = record {
        later = omega (arith, read.time.later, write.time.later);
        nothing_else = λ t image le left. ⊎_elim
            (λ since. ⊎_elim inl (λ here. inl (honest.since t image le (read.images image here))) (read.time.nothing_else t image le since))
            inr
            (write.time.nothing_else t image (omega (arith, le, read.time.later)) left);
        honest = honest-join old mid new read.time.honest write.time.honest;
      };
    }

-- what is read of an epoch
read-epoch : (image : Image) (at : ℕ) (sector : List ℕ) (found : ℕ) → slice_get image at ≡ Some sector → found ≡ big_number 8 sector
    → epoch_in (sector_at image at) ≡ found
unfolding epoch_in
read-epoch image at sector found read is = ap (λ (s : List ℕ). big_number 8 s) (get_or_from_slice_get image at sector [] read) ∙ sym is

pub returns-then-read_u64-epoch-clause-older : goal.returns-then-read_u64-epoch-clause-older
returns-then-read_u64-epoch-clause-older g c = λ later honest.
    let is = read-epoch _ c.args.at _ _ (c.in_ok-read.ensures.bytes honest) c.read_u64.ensures in
    omega (arith, is, ap (λ (image : Image). epoch_in (sector_at image c.args.at)) (c.read.ensures.medium.contents honest), c.if-read_u64-epoch.true)

pub returns-in_err-write-clause-medium : goal.returns-in_err-write-clause-medium
returns-in_err-write-clause-medium g c = λ honest.
    writes-then c.args.at (replicate 512 0) _ _ _ honest c.read.ensures.medium c.write.ensures.medium

pub returns-clause-older : goal.returns-clause-older
returns-clause-older g c = λ later honest.
    let mid = g.D.SectorDisk.medium c.read.new.self in
    let then = c.read.ensures.medium.time.honest.0 honest in
    let long = (g.met.D.SectorDisk.shaped c.read.new.self mid.contents then.reads).count in
    let set = c.in_ok-write.ensures.written then in
    let zeros = ap (λ (image : Image). sector_at image c.args.at) set
    ∙ sector_at-set_same mid.contents c.args.at (replicate 512 0) (omega (arith, long, c.read.ensures.call.sectors, c.requires.within)) in
    omega (arith, ap epoch_in zeros, epoch_in-zeros, later)

pub returns-clause-medium : goal.returns-clause-medium
returns-clause-medium g c = λ honest.
    writes-then c.args.at (replicate 512 0) _ _ _ honest c.read.ensures.medium c.write.ensures.medium

pub returns-clause-exact : goal.returns-clause-exact
returns-clause-exact g c = λ honest older.
    absurd (omega (arith, read-epoch _ c.args.at _ _ (c.in_ok-read.ensures.bytes honest) c.read_u64.ensures, older, c.if-read_u64-epoch.false))
