-- A batch more was read.
use Rattle.std.proofs.Common.{◌≡◌, ◌∷◌, [], ◌+◌, ◌∙◌, Some, ℕ, List, take, length, ap, subst, arith}
use Rattle.std.proofs.lemmas.List.{length-append, length-take-le}
use Rattle.std.proofs.lemmas.Option.{same_Some}
use Rattle.ipc_journal.specs.Journal.{sectors_in, sectors_of, IsAt}
use Rattle.ipc_journal.proofs.CallerLemmas.{Fill-push, sectors_of-push}
use Rattle.ipc_journal.proofs.reader.Reader.next_batch.Goals as goal

pub returns-clause-more : goal.returns-clause-more
returns-clause-more g c = λ len is honest batches read.
    let r = c.args.self.now in
    let image = (g.D.SectorDisk.medium c.args.disk.now).contents in
    let bytes : List ℕ = take len c.read_next.new.into in
    let same : c.in-Some.len ≡ len = same_Some _ _ is in
    let found : c.in_ok-len.field-0 ≡ Some len = c.in-Some.is ∙ is in
    let here = c.in_ok-len.ensures.is len found honest in
    let size : length bytes ≡ len = length-take-le len c.read_next.new.into (omega (arith, c.in_ok-len.ensures.fits len found, c.read_next.auto.into)) in
    let place : IsAt r.form r.range r.epoch (0 + sectors_of r.form batches) (0 + length batches) bytes image =
    subst (λ (n : ℕ). IsAt r.form r.range r.epoch n (0 + length batches) bytes image) (omega (arith, read.used))
    (subst (λ (n : ℕ). IsAt r.form r.range r.epoch r.used n bytes image) (omega (arith, read.count)) here.1) in
    record {
      stand = Fill-push r.form r.range r.epoch 0 0 batches bytes image read.stand here.0 place;
      used = omega (
        arith,
        read.used,
        c.sectors_in.ensures,
        sectors_of-push r.form batches bytes,
        ap (sectors_in r.form) same,
        ap (sectors_in r.form) size,
      );
      count = omega (arith, read.count, length-append batches (bytes ∷ []));
      end = read.end;
    }
