-- A batch more, and its sectors.
use Rattle.std.proofs.Common.{◌∷◌, [], arith}
use Rattle.std.proofs.lemmas.List.{length-append}
use Rattle.ipc_journal.proofs.CallerLemmas.{sectors_of-push}
use Rattle.ipc_journal.proofs.journal.Journal.append.Goals as goal

pub returns-clause-acknowledged : goal.returns-clause-acknowledged
returns-clause-acknowledged g c = λ batches at. record {
  used = omega (arith, at.used, c.sectors_in.ensures, sectors_of-push c.args.self.now.form batches c.args.batch.now);
  count = omega (arith, at.count, length-append batches (c.args.batch.now ∷ []));
  kept = c.in_ok-put.ensures.acknowledged batches at;
}
