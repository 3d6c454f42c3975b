use Rattle.std.proofs.Common.{◌∙◌}
use Rattle.std.proofs.lemmas.Result.{err_from_is_err_and}
use Rattle.ipc_server.proofs.Going.{sends-store}
use Rattle.ipc_server.proofs.Standing.{keeps-none, stays-none}
use Rattle.ipc_server.specs.Rows.{clients_of}
use Rattle.ipc_server.proofs.rounds.answer_all.Goals as goal

pub returns-in_err-release-clause-refused : goal.returns-in_err-release-clause-refused
returns-in_err-release-clause-refused g c =
    let q = err_from_is_err_and c.from_residual.result c.from_residual.ensures.1 in
    rw (q.1, q.2) c.in_err-release.ensures.refused

pub returns-in_err-release-clause-keeps : goal.returns-in_err-release-clause-keeps
returns-in_err-release-clause-keeps g c = keeps-none c.args.clients.now

pub returns-in_err-release-clause-stays : goal.returns-in_err-release-clause-stays
returns-in_err-release-clause-stays g c = stays-none (clients_of c.args.clients.now)

pub returns-clause-answers : goal.returns-clause-answers
returns-clause-answers g c = record {
  told = c.put_out_all.ensures.sends.told;
  answers = record {
    lasting = c.release.new.self;
    releases = record { same = c.in_ok-release.ensures.ok; takes = c.in_ok-release.ensures.takes };
    sends = c.put_out_all.ensures.sends.sends;
  };
  sent = c.put_out_all.ensures.sends.sent;
}

pub returns-clause-committed : goal.returns-clause-committed
returns-clause-committed g c =
    let sends = c.put_out_all.ensures.sends in
    rw (sends-store c.release.new.self c.put_out_all.new.hub sends.told sends.sends) c.in_ok-release.ensures.waiting

pub returns-clause-numbers : goal.returns-clause-numbers
returns-clause-numbers g c = c.put_out_all.ensures.numbers ∙ c.release.ensures.numbers
