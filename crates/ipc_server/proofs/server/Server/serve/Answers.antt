use Rattle.std.proofs.Common.{◌≡◌, ◌≤◌, sym, arith}
use Rattle.std.proofs.lemmas.Result.{err_from_is_err_and}
use Rattle.ipc_server.specs.Served.Served.{None, More}
use Rattle.ipc_server.proofs.server.Server.serve.Goals as goal

pub loop-count-init : goal.loop-count-init
loop-count-init g c = None

pub loop-count-preserved : goal.loop-count-preserved
loop-count-preserved g c =
    More c.loop-count.count c.loop-count.moment.0 c.later-moment.result.0 c.loop-count.self.hub c.turn.new.self.hub c.loop-count.invariant (omega arith)
    c.in_ok-turn.ensures.ok c.in_ok-turn.ensures.committed

pub returns-in_err-turn-clause-err : goal.returns-in_err-turn-clause-err
returns-in_err-turn-clause-err g c =
    let later : c.loop-count.moment.0 ≤ c.later-moment.result.0 = omega arith in
    let q = err_from_is_err_and c.from_residual.result c.from_residual.ensures.1 in
    rw (q.1, q.2) (record {
      count = c.loop-count.count;
      fewer = c.loop-count-test.true;
      before = c.loop-count.moment.0;
      last = c.loop-count.self.hub;
      served = c.loop-count.invariant;
      moment = c.later-moment.result.0;
      later = later;
      breaks = c.in_err-turn.ensures.err;
    })

pub returns-clause-ok : goal.returns-clause-ok
returns-clause-ok g c =
    let all : c.loop-count.count ≡ c.args.turns = omega arith in
    (c.loop-count.moment.0, rw (sym all) c.loop-count.invariant)
