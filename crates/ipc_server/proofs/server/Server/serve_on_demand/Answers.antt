use Rattle.std.proofs.Common.{◌≡◌, sym, arith}
use Rattle.std.proofs.lemmas.Result.{err_from_is_err_and}
use Rattle.ipc_server.specs.Served.Served.{None, More}
use Rattle.ipc_server.proofs.server.Server.serve_on_demand.Goals as goal

pub loop-round-init : goal.loop-round-init
loop-round-init g c = None

pub loop-round-preserved : goal.loop-round-preserved
loop-round-preserved g c =
    More c.loop-round.round c.loop-round.moment.0 c.in_ok-moment.moment.0 c.loop-round.self.hub c.turn.new.self.hub c.loop-round.invariant
    c.in_ok-moment.ensures.later (rw c.rest.ensures.same at c.in_ok-turn.ensures.ok) c.in_ok-turn.ensures.committed

-- the sockets cannot be waited for
pub returns-in_err-moment-clause-err : goal.returns-in_err-moment-clause-err
returns-in_err-moment-clause-err g c =
    let q = err_from_is_err_and c.from_residual.result c.from_residual.ensures.1 in
    rw (q.1, q.2) (record {
      count = c.loop-round.round;
      fewer = c.loop-round-test.true;
      before = c.loop-round.moment.0;
      last = c.loop-round.self.hub;
      served = c.loop-round.invariant;
      moment = c.loop-round.moment.0;
      later = omega arith;
      breaks = rw c.in_err-moment.ensures.err c.rest.ensures.same;
    })

pub returns-in_err-turn-clause-err : goal.returns-in_err-turn-clause-err
returns-in_err-turn-clause-err g c =
    let q = err_from_is_err_and c.from_residual-in_err-turn.result c.from_residual-in_err-turn.ensures.1 in
    rw (q.1, q.2) (record {
      count = c.loop-round.round;
      fewer = c.loop-round-test.true;
      before = c.loop-round.moment.0;
      last = c.loop-round.self.hub;
      served = c.loop-round.invariant;
      moment = c.in_ok-moment.moment.0;
      later = c.in_ok-moment.ensures.later;
      breaks = rw c.rest.ensures.same at c.in_err-turn.ensures.err;
    })

pub returns-clause-ok : goal.returns-clause-ok
returns-clause-ok g c =
    let all : c.loop-round.round ≡ c.args.turns = omega arith in
    (c.loop-round.moment.0, rw (sym all) c.loop-round.invariant)
