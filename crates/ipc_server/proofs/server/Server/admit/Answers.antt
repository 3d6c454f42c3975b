use Rattle.std.proofs.Common.{ap}
use Rattle.ipc_server.specs.Streams.{OnlyJoins}
use Rattle.ipc_server.proofs.Going.{joins-none, such-both}
use Rattle.ipc_server.proofs.Streaming.{joins-both}
use Rattle.ipc_server.proofs.server.Server.admit.Goals as goal

pub returns-then-not-self-clause-goes : goal.returns-then-not-self-clause-goes
returns-then-not-self-clause-goes g c = λ moment. joins-none g.D.SectorDisk.medium g.met.D.SectorDisk.only_now moment c.args.self.now.hub

pub returns-then-not-self-clause-failed : goal.returns-then-not-self-clause-failed
returns-then-not-self-clause-failed g c number bad = bad

pub loop-init : goal.loop-init
loop-init g c = record {
  goes = λ moment. joins-none g.D.SectorDisk.medium g.met.D.SectorDisk.only_now moment c.args.self.now.hub;
  failed = λ number bad. bad;
}

pub returns-in-Err-clause-goes : goal.returns-in-Err-clause-goes
returns-in-Err-clause-goes g c = λ moment. rw (ap (λ v. v.hub) c.self-in-loop.view_is) (c.loop.invariant.goes moment)

pub returns-in-Err-clause-failed : goal.returns-in-Err-clause-failed
returns-in-Err-clause-failed g c = rw (ap (λ v. v.clients) c.self-in-loop.view_is) c.loop.invariant.failed

pub loop-preserved : goal.loop-preserved
loop-preserved g c = record {
  goes = λ moment.
      let first = c.args.self.now.hub in
      let last = c.loop.self.hub in
      let next = c.take_client.new.self.hub in
      such-both g.D.SectorDisk.medium moment first last next (OnlyJoins first.hub last.hub) (OnlyJoins last.hub next.hub) (OnlyJoins first.hub next.hub)
      (c.loop.invariant.goes moment) (c.take_client.ensures.goes moment) (joins-both first.hub last.hub next.hub);
  failed = λ number bad. c.take_client.ensures.failed number (c.loop.invariant.failed number bad);
}

pub returns-clause-goes : goal.returns-clause-goes
returns-clause-goes g c = c.loop.invariant.goes

pub returns-clause-failed : goal.returns-clause-failed
returns-clause-failed g c = c.loop.invariant.failed
