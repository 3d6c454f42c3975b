use Rattle.std.proofs.Common.{◌≡◌, ◌∙◌, length, arith}
use Rattle.std.proofs.lemmas.Bool.Decides.{nat_tests}
use Rattle.std.proofs.lemmas.Result.{err_from_is_err_and}
use Rattle.ipc_server.proofs.Going.{breaks-later}
use Rattle.ipc_server.proofs.Talking.{empty-kept, hears-both, hears-goes, hears-kept}
use Rattle.ipc_server.proofs.client.Client.take_in.Goals as goal

pub returns-in_err-feed-2-clause-breaks : goal.returns-in_err-feed-2-clause-breaks
returns-in_err-feed-2-clause-breaks g c =
    let q = err_from_is_err_and c.from_residual-in_err-feed-2.result c.from_residual-in_err-feed-2.ensures.1 in
    let med = g.D.SectorDisk.medium in
    rw (q.1, q.2) (breaks-later med g.D.SectorDisk.counts c.args.moment.0 c.args.hub.now c.loop-self.hub c.feed-in-loop-self.new.hub _
    (hears-goes med c.args.self.now.conn c.args.moment.0 _ _ _ _ c.loop-self.invariant.hears) c.in_err-feed-2.ensures.breaks)

pub loop-self-preserved : goal.loop-self-preserved
loop-self-preserved g c =
    let empty : length c.loop-self.self.piece.items ≡ 0 = grind (arith, nat_tests, c.if-not-is_empty.ensures) in
    let same = c.read.ensures.conn ∙ c.loop-self.invariant.conn in
    record {
      conn = c.feed-in-loop-self.ensures.conn ∙ same;
      failed = c.feed-in-loop-self.ensures.failed ∙ c.read.ensures.failed ∙ c.loop-self.invariant.failed;
      reads = omega arith;
      tried = λ could cannot. omega (arith, c.feed-in-loop-self.ensures.reads, c.read.ensures.reads);
      numbers = c.feed-in-loop-self.ensures.numbers ∙ c.loop-self.invariant.numbers;
      hears = hears-both g.D.SectorDisk.medium c.args.self.now.conn c.args.moment.0 c.args.hub.now c.loop-self.hub c.feed-in-loop-self.new.hub _ _ _
          c.loop-self.invariant.hears (hears-kept g.D.SectorDisk.medium c.args.self.now.conn c.args.moment.0 c.loop-self.hub c.feed-in-loop-self.new.hub _ _ _
          (empty-kept c.loop-self.self.piece.items (g.S.Read.remaining c.loop-self.self.socket) _ empty c.read.ensures.same)
          (rw same at c.in_ok-feed-2.ensures.hears));
    }
