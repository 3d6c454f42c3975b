use Rattle.std.proofs.Common.{◌≡◌, ◌<◌, ◌≤◌, ◌-◌, true, false}
use Rattle.std.specs.Io.KnownBytes.{prepend_known}
use Rattle.ipc_hub.specs.View.{numbers_of}
use Rattle.ipc_server.specs.Runs.{FeedsInput}
use Rattle.ipc_server.specs.View.{most_reads}
use Rattle.ipc_server.proofs.client.Client.take_in.Given as goal

abbrev pub invariant-loop-self : goal.invariant-loop-self
invariant-loop-self g l = record {
  conn : l.self.conn ≡ l.fn.self.conn;
  failed : l.self.failed ≡ l.fn.self.failed;
  reads : l.self.reads ≤ most_reads;
  tried : l.fn.self.readable ≡ true → l.self.readable ≡ false → 0 < l.self.reads;
  numbers : numbers_of l.hub.hub ≡ numbers_of l.fn.hub.hub;
  hears : FeedsInput g.D.SectorDisk.medium l.fn.self.conn l.fn.moment.0 l.fn.hub l.hub
      (prepend_known l.fn.self.piece.items (g.S.Read.remaining l.fn.self.socket))
      (prepend_known l.self.piece.items (g.S.Read.remaining l.self.socket));
}

abbrev pub decreases-loop-self : goal.decreases-loop-self
decreases-loop-self g l = most_reads - l.self.reads
