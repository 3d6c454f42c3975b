use Rattle.std.proofs.Common.{◌≡◌, ◌≢◌, ◌≤◌, ◌-◌, ℕ, true, false}
use Rattle.ipc_hub.specs.View.{numbers_of, output_of}
use Rattle.ipc_server.specs.Runs.{WritesOutput}
use Rattle.ipc_server.specs.Rows.{view_of}
use Rattle.ipc_server.specs.View.{most_writes}
use Rattle.ipc_server.proofs.client.Client.put_out.Given as goal

abbrev pub invariant-loop-self : goal.invariant-loop-self
invariant-loop-self g l = record {
  same : view_of l.self ≡ record (view_of l.fn.self) { writing = (view_of l.self).writing };
  full : l.self.full ≡ false;
  failed : l.fn.self.failed ≡ true → l.self.failed ≡ true;
  writes : l.self.writes ≤ most_writes;
  numbers : numbers_of l.hub.hub ≡ numbers_of l.fn.hub.hub;
  others : (other : ℕ) → other ≢ l.fn.self.conn → output_of l.hub.hub other ≡ output_of l.fn.hub.hub other;
  tells : WritesOutput l.fn.self.conn l.fn.hub l.hub (g.S.Write.contents l.fn.self.socket) (g.S.Write.contents l.self.socket);
}

abbrev pub decreases-loop-self : goal.decreases-loop-self
decreases-loop-self g l = most_writes - l.self.writes
