use Rattle.std.proofs.Common.{◌≡◌, ◌∙◌, None, Some, true, false, sym, ap, arith}
use Rattle.std.specs.Option.{option_copied_mut}
use Rattle.slab.specs.Slab.{get, with_value}
use Rattle.ipc_server.specs.Rows.{clients_of}
use Rattle.ipc_server.specs.View.{ClientView, is_gone}
use Rattle.ipc_server.proofs.Standing.{below-more, below-same, ended-live, failed-over, keeps-both, keeps-none}
use Rattle.ipc_server.proofs.Standing.{keeps-value, stands-both, stands-none, stands-seen, updates-value}
use Rattle.ipc_server.proofs.Streaming.{unsent-kept, unsent-none}
use Rattle.ipc_server.proofs.rounds.note_ends.Goals.{in-Some, in_default}
use Rattle.ipc_server.proofs.rounds.note_ends.Goals as goal

pub loop-key-init : goal.loop-key-init
loop-key-init g c = record {
  keeps = keeps-none c.args.clients.now;
  sockets = λ contents. unsent-none contents c.args.clients.now;
  stands = stands-none (clients_of c.args.clients.now);
  gone = λ number client below is. absurd (omega arith);
  failed = λ number client below is. absurd (omega arith);
}

pub loop-key-preserved : goal.loop-key-preserved
loop-key-preserved g c = elim c.match-get_mut.branch [
  | in-Some w ↦
      let slab = c.loop-key.clients in
      let key = c.loop-key.key in
      let was = w.in-Some.client.now in
      let now = w.note_end.new.self in
      let found = sym w.in-Some.ensures.value in
      let live = ended-live c.args.hub.now.hub was now w.note_end.ensures in
      rw w.clients-is (record {
        keeps = keeps-both c.args.clients.now slab (with_value slab key now) c.loop-key.invariant.keeps
            (keeps-value slab key was now found (ap (λ v. v.conn) w.note_end.ensures) (λ bad. ap (λ v. v.failed) w.note_end.ensures ∙ bad));
        sockets = λ contents. unsent-kept contents c.args.clients.now slab key was now found (ap (λ v. v.socket) w.note_end.ensures)
            (c.loop-key.invariant.sockets contents);
        stands = stands-both (clients_of c.args.clients.now) (clients_of slab) (clients_of (with_value slab key now)) c.loop-key.invariant.stands
            (stands-seen slab key was now found (λ on. (live on).0));
        gone = below-more (λ (v : ClientView). v.over ≡ false → is_gone c.args.hub.now.hub v ≡ false) slab (with_value slab key now) key (Some now)
            (updates-value slab key was now found) (λ on. (live on).1) c.loop-key.invariant.gone;
        failed = below-more (λ (v : ClientView). v.writing.failed ≡ true → v.over ≡ true) slab (with_value slab key now) key (Some now)
            (updates-value slab key was now found) (failed-over c.args.hub.now.hub was now w.note_end.ensures) c.loop-key.invariant.failed;
      })
  | in_default w ↦
      let none : get c.loop-key.clients c.loop-key.key ≡ None =
      sym c.get_mut.ensures.value ∙ ap option_copied_mut w.in_default.is in
      rw w.clients-is (record {
        keeps = c.loop-key.invariant.keeps;
        sockets = c.loop-key.invariant.sockets;
        stands = c.loop-key.invariant.stands;
        gone = below-same (λ (v : ClientView). v.over ≡ false → is_gone c.args.hub.now.hub v ≡ false) c.loop-key.clients c.loop-key.key
            (λ client is. cc) c.loop-key.invariant.gone;
        failed = below-same (λ (v : ClientView). v.writing.failed ≡ true → v.over ≡ true) c.loop-key.clients c.loop-key.key
            (λ client is. cc) c.loop-key.invariant.failed;
      })
]
