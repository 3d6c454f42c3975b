use Rattle.std.proofs.Common.{◌≡◌, ◌∙◌, None, refl, sym, ap, arith}
use Rattle.std.specs.Option.{option_copied_mut}
use Rattle.slab.specs.Slab.{get, with_value}
use Rattle.ipc_server.specs.Rows.{clients_of}
use Rattle.ipc_server.specs.View.{ClientView, WasWritten}
use Rattle.ipc_server.proofs.Standing.{below-same, keeps-both, keeps-none, keeps-value, own-kept, stays-both, stays-none, stays-value, written-more}
use Rattle.ipc_server.proofs.Streaming.{sends-each-more, sends-each-none}
use Rattle.ipc_server.proofs.rounds.put_out_all.Goals.{in-Some, in_default}
use Rattle.ipc_server.proofs.rounds.put_out_all.Goals as goal

pub loop-key-init : goal.loop-key-init
loop-key-init g c = record {
  sends = sends-each-none g.S.Write.contents c.args.hub.now c.args.clients.now;
  numbers = refl;
  keeps = keeps-none c.args.clients.now;
  stays = stays-none (clients_of c.args.clients.now);
  written = λ own number client below is. absurd (omega arith);
}

pub loop-key-preserved : goal.loop-key-preserved
loop-key-preserved g c = elim c.match-get_mut.branch [
  | in-Some w ↦
      let slab = c.loop-key.clients in
      let key = c.loop-key.key in
      let was = w.in-Some.client.now in
      let now = w.put_out.new.self in
      let found = sym w.in-Some.ensures.value in
      rw (w.hub-is, w.clients-is) (record {
        sends = sends-each-more g.S.Write.contents c.args.hub.now c.loop-key.hub w.put_out.new.hub c.args.clients.now slab key was now found
            c.loop-key.invariant.keeps w.put_out.ensures.tells c.loop-key.invariant.sends;
        numbers = w.put_out.ensures.numbers ∙ c.loop-key.invariant.numbers;
        keeps = keeps-both c.args.clients.now slab (with_value slab key now) c.loop-key.invariant.keeps
            (keeps-value slab key was now found (ap (λ (v : ClientView). v.conn) w.put_out.ensures.same) w.put_out.ensures.failed);
        stays = stays-both (clients_of c.args.clients.now) (clients_of slab) (clients_of (with_value slab key now)) c.loop-key.invariant.stays
            (stays-value slab key was now found w.put_out.ensures.same);
        written = λ own. written-more c.loop-key.hub.hub w.put_out.new.hub.hub slab key was now found
            (own-kept c.args.clients.now slab c.loop-key.invariant.keeps own) w.put_out.ensures.others w.put_out.ensures.written
            (c.loop-key.invariant.written own);
      })
  | in_default w ↦
      let none : get c.loop-key.clients c.loop-key.key ≡ None = sym c.get_mut.ensures.value ∙ ap option_copied_mut w.in_default.is in
      rw (w.hub-is, w.clients-is) (record {
        sends = c.loop-key.invariant.sends;
        numbers = c.loop-key.invariant.numbers;
        keeps = c.loop-key.invariant.keeps;
        stays = c.loop-key.invariant.stays;
        written = λ own. below-same (WasWritten c.loop-key.hub.hub) c.loop-key.clients c.loop-key.key (λ client is. cc) (c.loop-key.invariant.written own);
      })
]
