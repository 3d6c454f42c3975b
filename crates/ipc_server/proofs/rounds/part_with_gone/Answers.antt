use Rattle.std.proofs.Common.{◌≡◌, None, false, refl, sym, ap, ◌∙◌, arith}
use Rattle.std.proofs.lemmas.Result.{err_from_is_err_and}
use Rattle.std.specs.Option.{option_copied}
use Rattle.slab.specs.Slab.{get}
use Rattle.ipc_server.specs.Rows.{clients_of}
use Rattle.ipc_server.specs.View.{ClientView}
use Rattle.ipc_server.proofs.Going.{breaks-later}
use Rattle.ipc_server.proofs.Parting.{hangs-goes}
use Rattle.ipc_server.proofs.Standing.{below-left, below-same, keeps-none, serving-gone, serving-kept, stands-both, stands-left, stands-none}
use Rattle.ipc_server.proofs.Streaming.{parts-more, parts-none, unsent-left, unsent-none}
use Rattle.ipc_server.proofs.rounds.part_with_gone.Goals.{then-is_over+in_ok-hang_up+in-Some-1, then-is_over+in_ok-hang_up+in-None-1, else-is_over}
use Rattle.ipc_server.proofs.rounds.part_with_gone.Goals as goal

pub loop-key-init : goal.loop-key-init
loop-key-init g c = record {
  hangs_up = parts-none g.D.SectorDisk.medium c.args.moment.0 c.args.hub.now c.args.clients.now;
  sockets = λ contents. unsent-none contents c.args.clients.now;
  serving = λ is. is;
  capacity = refl;
  stands = stands-none (clients_of c.args.clients.now);
  left = λ number client below is. absurd (omega arith);
}

pub returns-in_err-hang_up-clause-breaks : goal.returns-in_err-hang_up-clause-breaks
returns-in_err-hang_up-clause-breaks g c =
    let q = err_from_is_err_and c.from_residual.result c.from_residual.ensures.1 in
    let med = g.D.SectorDisk.medium in
    rw (q.1, q.2) (breaks-later med g.D.SectorDisk.counts c.args.moment.0 c.args.hub.now c.loop-key.hub c.hang_up.new.hub _
    (hangs-goes med c.args.moment.0 g.met.D.SectorDisk.only_now c.args.hub.now c.loop-key.hub c.loop-key.invariant.hangs_up.acts
    c.loop-key.invariant.hangs_up.hangs_up)
    c.in_err-hang_up.ensures.breaks)

pub returns-in_err-hang_up-clause-serving : goal.returns-in_err-hang_up-clause-serving
returns-in_err-hang_up-clause-serving g c is =
    serving-kept c.loop-key.hub.hub c.hang_up.new.hub.hub c.loop-key.clients c.loop-key.clients c.in_err-hang_up.ensures.stays
    (keeps-none c.loop-key.clients) (c.loop-key.invariant.serving is)

-- no client has the key
pub loop-key-preserved-in_default : goal.loop-key-preserved-in_default
loop-key-preserved-in_default g c =
    let none : get c.loop-key.clients c.loop-key.key ≡ None = sym c.get.ensures ∙ ap option_copied c.in_default.is in
    record {
      hangs_up = c.loop-key.invariant.hangs_up;
      sockets = c.loop-key.invariant.sockets;
      serving = c.loop-key.invariant.serving;
      capacity = c.loop-key.invariant.capacity;
      stands = c.loop-key.invariant.stands;
      left = below-same (λ (v : ClientView). v.over ≡ false) c.loop-key.clients c.loop-key.key (λ client is. cc) c.loop-key.invariant.left;
    }

pub loop-key-preserved : goal.loop-key-preserved
loop-key-preserved g c = elim c.if-is_over.branch [
  | then-is_over+in_ok-hang_up+in-Some-1 w ↦
      let old = c.loop-key.clients in
      let new = w.try_remove.new.self in
      let med = g.D.SectorDisk.medium in
      rw (w.hub-is, w.clients-is) (record {
        hangs_up = parts-more med c.args.moment.0 c.args.hub.now c.loop-key.hub w.hang_up.new.hub c.args.clients.now old new c.loop-key.key
            c.in-Some.client.now (sym c.in-Some.ensures) c.loop-key.invariant.serving w.try_remove.ensures.updates
            (rw w.conn.ensures at w.in_ok-hang_up.ensures.hangs_up) c.loop-key.invariant.hangs_up;
        sockets = λ contents. unsent-left contents c.args.clients.now old new c.loop-key.key w.try_remove.ensures.updates
            (c.loop-key.invariant.sockets contents);
        serving = λ is. serving-gone c.loop-key.hub.hub w.hang_up.new.hub.hub old new c.loop-key.key c.in-Some.client.now (sym c.in-Some.ensures)
            (c.loop-key.invariant.serving is) w.try_remove.ensures.updates w.try_remove.ensures.capacity (rw w.conn.ensures at w.in_ok-hang_up.ensures.leaves);
        capacity = w.try_remove.ensures.capacity ∙ c.loop-key.invariant.capacity;
        stands = stands-both (clients_of c.args.clients.now) (clients_of old) (clients_of new) c.loop-key.invariant.stands
            (stands-left old new c.loop-key.key w.try_remove.ensures.updates);
        left = below-left (λ (v : ClientView). v.over ≡ false) old new c.loop-key.key w.try_remove.ensures.updates c.loop-key.invariant.left;
      })
  | then-is_over+in_ok-hang_up+in-None-1 w ↦
      let old = c.loop-key.clients in
      let new = w.try_remove.new.self in
      let med = g.D.SectorDisk.medium in
      rw (w.hub-is, w.clients-is) (record {
        hangs_up = parts-more med c.args.moment.0 c.args.hub.now c.loop-key.hub w.hang_up.new.hub c.args.clients.now old new c.loop-key.key
            c.in-Some.client.now (sym c.in-Some.ensures) c.loop-key.invariant.serving w.try_remove.ensures.updates
            (rw w.conn.ensures at w.in_ok-hang_up.ensures.hangs_up) c.loop-key.invariant.hangs_up;
        sockets = λ contents. unsent-left contents c.args.clients.now old new c.loop-key.key w.try_remove.ensures.updates
            (c.loop-key.invariant.sockets contents);
        serving = λ is. serving-gone c.loop-key.hub.hub w.hang_up.new.hub.hub old new c.loop-key.key c.in-Some.client.now (sym c.in-Some.ensures)
            (c.loop-key.invariant.serving is) w.try_remove.ensures.updates w.try_remove.ensures.capacity (rw w.conn.ensures at w.in_ok-hang_up.ensures.leaves);
        capacity = w.try_remove.ensures.capacity ∙ c.loop-key.invariant.capacity;
        stands = stands-both (clients_of c.args.clients.now) (clients_of old) (clients_of new) c.loop-key.invariant.stands
            (stands-left old new c.loop-key.key w.try_remove.ensures.updates);
        left = below-left (λ (v : ClientView). v.over ≡ false) old new c.loop-key.key w.try_remove.ensures.updates c.loop-key.invariant.left;
      })
  | else-is_over w ↦
      let live : c.in-Some.client.now.over ≡ false = sym w.if-is_over.ensures in
      rw (w.hub-is, w.clients-is) (record {
        hangs_up = c.loop-key.invariant.hangs_up;
        sockets = c.loop-key.invariant.sockets;
        serving = c.loop-key.invariant.serving;
        capacity = c.loop-key.invariant.capacity;
        stands = c.loop-key.invariant.stands;
        left = below-same (λ (v : ClientView). v.over ≡ false) c.loop-key.clients c.loop-key.key (λ client is. cc (c.in-Some.ensures, is, live))
            c.loop-key.invariant.left;
      })
]

pub returns-clause-left : goal.returns-clause-left
returns-clause-left g c number client below is = c.loop-key.invariant.left number client (omega (arith, c.capacity-key-end.ensures.value)) is
