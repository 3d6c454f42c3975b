use Rattle.std.proofs.Common.{◌≡◌, ◌∙◌, [], None, Some, false, refl, sym, ap, arith}
use Rattle.std.proofs.lemmas.Result.{err_from_is_err_and}
use Rattle.std.specs.Option.{option_copied_mut}
use Rattle.slab.specs.Slab.{get, with_value}
use Rattle.ipc_server.specs.View.{ClientView, WasRead}
use Rattle.ipc_server.specs.Streams.{HearsEach}
use Rattle.ipc_server.proofs.Going.{breaks-later, made-none, made-such, such-goes}
use Rattle.ipc_server.proofs.Standing.{below-more, below-same, keeps-both, keeps-none, keeps-value, updates-value}
use Rattle.ipc_server.proofs.Streaming.{hears-more, hears-nothing}
use Rattle.ipc_server.proofs.rounds.take_in_all.Goals.{in-Some+in_ok-take_in, in_default}
use Rattle.ipc_server.proofs.rounds.take_in_all.Goals as goal

pub loop-key-init : goal.loop-key-init
loop-key-init g c = record {
  hears = made-such g.D.SectorDisk.medium c.args.moment.0 c.args.hub.now c.args.hub.now []
      (HearsEach g.S.Read.remaining c.args.clients.now c.args.clients.now)
      (made-none g.D.SectorDisk.medium g.met.D.SectorDisk.only_now c.args.moment.0 c.args.hub.now)
      (λ own. hears-nothing g.S.Read.remaining c.args.clients.now);
  numbers = refl;
  keeps = keeps-none c.args.clients.now;
  read = λ number client below is. absurd (omega arith);
}

pub returns-in_err-take_in-clause-breaks : goal.returns-in_err-take_in-clause-breaks
returns-in_err-take_in-clause-breaks g c =
    let q = err_from_is_err_and c.from_residual.result c.from_residual.ensures.1 in
    rw (q.1, q.2) (breaks-later g.D.SectorDisk.medium g.D.SectorDisk.counts c.args.moment.0 c.args.hub.now c.loop-key.hub c.take_in.new.hub _
    (such-goes g.D.SectorDisk.medium c.args.moment.0 c.args.hub.now c.loop-key.hub (HearsEach g.S.Read.remaining c.args.clients.now c.loop-key.clients)
    c.loop-key.invariant.hears) c.in_err-take_in.ensures.breaks)

pub returns-in_err-take_in-clause-keeps : goal.returns-in_err-take_in-clause-keeps
returns-in_err-take_in-clause-keeps g c =
    keeps-both c.args.clients.now c.loop-key.clients (with_value c.loop-key.clients c.loop-key.key c.take_in.new.self) c.loop-key.invariant.keeps
    (keeps-value c.loop-key.clients c.loop-key.key c.in-Some.client.now c.take_in.new.self (sym c.in-Some.ensures.value) c.take_in.ensures.conn
    (λ bad. c.take_in.ensures.failed ∙ bad))

pub returns-in_err-take_in-clause-numbers : goal.returns-in_err-take_in-clause-numbers
returns-in_err-take_in-clause-numbers g c = c.take_in.ensures.numbers ∙ c.loop-key.invariant.numbers

pub loop-key-preserved : goal.loop-key-preserved
loop-key-preserved g c = elim c.match-get_mut.branch [
  | in-Some+in_ok-take_in w ↦
      let slab = c.loop-key.clients in
      let key = c.loop-key.key in
      let was = w.in-Some.client.now in
      let now = w.take_in.new.self in
      let found = sym w.in-Some.ensures.value in
      rw (w.hub-is, w.clients-is) (record {
        hears = hears-more g.D.SectorDisk.medium c.args.moment.0 g.S.Read.remaining c.args.hub.now c.loop-key.hub w.take_in.new.hub c.args.clients.now slab
            key was now found c.loop-key.invariant.keeps w.in_ok-take_in.ensures.hears c.loop-key.invariant.hears;
        numbers = w.take_in.ensures.numbers ∙ c.loop-key.invariant.numbers;
        keeps = keeps-both c.args.clients.now slab (with_value slab key now) c.loop-key.invariant.keeps
            (keeps-value slab key was now found w.take_in.ensures.conn (λ bad. w.take_in.ensures.failed ∙ bad));
        read = below-more (λ (v : ClientView). v.over ≡ false → WasRead v) slab (with_value slab key now) key (Some now)
            (updates-value slab key was now found) w.in_ok-take_in.ensures.read c.loop-key.invariant.read;
      })
  | in_default w ↦
      let none : get c.loop-key.clients c.loop-key.key ≡ None = sym c.get_mut.ensures.value ∙ ap option_copied_mut w.in_default.is in
      rw (w.hub-is, w.clients-is) (record {
        hears = c.loop-key.invariant.hears;
        numbers = c.loop-key.invariant.numbers;
        keeps = c.loop-key.invariant.keeps;
        read = below-same (λ (v : ClientView). v.over ≡ false → WasRead v) c.loop-key.clients c.loop-key.key (λ client is. cc) c.loop-key.invariant.read;
      })
]
