use Rattle.std.proofs.Common.{◌≡◌, ◌∙◌, None, false, sym, ap, arith}
use Rattle.std.specs.Option.{option_copied}
use Rattle.slab.specs.Slab.{get}
use Rattle.ipc_server.specs.Rest.{has_work}
use Rattle.ipc_server.specs.Rows.{view_of}
use Rattle.ipc_server.specs.View.{ClientView}
use Rattle.ipc_server.proofs.Standing.{below-same, stands-at}
use Rattle.ipc_server.proofs.rounds.any_has_work.Goals as goal

-- no client has the key
pub loop-key-preserved-in_default : goal.loop-key-preserved-in_default
loop-key-preserved-in_default g c =
    let none : get c.args.clients.now c.loop-key.key ≡ None = sym c.get.ensures ∙ ap option_copied c.in_default.is in
    below-same (λ (v : ClientView). has_work c.args.hub.now.hub v ≡ false) c.args.clients.now c.loop-key.key (λ client is. cc) c.loop-key.invariant

pub loop-key-preserved : goal.loop-key-preserved
loop-key-preserved g c =
    let idle : has_work c.args.hub.now.hub (view_of c.in-Some.client.now) ≡ false = sym c.if-has_work.ensures in
    below-same (λ (v : ClientView). has_work c.args.hub.now.hub v ≡ false) c.args.clients.now c.loop-key.key
    (λ client is. cc (c.in-Some.ensures, is, idle)) c.loop-key.invariant

-- this one has
pub returns-then-has_work-clause-some : goal.returns-then-has_work-clause-some
returns-then-has_work-clause-some g c it = (
  c.loop-key.key,
  view_of c.in-Some.client.now,
  stands-at c.args.clients.now c.loop-key.key c.in-Some.client.now (sym c.in-Some.ensures),
  sym c.if-has_work.ensures,
)

pub returns-clause-none : goal.returns-clause-none
returns-clause-none g c is number client below there =
    c.loop-key.invariant number client (omega (arith, c.capacity-key-end.ensures.value)) there
