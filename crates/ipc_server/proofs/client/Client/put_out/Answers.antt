use Rattle.std.proofs.Common.{◌+◌, ap, refl, sym, ◌∙◌, arith}
use Rattle.ipc_server.specs.View.{ClientView}
use Rattle.ipc_server.proofs.Talking.{shown-there, tells-both, tells-none, tells-one}
use Rattle.ipc_server.proofs.client.Client.put_out.Goals as goal

pub loop-self-init : goal.loop-self-init
loop-self-init g c = record {
  same = refl;
  full = refl;
  failed = λ bad. bad;
  writes = omega arith;
  numbers = refl;
  others = λ other apart. refl;
  tells = tells-none c.args.self.now.conn c.args.hub.now _;
}

pub loop-self-preserved-in-Ok : goal.loop-self-preserved-in-Ok
loop-self-preserved-in-Ok g c = let conn = ap (λ (v : ClientView). v.conn) c.loop-self.invariant.same in record {
  same = ap (λ (v : ClientView). record v { writing = record (v.writing) { writes = v.writing.writes + 1 } }) c.loop-self.invariant.same;
  full = c.loop-self.invariant.full;
  failed = c.loop-self.invariant.failed;
  writes = omega arith;
  numbers = c.consume.ensures.numbers ∙ c.loop-self.invariant.numbers;
  others = λ other apart. c.consume.ensures.others other (rw (sym conn) at apart) ∙ c.loop-self.invariant.others other apart;
  tells = tells-both c.args.self.now.conn c.args.hub.now c.loop-self.hub c.consume.new.self _ _ _ c.loop-self.invariant.tells
      (tells-one c.args.self.now.conn c.loop-self.hub c.consume.new.self c.in-Ok.count _ _
      (rw (c.output-output.ensures.bytes, conn) at c.in-Ok.ensures.bound)
      (shown-there c.loop-self.hub.hub c.args.self.now.conn (sym (rw (c.output-output.ensures.bytes, conn) at c.is_empty.ensures) ∙ c.if-is_empty.false))
      (rw conn at c.consume.ensures.ok) c.consume.ensures.store (rw conn at c.consume.ensures.output)
      (rw (c.output-output.ensures.bytes, conn) at c.in-Ok.ensures.bytes));
}
