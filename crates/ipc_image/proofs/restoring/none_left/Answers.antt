use Rattle.std.proofs.Common.{ap, length, arith}
use Rattle.std.proofs.lemmas.List.{drop_all, length-drop}
use Rattle.ipc_image.proofs.restoring.none_left.Goals as goal

pub returns-then-next-count-clause-damaged : goal.returns-then-next-count-clause-damaged
returns-then-next-count-clause-damaged c is none =
    omega (arith, ap length none, length-drop c.args.next c.args.objects.now, c.if-next-count.true, c.count.ensures.count)

pub returns-clause-ok : goal.returns-clause-ok
returns-clause-ok c = drop_all c.args.next c.args.objects.now (omega (arith, c.if-next-count.false, c.count.ensures.count))
