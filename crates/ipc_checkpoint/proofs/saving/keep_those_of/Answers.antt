-- The objects are passed over, or taken out.
use Rattle.std.proofs.Common.{ℕ, ◌-◌, ◌<◌, length, sym, ap, ◌∙◌, arith}
use Rattle.ipc_checkpoint.proofs.Keeping.{keeps-none, keeps-more, keeps-less, keeps-all, nowhere, seen-at, seen-none}
use Rattle.ipc_checkpoint.proofs.saving.keep_those_of.Goals as goal

pub loop-number-init : goal.loop-number-init
loop-number-init g c = keeps-none _ _

pub loop-number-preserved-then-has : goal.loop-number-preserved-then-has
loop-number-preserved-then-has g c =
    let at = seen-at (λ p. (p.number, p.len)) c.loop-number.heap.placed c.loop-number.i nowhere (c.in-Some.number, c.in-Some.field-0-1)
    (sym c.in-Some.ensures) in
    keeps-more _ c.loop-number.i c.args.heap.now c.loop-number.heap c.loop-number.invariant c.in-Some.number nowhere at.0 (ap (λ (e : ℕ × ℕ). e.0) at.1)
    (sym c.has.ensures ∙ c.if-has.true)

pub loop-number-smaller : goal.loop-number-smaller
loop-number-smaller g c =
    let at = seen-at (λ p. (p.number, p.len)) c.loop-number.heap.placed c.loop-number.i nowhere (c.in-Some.number, c.in-Some.field-0-1)
    (sym c.in-Some.ensures) in
    let less = (keeps-less _ c.loop-number.i c.args.heap.now c.loop-number.heap c.loop-number.invariant c.in-Some.number nowhere at.0
    (ap (λ (e : ℕ × ℕ). e.0) at.1) c.remove.new.self (sym c.has.ensures ∙ c.if-has.false) c.remove.ensures.removes c.remove.ensures.free).1 in
    let fewer : length c.remove.new.self.placed - c.loop-number.i < length c.loop-number.heap.placed - c.loop-number.i = omega (arith, less, at.0) in
    fewer

pub loop-number-preserved : goal.loop-number-preserved
loop-number-preserved g c =
    let at = seen-at (λ p. (p.number, p.len)) c.loop-number.heap.placed c.loop-number.i nowhere (c.in-Some.number, c.in-Some.field-0-1)
    (sym c.in-Some.ensures) in
    (keeps-less _ c.loop-number.i c.args.heap.now c.loop-number.heap c.loop-number.invariant c.in-Some.number nowhere at.0
    (ap (λ (e : ℕ × ℕ). e.0) at.1) c.remove.new.self (sym c.has.ensures ∙ c.if-has.false) c.remove.ensures.removes c.remove.ensures.free).0

pub returns-clause-keeps : goal.returns-clause-keeps
returns-clause-keeps g c =
    keeps-all _ c.loop-number.i c.args.heap.now c.loop-number.heap c.loop-number.invariant
    (seen-none (λ p. (p.number, p.len)) c.loop-number.heap.placed c.loop-number.i (sym c.in_default.ensures))
