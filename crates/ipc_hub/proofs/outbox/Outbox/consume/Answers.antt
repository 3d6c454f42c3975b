use Rattle.std.proofs.Common.{◌≡◌, ◌≤◌, ℕ, ◌+◌, ◌-◌, take, drop, length, ap, ◌∙◌, arith}
use Rattle.std.proofs.lemmas.List.{drop-drop, length-take-le}
use Rattle.ipc_hub.specs.View.{Outgoing}
use Rattle.ipc_hub.proofs.Buffers.{front-copied, same-outgoing}
use Rattle.ipc_hub.proofs.outbox.Outbox.consume.Goals as goal

pub returns : goal.returns
returns c =
    let xs = c.self.inside.buffer.items in
    let n = c.args.count in
    let released = c.self.inside.released in
    let end = c.self.inside.end in
    let long : end ≤ length xs = omega (arith, c.self.invariant.1, c.self.inside.buffer.ok.0) in
    let few : n ≤ released = omega
    (arith, c.requires, ap (λ (o : Outgoing). length o.visible) c.self.view_is, length-take-le released xs (omega (arith, long, c.self.invariant.0))) in
    let front : (m : ℕ) → n + m ≤ end → take m c.copy_within.new.self.items ≡ drop n (take (n + m) xs) =
    λ m le. ap (take m) c.copy_within.ensures.items ∙ front-copied xs n m end le long in
    let whole : (k : ℕ) → n ≤ k → n + (k - n) ≡ k = λ k le. omega arith in
    same-outgoing _ _
    (front (released - n) (omega (arith, few, c.self.invariant.0))
    ∙ ap (λ (k : ℕ). drop n (take k xs)) (whole released few) ∙ ap (λ (o : Outgoing). drop n o.visible) c.self.view_is)
    (ap (drop (released - n)) (front (end - n) (omega (arith, few, c.self.invariant.0))
    ∙ ap (λ (k : ℕ). drop n (take k xs)) (whole end (omega (arith, few, c.self.invariant.0))))
    ∙ drop-drop (released - n) n (take end xs)
    ∙ ap (λ (k : ℕ). drop k (take end xs)) (whole released few) ∙ ap (λ (o : Outgoing). o.waiting) c.self.view_is)
    (omega (arith, few, c.self.invariant.0, c.self.invariant.1, c.copy_within.ensures.len, ap (λ (o : Outgoing). o.free) c.self.view_is))
