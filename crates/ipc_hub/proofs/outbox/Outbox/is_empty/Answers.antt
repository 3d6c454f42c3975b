use Rattle.std.proofs.Common.{◌≡◌, sym, ap, ◌∙◌, arith, length, take}
use Rattle.std.proofs.lemmas.Bool.Decides.{nat_tests}
use Rattle.std.proofs.lemmas.List.{length-take-le}
use Rattle.ipc_hub.specs.View.{kept}
use Rattle.ipc_hub.proofs.Buffers.{front-parts}
use Rattle.ipc_hub.proofs.outbox.Outbox.is_empty.Goals as goal

pub returns : goal.returns
returns c =
    let xs = c.self.inside.buffer.items in
    let end = c.self.inside.end in
    let all : take end xs ≡ kept c.args.self.now = sym (front-parts xs c.self.inside.released end c.self.invariant.0) ∙ ap kept c.self.view_is in
    let long = length-take-le end xs (omega (arith, c.self.invariant.1, c.self.inside.buffer.ok.0)) in (
      λ yes. let zero : end ≡ 0 = grind (arith, nat_tests, yes) in sym all ∙ ap (λ n. take n xs) zero,
      λ none. let zero : end ≡ 0 = omega (arith, long, ap length (all ∙ none)) in grind (arith, nat_tests, zero),
    )
