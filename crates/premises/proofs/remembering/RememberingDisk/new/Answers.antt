-- One sector of zeros more; at the end all are zeros, and synced.
use Rattle.std.proofs.Common.{◌≡◌, ℕ, List, [], ◌∷◌, ◌++◌, replicate, ◌∙◌, ap, arith}
use Rattle.std.proofs.lemmas.List.{replicate-append-replicate}
use Rattle.premises.specs.declared.remembering.Slot.{Slot}
use Rattle.premises.specs.declared.remembering.TheConstants.{ZEROS}
use Rattle.premises.proofs.Sectors.{whole-zeros, contents-zeros, length-zeros}
use Rattle.premises.proofs.remembering.RememberingDisk.new.Goals as goal

pub loop-preserved : goal.loop-preserved
loop-preserved c =
    c.in_ok-push.ensures.items ∙ ap (λ (l : List Slot). l ++ ZEROS ∷ []) c.loop.invariant ∙ replicate-append-replicate c.loop.counter 1 ZEROS

pub invariant_of-result-clause-whole : goal.invariant_of-result-clause-whole
invariant_of-result-clause-whole c = whole-zeros c.loop.counter c.loop.slots.items c.loop.invariant

pub invariant_of-result-clause-few : goal.invariant_of-result-clause-few
invariant_of-result-clause-few c = omega (arith, length-zeros c.loop.counter c.loop.slots.items c.loop.invariant)

pub returns-clause-zeros : goal.returns-clause-zeros
returns-clause-zeros c =
    let all : c.loop.counter ≡ c.args.sectors = omega arith in
    contents-zeros c.loop.counter c.loop.slots.items c.loop.invariant ∙ ap (λ (n : ℕ). replicate n (replicate 512 0)) all
