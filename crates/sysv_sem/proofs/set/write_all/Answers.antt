use Rattle.std.proofs.Common.{◌∙◌, ◌++◌, ◌∷◌, [], ℕ, map, take, get_or, ap, sym, arith}
use Rattle.std.proofs.lemmas.List.{take_more, take_more_set, take_all, map-append}
use Rattle.sysv_sem.specs.declared.set.Semaphore.{Semaphore}
use Rattle.sysv_sem.proofs.set.write_all.Goals as goal

pub loop-at-preserved : goal.loop-at-preserved
loop-at-preserved c =
    let at = c.loop-at.at in
    let made : ℕ → Semaphore = λ v. record { value = v; pid = c.args.pid } in
    take_more_set c.loop-at.semaphores at _ (omega (arith, c.loop-at.auto.semaphores, c.loop-at-test.true, c.requires))
    ∙ ap (λ l. l ++ made (get_or c.args.values.now at 0) ∷ []) c.loop-at.invariant
    ∙ sym (ap (map made) (take_more c.args.values.now at 0 c.loop-at-test.true) ∙ map-append made (take at c.args.values.now) _)

pub returns : goal.returns
returns c =
    let made : ℕ → Semaphore = λ v. record { value = v; pid = c.args.pid } in
    sym (take_all c.loop-at.at c.loop-at.semaphores (omega (arith, c.loop-at.auto.semaphores, c.loop-at-test.false, c.requires)))
    ∙ c.loop-at.invariant ∙ ap (map made) (take_all c.loop-at.at c.args.values.now c.loop-at-test.false)
