use Rattle.std.proofs.Common.{◌≤◌, ℕ, ◌∙◌, length, ap, sym, subst}
use Rattle.std.specs.Prelude.{All}
use Rattle.std.proofs.lemmas.List.{length-map}
use Rattle.std.proofs.lemmas.List.Elements.{All-map}
use Rattle.sysv_sem.specs.Operation.{most_value}
use Rattle.sysv_sem.specs.declared.set.Semaphore.{Semaphore}
use Rattle.sysv_sem.proofs.Trials.{whole}
use Rattle.sysv_sem.proofs.set.SemSet.set_all.Goals as goal

pub invariant_of-self : goal.invariant_of-self
invariant_of-self c =
    let made : ℕ → Semaphore = λ v. record { value = v; pid = c.args.pid } in
    let fit : Semaphore → _ = λ x. x.value ≤ most_value in
    let left = whole c.write_all.new.semaphores c.self.inside.semaphores.items c.self.inside.semaphores.len
    (ap length c.write_all.ensures ∙ length-map c.args.values.now made ∙ c.requires.count ∙ sym (ap (λ s. length s.semaphores) c.self.view_is)
    ∙ sym (ap length c.deref_mut.ensures.value) ∙ c.deref_mut.ensures.len) in
    subst (All fit) (sym (left ∙ c.write_all.ensures)) (All-map fit made c.args.values.now c.requires.values)
