use Rattle.std.proofs.Common.{◌≡◌, ◌∙◌, ◌≤◌, ◌<◌, ℕ, All, get_or, length, ap, subst, sym}
use Rattle.std.proofs.lemmas.List.{get_or-map}
use Rattle.std.proofs.lemmas.List.Elements.{All-map}
use Rattle.sysv_sem.specs.declared.set.Semaphore.{Semaphore}
use Rattle.sysv_sem.specs.Operation.{most_value, takes_more}
use Rattle.sysv_sem.specs.Set.{Set, values_of}
use Rattle.sysv_sem.proofs.Lacking.{lacking-waits}
use Rattle.sysv_sem.proofs.set.SemSet.lacks.Goals as goal

pub returns-clause-waits : goal.returns-clause-waits
returns-clause-waits c = λ is held operations at there all.
    let num = c.args.operation.num in
    let inside = c.self.inside.semaphores.items in
    let within : num < length inside = subst (λ (s : Set). num < length s.semaphores) (sym c.self.view_is) c.requires in
    let value : c.index.result.now.value ≡ get_or (values_of c.args.self.now) num 0 =
    ap (λ (x : Semaphore). x.value) c.index.ensures ∙ sym (get_or-map (λ (x : Semaphore). x.value) inside num c.index.result.now 0 within)
    ∙ ap (λ (s : Set). get_or (values_of s) num 0) c.self.view_is in
    let more = ap (λ (v : ℕ). takes_more v c.args.operation.sem_op) (sym value) ∙ sym c.takes_more_than.ensures ∙ is in
    let range = subst (λ (s : Set). All (λ (x : Semaphore). x.value ≤ most_value) s.semaphores) c.self.view_is c.self.invariant in
    lacking-waits (values_of c.args.self.now) held operations at c.args.operation
    (All-map (λ n. n ≤ most_value) (λ (x : Semaphore). x.value) c.args.self.now.semaphores range) all there more
