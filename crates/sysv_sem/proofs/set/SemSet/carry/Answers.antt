use Rattle.std.proofs.Common.{◌≡◌, ◌≤◌, length, take, drop, ◌++◌, get_or, sym, ap, subst, ◌∙◌}
use Rattle.std.specs.List.{fold}
use Rattle.std.proofs.lemmas.List.Elements.{All-map}
use Rattle.sysv_sem.specs.Operation.{most_value, performed, outcome}
use Rattle.sysv_sem.specs.Set.{values_of, marked, semaphores_in}
use Rattle.sysv_sem.specs.Trial.{changed_by}
use Rattle.sysv_sem.specs.declared.set.Semaphore.{Semaphore}
use Rattle.sysv_sem.proofs.Trials.{can-perform, Performs, Performs-done, all-bounded, all-performed, values, pids, changed, values-changed, length-changed}
use Rattle.sysv_sem.proofs.Trials.{each-value, whole}
use Rattle.sysv_sem.proofs.set.SemSet.carry.Goals as goal

pub perform-requires-clause-range : goal.perform-requires-clause-range
perform-requires-clause-range c k n le =
    let old = c.self.inside.semaphores.items in
    let all = All-map (λ v. v ≤ most_value) (λ (x : Semaphore). x.value) old c.self.invariant in
    let performs = can-perform (values old) _ c.args.operations.now (ap values_of c.self.view_is) all c.requires.passes in
    subst (λ l. get_or (fold performed (values l) (take k c.args.operations.now)) n 0 ≤ most_value) (sym c.deref_mut.ensures.value) (performs.range k n le)

-- the buffer is written whole
left : (c : goal.After-now-1)
    → take c.self.inside.semaphores.len (c.perform.new.semaphores ++ drop (length c.perform.new.semaphores) c.self.inside.semaphores.items)
    ≡ fold (changed_by c.args.pid) c.self.inside.semaphores.items c.args.operations.now
left c =
    whole _ _ _ (ap length c.perform.ensures ∙ length-changed c.args.pid _ c.args.operations.now ∙ c.deref_mut.ensures.len)
    ∙ c.perform.ensures ∙ ap (λ l. fold (changed_by c.args.pid) l c.args.operations.now) c.deref_mut.ensures.value

pub invariant_of-self : goal.invariant_of-self
invariant_of-self c =
    let old = c.self.inside.semaphores.items in
    let all = All-map (λ v. v ≤ most_value) (λ (x : Semaphore). x.value) old c.self.invariant in
    let performs = can-perform (values old) _ c.args.operations.now (ap values_of c.self.view_is) all c.requires.passes in
    each-value _ (all-performed _ _ _ _ performs (ap values (left c) ∙ values-changed c.args.pid old c.args.operations.now))

pub returns : goal.returns
returns c held after vs h =
    let old = c.self.inside.semaphores.items in
    let all = All-map (λ v. v ≤ most_value) (λ (x : Semaphore). x.value) old c.self.invariant in
    let performs : Performs (values old) c.args.operations.now vs =
    Performs-done (values old) held c.args.operations.now 0 vs after (all-bounded _ all)
    (ap (λ s. outcome (values_of s) held c.args.operations.now) c.self.view_is ∙ h) in
    let now = left c ∙ changed c.args.pid old c.args.operations.now in
    λ i. record {
      semaphores = (now ∙ (λ j. semaphores_in (sym performs.is j) (fold (marked c.args.pid) (pids (c.self.view_is j).semaphores) c.args.operations.now))) i;
      otime = c.args.now.0;
      ctime = (c.self.view_is i).ctime;
    }
