use Rattle.std.proofs.Common.{◌≡◌, ◌≢◌, true, [], ◌∷◌, ◌++◌, None, arith}
use Rattle.std.specs.Prelude.{nat_eq, All}
use Rattle.std.specs.Cmp.{nat_eq_equiv}
use Rattle.std.proofs.lemmas.List.Elements.{All-nil, All-cons, All-append, All-map}
use Rattle.ipc_state.specs.State.{State, at_moment, due_calls, is_process, has_all_processes, with_process}
use Rattle.ipc_engine.specs.Event.{PlainOutcome}
use Rattle.ipc_engine.specs.Step.{Step, due, expired}
use Rattle.ipc_base.proofs.CallerLemmas.{choice, rising-found, is_some-append, is_some-push}
use Rattle.ipc_engine.proofs.laws.connect_adds_one_process.Goals as goal

pub returns-clause-fresh : goal.returns-clause-fresh
returns-clause-fresh c limits s cred serial moment pid sound there =
    let range = rising-found 1 s.processes.entries s.processes.next pid sound.parts.processes.numbered.numbers there in
    let d = due moment s in
    All-append (λ (o : PlainOutcome). o.errno ≡ None → o.pid ≢ pid) d.outcomes _
    (All-map (λ (o : PlainOutcome). o.errno ≡ None → o.pid ≢ pid) expired (due_calls (at_moment s moment)) (λ k e i none. cc))
    (choice (λ (t : Step). All (λ o. o.errno ≡ None → o.pid ≢ pid) t.outcomes) (has_all_processes limits d.state) _ _
    (λ _. All-cons (λ (o : PlainOutcome). o.errno ≡ None → o.pid ≢ pid) _ [] (λ none e. omega arith) (All-nil _))
    (λ _. All-cons (λ (o : PlainOutcome). o.errno ≡ None → o.pid ≢ pid) _ [] (λ none e. omega arith) (All-nil _)))

pub returns-clause-there : goal.returns-clause-there
returns-clause-there c limits s cred serial moment =
    let d = due moment s in
    choice (λ (t : Step). All (λ o. o.errno ≡ None → is_process t.state o.pid ≡ true) (d.outcomes ++ t.outcomes)) (has_all_processes limits d.state) _ _
    (λ _. All-append (λ (o : PlainOutcome). o.errno ≡ None → is_process d.state o.pid ≡ true) d.outcomes _ (expired-there d.state)
    (All-cons (λ (o : PlainOutcome). o.errno ≡ None → is_process d.state o.pid ≡ true) _ [] (λ e. cc) (All-nil _)))
    (λ _. All-append (λ (o : PlainOutcome). o.errno ≡ None → is_process (with_process d.state cred) o.pid ≡ true) d.outcomes _
    (expired-there (with_process d.state cred))
    (All-cons (λ (o : PlainOutcome). o.errno ≡ None → is_process (with_process d.state cred) o.pid ≡ true) _ []
    (λ e. is_some-push nat_eq nat_eq_equiv s.processes.entries s.processes.next (record { cred = cred; descriptors = [] })) (All-nil _)))
  where
    expired-there : (t : State) → All (λ o. o.errno ≡ None → is_process t o.pid ≡ true) (due moment s).outcomes
    expired-there t = All-map (λ (o : PlainOutcome). o.errno ≡ None → is_process t o.pid ≡ true) expired (due_calls (at_moment s moment)) (λ k e i none. cc)

pub returns-clause-others : goal.returns-clause-others
returns-clause-others c limits s cred serial moment pid there =
    choice (λ (t : Step). is_process t.state pid ≡ true) (has_all_processes limits (due moment s).state) _ _
    (λ _. there)
    (λ _. is_some-append nat_eq s.processes.entries ((s.processes.next, record { cred = cred; descriptors = [] }) ∷ []) pid there)
