-- There are no more calls that wait, each of a process of its own, than there are processes.
use Rattle.std.proofs.Common.{◌≡◌, ℕ, ◌+◌, ◌≤◌, Bool, true, false, not, cond, List, [], ◌∷◌, length, refl, ap, subst, ◌∙◌, arith}
use Rattle.std.specs.Prelude.{nat_eq, is_some, Some, None, All}
use Rattle.std.proofs.lemmas.List.Elements.{All-nil, All-cons, All-head, All-tail}
use Rattle.std.proofs.lemmas.Bool.{eqb-true}
use Rattle.ipc_base.specs.Table.{value_at}
use Rattle.ipc_base.specs.declared.identity.Pid.{Pid}
use Rattle.ipc_base.proofs.CallerLemmas.{flipped}
use Rattle.ipc_wait.specs.declared.list.Waiting.{Waiting}
use Rattle.ipc_wait.specs.Waits.{is_of, waiting_call_of, without, HaveDistinctPids}
use Rattle.ipc_wait.proofs.CallerLemmas.{filter-none, without-distinct}

module _ {O C : Type 0} where
  -- one call at most leaves with its process
  left-with : (pid : Pid) (calls : List (Waiting O C)) → HaveDistinctPids calls → length calls ≤ length (without pid calls) + 1
  left-with pid [] distinct = omega arith
  left-with pid (w ∷ calls) distinct =
      elim (is_of pid w) as (λ b. is_of pid w ≡ b → length (w ∷ calls) ≤ length (cond (not b) (w ∷ without pid calls) (without pid calls)) + 1) [
        | true ↦ λ is. let same = ap length (filter-none (is_of pid) calls (nobody_of is)) in omega (arith, same)
        | false ↦ λ is. let rest = left-with pid calls distinct.1 in omega arith
      ] refl
    where
      nobody_of : is_of pid w ≡ true → waiting_call_of pid calls ≡ None
      nobody_of is = subst (λ (p : Pid). waiting_call_of p calls ≡ None)
          (ap (λ (n : ℕ). let p : Pid = record { 0 = n } in p) (eqb-true w.pid.0 pid.0 is)) distinct.0

  module _ {X : Type 0} where
    abbrev IsAt : List (ℕ × X) → Waiting O C → Type 0
    IsAt es w = is_some (value_at nat_eq es w.pid.0) ≡ true

    -- without the call of the first, each is of one of the others
    narrowed : (e : ℕ × X) (es : List (ℕ × X)) (calls : List (Waiting O C)) → All (IsAt (e ∷ es)) calls → All (IsAt es) (without (record { 0 = e.0 }) calls)
    narrowed e es [] all = All-nil (IsAt es)
    narrowed e es (w ∷ calls) all =
        let rest = narrowed e es calls (All-tail (IsAt (e ∷ es)) w calls all) in
        let here : IsAt (e ∷ es) w = All-head (IsAt (e ∷ es)) w calls all in
        elim (nat_eq w.pid.0 e.0) as (λ b. nat_eq w.pid.0 e.0 ≡ b
        → All (IsAt es) (cond (not b) (w ∷ without (record { 0 = e.0 }) calls) (without (record { 0 = e.0 }) calls))) [
          | true ↦ λ is. rest
          | false ↦ λ is. All-cons (IsAt es) w _ (past (nat_eq e.0 w.pid.0) (flipped e.0 w.pid.0 ∙ is) here) rest
        ] refl
      where
        past : (b : Bool) → b ≡ false → is_some (cond b (Some e.1) (value_at nat_eq es w.pid.0)) ≡ true → IsAt es w
        past true is here = cc
        past false is here = here

    pub few-waiting : (es : List (ℕ × X)) (calls : List (Waiting O C)) → HaveDistinctPids calls → All (IsAt es) calls → length calls ≤ length es
    few-waiting [] [] distinct all = omega arith
    few-waiting [] (w ∷ calls) distinct all = let here : IsAt [] w = All-head (IsAt []) w calls all in cc
    few-waiting (e ∷ es) calls distinct all =
        let pid : Pid = record { 0 = e.0 } in
        let one = left-with pid calls distinct in
        let rest = few-waiting es (without pid calls) (without-distinct pid calls distinct) (narrowed e es calls all) in
        omega arith
