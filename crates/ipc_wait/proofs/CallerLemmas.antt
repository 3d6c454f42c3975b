-- Lemmas for callers.
use Rattle.std.proofs.Common.{◌≡◌, ◌≢◌, ◌+◌, ◌≤◌, length, length-append, arith, Bool, true, false, not, cond, nat_le, ℕ, List, [], ◌∷◌, ◌++◌}
use Rattle.std.proofs.Common.{filter, Option, Some, None, is_some, append-nil, refl, sym, ap, subst, ◌∙◌}
use Rattle.std.specs.List.{find}
use Rattle.std.proofs.lemmas.Bool.Decides.{nat_tests}
use Rattle.std.proofs.lemmas.List.Elements.{filter-append}
use Rattle.std.proofs.lemmas.List.Filters.{length-filter_both}
use Rattle.std.proofs.lemmas.Option.{same_Some}
use Rattle.ipc_base.proofs.CallerLemmas.{nobody}
use Rattle.ipc_base.specs.declared.identity.Pid.{Pid}
use Rattle.ipc_base.specs.declared.identity.Moment.{Moment}
use Rattle.ipc_wait.specs.declared.list.Waiting.{Waiting}
use Rattle.ipc_wait.specs.Waits.{waiting_call_of, without, HaveDistinctPids, is_of, has_come, is_due, calls_due, calls_left, next_deadline}
use Rattle.ipc_wait.proofs.Lists.{HaveDistinctPids-filter, filter-filter, none_later, same_process, same_number, turned}
use Rattle.ipc_wait.proofs.Lists.{waiting_call_of-past, find-filter_none, find-parts, one_due}
pub use Rattle.ipc_wait.proofs.Lists.{HaveDistinctPids-enter, filter-none}

-- a deadline that has come stays so
pub has_come-later : (now later : Moment) (deadline : Option Moment) → now.0 ≤ later.0 → has_come now deadline ≡ true → has_come later deadline ≡ true
has_come-later now later None after h = h
has_come-later now later (Some d) after h = passed d.0 now.0 later.0 after h
  where
    passed : (d a b : ℕ) → a ≤ b → nat_le d a ≡ true → nat_le d b ≡ true
    passed d a b after h = grind (arith, nat_tests)

module _ {O C : Type 0} where
  -- a call that enters is the last of those that pass a test, if it does
  pub filter-enter : (test : Waiting O C → Bool) (calls : List (Waiting O C)) (w : Waiting O C)
      → filter test (calls ++ w ∷ []) ≡ cond (test w) (filter test calls ++ w ∷ []) (filter test calls)
  filter-enter test calls w = filter-append test calls (w ∷ []) ∙
      elim (test w) as (λ b. filter test calls ++ cond b (w ∷ []) [] ≡ cond b (filter test calls ++ w ∷ []) (filter test calls)) [
        | true ↦ refl
        | false ↦ append-nil (filter test calls)
      ]

  -- after a call has left, its process has none
  pub waiting_call_of-without_same : (pid : Pid) (calls : List (Waiting O C)) → waiting_call_of pid (without pid calls) ≡ None
  waiting_call_of-without_same pid [] = refl
  waiting_call_of-without_same pid (w ∷ calls) =
      elim (is_of pid w) as (λ b. is_of pid w ≡ b → waiting_call_of pid (cond (not b) (w ∷ without pid calls) (without pid calls)) ≡ None) [
        | true ↦ λ e. waiting_call_of-without_same pid calls
        | false ↦ λ e. (λ i. cond (e i) (Some w) (waiting_call_of-without_same pid calls i))
      ] refl

  -- and each other process has what it had
  pub waiting_call_of-without_other : (pid q : Pid) (calls : List (Waiting O C)) → q ≢ pid → waiting_call_of q (without pid calls) ≡ waiting_call_of q calls
  waiting_call_of-without_other pid q [] ne = refl
  waiting_call_of-without_other pid q (w ∷ calls) ne =
      elim (is_of pid w) as
      (λ b. is_of pid w ≡ b → waiting_call_of q (cond (not b) (w ∷ without pid calls) (without pid calls)) ≡ waiting_call_of q (w ∷ calls)) [
        | true ↦ λ e. waiting_call_of-without_other pid q calls ne ∙ (λ i. cond (sym (apart e) i) (Some w) (waiting_call_of q calls))
        | false ↦ λ e. ap (cond (is_of q w) (Some w)) (waiting_call_of-without_other pid q calls ne)
      ] refl
    where
      apart : is_of pid w ≡ true → is_of q w ≡ false
      apart e =
          elim (is_of q w) as (λ b. is_of q w ≡ b → b ≡ false) [
            | true ↦ λ h. absurd (ne (sym (same_process w.pid q h) ∙ same_process w.pid pid e))
            | false ↦ λ h. refl
          ] refl

  -- after a call has left, no process has two
  pub without-distinct : (pid : Pid) (calls : List (Waiting O C)) → HaveDistinctPids calls → HaveDistinctPids (without pid calls)
  without-distinct pid calls = HaveDistinctPids-filter (λ w. not (is_of pid w)) calls

  -- those that pass a test stay in their order
  pub filter-without : (test : Waiting O C → Bool) (pid : Pid) (calls : List (Waiting O C)) → filter test (without pid calls) ≡ without pid (filter test calls)
  filter-without test pid calls = filter-filter test (λ w. not (is_of pid w)) calls

  -- of a list that holds a call, what its process has there, and the rest
  module _ (w : Waiting O C) (after : List (Waiting O C)) where
    not_before : (v : Waiting O C) (before : List (Waiting O C)) → waiting_call_of v.pid (before ++ w ∷ after) ≡ None → is_of w.pid v ≡ false
    not_before v [] none = turned v.pid.0 w.pid.0 ∙ (none_later (is_of v.pid) w after none).0
    not_before v (u ∷ before) none = not_before v before (none_later (is_of v.pid) u (before ++ w ∷ after) none).1

    pub none_before : (before : List (Waiting O C)) → HaveDistinctPids (before ++ w ∷ after) → waiting_call_of w.pid before ≡ None
    none_before [] distinct = refl
    none_before (v ∷ before) distinct = (λ i. cond (not_before v before distinct.0 i) (Some v) (none_before before distinct.1 i))

    pub waiting_call_of-here : (before : List (Waiting O C)) → HaveDistinctPids (before ++ w ∷ after) → waiting_call_of w.pid (before ++ w ∷ after) ≡ Some w
    waiting_call_of-here [] distinct = ap (λ b. cond b (Some w) (waiting_call_of w.pid after)) (same_number w.pid.0)
    waiting_call_of-here (v ∷ before) distinct = (λ i. cond (not_before v before distinct.0 i) (Some v) (waiting_call_of-here before distinct.1 i))

    pub without-here : (before : List (Waiting O C)) → HaveDistinctPids (before ++ w ∷ after) → without w.pid (before ++ w ∷ after) ≡ before ++ after
    without-here [] distinct =
        ap (λ b. cond (not b) (w ∷ without w.pid after) (without w.pid after)) (same_number w.pid.0) ∙ filter-none (is_of w.pid) after distinct.0
    without-here (v ∷ before) distinct =
        (λ i. cond (not (not_before v before distinct.0 i)) (v ∷ without-here before distinct.1 i) (without w.pid (before ++ w ∷ after)))

  -- what a process has among those that pass a test it has in the list
  pub waiting_call_of-filter : (test : Waiting O C → Bool) (q : Pid) (w : Waiting O C) (calls : List (Waiting O C)) → HaveDistinctPids calls
      → waiting_call_of q (filter test calls) ≡ Some w → waiting_call_of q calls ≡ Some w
  waiting_call_of-filter test q w [] distinct h = h
  waiting_call_of-filter test q w (v ∷ calls) distinct h =
      elim (test v) as (λ b. waiting_call_of q (cond b (v ∷ filter test calls) (filter test calls)) ≡ Some w → waiting_call_of q (v ∷ calls) ≡ Some w) [
        | true ↦ elim (is_of q v) as
            (λ b. cond b (Some v) (waiting_call_of q (filter test calls)) ≡ Some w → cond b (Some v) (waiting_call_of q calls) ≡ Some w) [
              | true ↦ λ h. h
              | false ↦ waiting_call_of-filter test q w calls distinct.1
            ]
        | false ↦ λ h. waiting_call_of-past v calls q w distinct.0 (waiting_call_of-filter test q w calls distinct.1 h)
      ] h

  -- a call that passes a test is its process's, and when it leaves the others that pass stay
  pub waiting_call_of-passing : (test : Waiting O C → Bool) (calls before after : List (Waiting O C)) (w : Waiting O C) → HaveDistinctPids calls
      → filter test calls ≡ before ++ w ∷ after → waiting_call_of w.pid calls ≡ Some w
  waiting_call_of-passing test calls before after w distinct is =
      let each = subst HaveDistinctPids is (HaveDistinctPids-filter test calls distinct) in
      waiting_call_of-filter test w.pid w calls distinct (ap (waiting_call_of w.pid) is ∙ waiting_call_of-here w after before each)

  pub filter-without_passing : (test : Waiting O C → Bool) (calls before after : List (Waiting O C)) (w : Waiting O C) → HaveDistinctPids calls
      → filter test calls ≡ before ++ w ∷ after → filter test (without w.pid calls) ≡ before ++ after
  filter-without_passing test calls before after w distinct is =
      let each = subst HaveDistinctPids is (HaveDistinctPids-filter test calls distinct) in
      filter-without test w.pid calls ∙ ap (without w.pid) is ∙ without-here w after before each

  -- what a process has among those that pass a test: its call, if that passes
  pub waiting_call_of-passes : (test : Waiting O C → Bool) (q : Pid) (calls : List (Waiting O C)) (w : Waiting O C) → HaveDistinctPids calls
      → waiting_call_of q calls ≡ Some w → is_some (waiting_call_of q (filter test calls)) ≡ test w
  waiting_call_of-passes test q [] w distinct h = cc
  waiting_call_of-passes test q (v ∷ calls) w distinct h =
      elim (is_of q v) as (λ b. is_of q v ≡ b → cond b (Some v) (waiting_call_of q calls) ≡ Some w
      → is_some (waiting_call_of q (filter test (v ∷ calls))) ≡ test w) [
        | true ↦ λ e h.
            elim (test v) as (λ b. test v ≡ b → is_some (waiting_call_of q (cond b (v ∷ filter test calls) (filter test calls))) ≡ b) [
              | true ↦ λ _. (λ i. is_some (cond (e i) (Some v) (waiting_call_of q (filter test calls))))
              | false ↦ λ _. ap is_some
                  (find-filter_none (is_of q) test calls (subst (λ p. waiting_call_of p calls ≡ None) (same_process v.pid q e) distinct.0))
            ] refl ∙ ap test (same_Some v w h)
        | false ↦ λ e h.
            elim (test v) as (λ b. is_some (waiting_call_of q (cond b (v ∷ filter test calls) (filter test calls))) ≡ test w) [
              | true ↦ (λ i. is_some (cond (e i) (Some v) (waiting_call_of q (filter test calls)))) ∙ waiting_call_of-passes test q calls w distinct.1 h
              | false ↦ waiting_call_of-passes test q calls w distinct.1 h
            ]
      ] refl h

  -- a process that has no call has none among those that pass a test
  pub waiting_call_of-none : (test : Waiting O C → Bool) (q : Pid) (calls : List (Waiting O C)) → waiting_call_of q calls ≡ None
      → waiting_call_of q (filter test calls) ≡ None
  waiting_call_of-none test q calls none = find-filter_none (is_of q) test calls none

  -- if a call leaves that is due, those that are not stay as they are
  pub due-leaves : (now : Moment) (calls : List (Waiting O C)) (w : Waiting O C) → HaveDistinctPids calls → waiting_call_of w.pid calls ≡ Some w
      → is_due now w ≡ true → calls_left now (without w.pid calls) ≡ calls_left now calls
  due-leaves now calls w distinct here due =
      let gone : is_some (waiting_call_of w.pid (calls_left now calls)) ≡ false =
      waiting_call_of-passes (λ v. not (is_due now v)) w.pid calls w distinct here ∙ ap not due in
      filter-without (λ v. not (is_due now v)) w.pid calls
      ∙ filter-none (is_of w.pid) (calls_left now calls) (nobody (waiting_call_of w.pid (calls_left now calls)) gone)

  -- after those that are due have left, no process has two calls
  pub left-distinct : (now : Moment) (calls : List (Waiting O C)) → HaveDistinctPids calls → HaveDistinctPids (calls_left now calls)
  left-distinct now = HaveDistinctPids-filter (λ w. not (is_due now w))

  -- each call is due or left
  pub due-or-left : (now : Moment) (calls : List (Waiting O C)) → length (calls_due now calls) + length (calls_left now calls) ≡ length calls
  due-or-left now = length-filter_both (is_due now) (λ w. not (is_due now w)) (λ w. refl)

  -- none is due where all are left
  pub none-due : (now : Moment) (calls : List (Waiting O C)) → calls_due now calls ≡ [] → calls_left now calls ≡ calls
  none-due now [] none = refl
  none-due now (w ∷ calls) none =
      elim (is_due now w) as (λ b. cond b (w ∷ calls_due now calls) (calls_due now calls) ≡ [] → cond (not b) (w ∷ calls_left now calls)
      (calls_left now calls) ≡ w ∷ calls) [
        | true ↦ λ h. cc
        | false ↦ λ h. ap (λ ws. w ∷ ws) (none-due now calls h)
      ] none

  -- one is due if and only if the earliest deadline has come
  pub has_come-next_deadline : (now : Moment) (calls : List (Waiting O C)) → has_come now (next_deadline calls) ≡ is_some (find (is_due now) calls)
  has_come-next_deadline now calls = one_due now calls None

  -- a call that is in the list: its process has it, and when it leaves there is one less
  pub record IsIn (calls : List (Waiting O C)) (w : Waiting O C) : Type 0 where
    pub here : waiting_call_of w.pid calls ≡ Some w
    pub fewer : length calls ≡ length (without w.pid calls) + 1

  -- what a search finds is in the list
  pub found-in : (test : Waiting O C → Bool) (calls : List (Waiting O C)) (w : Waiting O C) → HaveDistinctPids calls → find test calls ≡ Some w → IsIn calls w
  found-in test calls w distinct is =
      let parts = find-parts test calls w is in
      let before = parts.0 in
      let after = parts.1 in
      let each = subst HaveDistinctPids parts.2 distinct in
      record {
        here = ap (waiting_call_of w.pid) parts.2 ∙ waiting_call_of-here w after before each;
        fewer =
            let left : without w.pid calls ≡ before ++ after = ap (without w.pid) parts.2 ∙ without-here w after before each in
            omega (arith, ap length parts.2, ap length left, length-append before (w ∷ after), length-append before after);
      }
