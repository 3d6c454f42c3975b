-- The list of calls after a change.
use Rattle.std.proofs.Common.{◌≡◌, ◌+◌, arith, ℕ, Bool, true, false, not, cond, nat_eq, nat_le, List, [], ◌∷◌, ◌++◌}
use Rattle.std.proofs.Common.{filter, fold, length, Option, Some, None, is_some, ◌||◌, true≢false, zero, suc, refl, sym, ap, subst, ◌∙◌, slice_get, get_or}
use Rattle.std.specs.List.{find, remove, position, position_or_len}
use Rattle.std.proofs.lemmas.Grind.{common_steps}
use Rattle.std.proofs.lemmas.List.Folds.{find-append, find_at}
use Rattle.std.proofs.lemmas.List.Quantifiers.{position-Some}
use Rattle.std.proofs.lemmas.Option.{none-some, same_Some, cond_some, slice_get_read, slice_get_past}
use Rattle.std.proofs.lemmas.Bool.Decides.{nat_tests}
use Rattle.std.specs.Option.{option_or}
use Rattle.ipc_base.specs.declared.identity.Pid.{Pid}
use Rattle.ipc_base.specs.declared.identity.Moment.{Moment}
use Rattle.ipc_wait.specs.declared.list.Waiting.{Waiting}
use Rattle.ipc_wait.specs.Waits.{waiting_call_of, without, HaveDistinctPids, is_of, earlier, has_come, is_due, next_deadline}

module _ {X : Type 0} (test : X → Bool) where
  -- nothing passes in the rest
  pub none_later : (x : X) (xs : List X) → cond (test x) (Some x) (find test xs) ≡ None → (test x ≡ false) × (find test xs ≡ None)
  none_later x xs = elim (test x) as (λ b. cond b (Some x) (find test xs) ≡ None → (b ≡ false) × (find test xs ≡ None)) [
    | true ↦ λ h. absurd (none-some x (sym h))
    | false ↦ λ h. (refl, h)
  ]

  -- without what passes, if nothing does
  pub filter-none : (xs : List X) → find test xs ≡ None → filter (λ x. not (test x)) xs ≡ xs
  filter-none [] none = refl
  filter-none (x ∷ xs) none =
      let later = none_later x xs none in
      λ i. cond (not (later.0 i)) (x ∷ filter-none xs later.1 i) (filter (λ y. not (test y)) xs)

  -- nothing passes of what passes another test too
  pub find-filter_none : (other : X → Bool) (xs : List X) → find test xs ≡ None → find test (filter other xs) ≡ None
  find-filter_none other [] none = refl
  find-filter_none other (x ∷ xs) none =
      let later = none_later x xs none in
      let rest = find-filter_none other xs later.1 in
      elim (other x) as (λ b. find test (cond b (x ∷ filter other xs) (filter other xs)) ≡ None) [
        | true ↦ (λ i. cond (later.0 i) (Some x) (rest i))
        | false ↦ rest
      ]

  -- the first that passes is the first of those that pass
  pub filter-first : (xs : List X) (x : X) → find test xs ≡ Some x → (rest : List X) × (filter test xs ≡ x ∷ rest)
  filter-first [] x first = absurd (none-some x first)
  filter-first (y ∷ ys) x first =
      elim (test y) as (λ b. cond b (Some y) (find test ys) ≡ Some x → (rest : List X) × (cond b (y ∷ filter test ys) (filter test ys) ≡ x ∷ rest)) [
        | true ↦ λ h. (filter test ys, ap (λ z. z ∷ filter test ys) (same_Some y x h))
        | false ↦ filter-first ys x
      ] first

  -- what stands before the first that passes, and after it
  pub find-parts : (xs : List X) (x : X) → find test xs ≡ Some x → (before : List X) × (after : List X) × (xs ≡ before ++ x ∷ after)
  find-parts [] x found = absurd (none-some x found)
  find-parts (y ∷ ys) x found =
      elim (test y) as (λ b. cond b (Some y) (find test ys) ≡ Some x → (before : List X) × (after : List X) × (y ∷ ys ≡ before ++ x ∷ after)) [
        | true ↦ λ h. ([], ys, ap (λ z. z ∷ ys) (same_Some y x h))
        | false ↦ λ h. let rest = find-parts ys x h in (y ∷ rest.0, rest.1, ap (λ zs. y ∷ zs) rest.2)
      ] found

  pub none_pass : (xs : List X) → find test xs ≡ None → filter test xs ≡ []
  none_pass [] none = refl
  none_pass (x ∷ xs) none =
      let later = none_later x xs none in
      λ i. cond (later.0 i) (x ∷ filter test xs) (none_pass xs later.1 i)

  pub filter-filter : (other : X → Bool) (xs : List X) → filter test (filter other xs) ≡ filter other (filter test xs)
  filter-filter other [] = refl
  filter-filter other (x ∷ xs) =
      elim (other x) as (λ a. other x ≡ a → filter test (cond a (x ∷ filter other xs) (filter other xs))
      ≡ filter other (cond (test x) (x ∷ filter test xs) (filter test xs))) [
        | true ↦ λ e. elim (test x) as (λ b. cond b (x ∷ filter test (filter other xs)) (filter test (filter other xs))
            ≡ filter other (cond b (x ∷ filter test xs) (filter test xs))) [
              | true ↦ (λ i. cond (sym e i) (x ∷ filter-filter other xs i) (filter-filter other xs i))
              | false ↦ filter-filter other xs
            ]
        | false ↦ λ e. filter-filter other xs ∙
            elim (test x) as (λ b. filter other (filter test xs) ≡ filter other (cond b (x ∷ filter test xs) (filter test xs))) [
              | true ↦ (λ i. cond (sym e i) (x ∷ filter other (filter test xs)) (filter other (filter test xs)))
              | false ↦ refl
            ]
      ] refl

  pub find-position_none : (xs : List X) → position test xs ≡ None → find test xs ≡ None
  find-position_none xs none = find_at test xs ∙ slice_get_past xs (position_or_len test xs) (grind (arith, nat_tests, common_steps))

  pub position_is : (xs : List X) (k : ℕ) → position test xs ≡ Some k → position_or_len test xs ≡ k
  position_is xs k at = (cond_some _ _ _ at).1

pub same_process : (p q : Pid) → nat_eq p.0 q.0 ≡ true → p ≡ q
same_process p q e = let n : p.0 ≡ q.0 = grind (arith, nat_tests) in λ i. record { 0 = n i }

pub same_number : (a : ℕ) → nat_eq a a ≡ true
same_number a = grind (arith, nat_tests)

pub turned : (a b : ℕ) → nat_eq a b ≡ nat_eq b a
turned a b = grind (arith, nat_tests)

next : (n : ℕ) → suc n ≡ 1 + n
next n = omega arith

or-false : (b : Bool) → b || false ≡ b
or-false true = refl
or-false false = refl

-- the earlier of two deadlines has come if one of them has
has_come-earlier : (now : Moment) (a b : Option Moment) → has_come now (earlier a b) ≡ has_come now a || has_come now b
has_come-earlier now None b = refl
has_come-earlier now (Some a) None = sym (or-false (nat_le a.0 now.0))
has_come-earlier now (Some a) (Some b) =
    elim (nat_le a.0 b.0) as (λ e. nat_le a.0 b.0 ≡ e → has_come now (cond e (Some a) (Some b)) ≡ nat_le a.0 now.0 || nat_le b.0 now.0) [
      | true ↦ λ e. first a.0 b.0 now.0 e
      | false ↦ λ e. second a.0 b.0 now.0 e
    ] refl
  where
    first : (a b n : ℕ) → nat_le a b ≡ true → nat_le a n ≡ nat_le a n || nat_le b n
    first a b n e = grind (arith, nat_tests)

    second : (a b n : ℕ) → nat_le a b ≡ false → nat_le b n ≡ nat_le a n || nat_le b n
    second a b n e = grind (arith, nat_tests)

module _ {O C : Type 0} where
  -- a call more, of a process that has none
  pub HaveDistinctPids-enter : (calls : List (Waiting O C)) (w : Waiting O C) → HaveDistinctPids calls → waiting_call_of w.pid calls ≡ None
      → HaveDistinctPids (calls ++ w ∷ [])
  HaveDistinctPids-enter [] w distinct free = (refl, tt)
  HaveDistinctPids-enter (v ∷ calls) w distinct free =
      let later = none_later (is_of w.pid) v calls free in
      let other = turned w.pid.0 v.pid.0 ∙ later.0 in
      let none = find-append (is_of v.pid) calls (w ∷ []) ∙ (λ i. option_or (distinct.0 i) (cond (other i) (Some w) None)) in
      (none, HaveDistinctPids-enter calls w distinct.1 later.1)

  -- some of the calls
  pub HaveDistinctPids-filter : (test : Waiting O C → Bool) (calls : List (Waiting O C)) → HaveDistinctPids calls → HaveDistinctPids (filter test calls)
  HaveDistinctPids-filter test [] distinct = tt
  HaveDistinctPids-filter test (w ∷ calls) distinct =
      elim (test w) as (λ b. HaveDistinctPids (cond b (w ∷ filter test calls) (filter test calls))) [
        | true ↦ (find-filter_none (is_of w.pid) test calls distinct.0, HaveDistinctPids-filter test calls distinct.1)
        | false ↦ HaveDistinctPids-filter test calls distinct.1
      ]

  -- the call of a process goes from its place
  without-place : (pid : Pid) (calls : List (Waiting O C)) → HaveDistinctPids calls → without pid calls ≡ remove calls (position_or_len (is_of pid) calls)
  without-place pid [] distinct = refl
  without-place pid (w ∷ calls) distinct =
      elim (is_of pid w) as (λ b. is_of pid w ≡ b → cond (not b) (w ∷ without pid calls) (without pid calls)
      ≡ remove (w ∷ calls) (cond (not b) (1 + position_or_len (is_of pid) calls) 0)) [
        | true ↦ λ e. filter-none (is_of pid) calls (subst (λ p. waiting_call_of p calls ≡ None) (same_process w.pid pid e) distinct.0)
        | false ↦ λ e. ap (λ ys. w ∷ ys) (without-place pid calls distinct.1) ∙ ap (remove (w ∷ calls)) (next (position_or_len (is_of pid) calls))
      ] refl

  -- what leaves, and what is left
  pub record Leaves (pid : Pid) (calls : List (Waiting O C)) (left : Waiting O C) (others : List (Waiting O C)) : Type 0 where
    pub call : Some left ≡ waiting_call_of pid calls
    pub rest : others ≡ without pid calls
    pub distinct : HaveDistinctPids others

  pub leaves : (pid : Pid) (calls : List (Waiting O C)) (place : ℕ) (left : Waiting O C) (others : List (Waiting O C)) → HaveDistinctPids calls
      → position (is_of pid) calls ≡ Some place → left ≡ get_or calls place left → others ≡ remove calls place → Leaves pid calls left others
  leaves pid calls place left others distinct at is rest =
      let here = position_is (is_of pid) calls place at in
      let within = (position-Some (is_of pid) calls place left at).0 in
      let same : others ≡ without pid calls = rest ∙ ap (remove calls) (sym here) ∙ sym (without-place pid calls distinct) in
      record {
        call = sym (slice_get_read calls (length calls) place left refl within is) ∙ ap (slice_get calls) (sym here) ∙ sym (find_at (is_of pid) calls);
        rest = same;
        distinct = subst HaveDistinctPids (sym same) (HaveDistinctPids-filter (λ w. not (is_of pid w)) calls distinct);
      }

  -- a call before it is of another process
  pub waiting_call_of-past : (v : Waiting O C) (calls : List (Waiting O C)) (q : Pid) (w : Waiting O C) → waiting_call_of v.pid calls ≡ None
      → waiting_call_of q calls ≡ Some w
      → waiting_call_of q (v ∷ calls) ≡ Some w
  waiting_call_of-past v calls q w none found =
      elim (is_of q v) as (λ b. is_of q v ≡ b → cond b (Some v) (waiting_call_of q calls) ≡ Some w) [
        | true ↦ λ e. absurd (none-some w (sym none ∙ ap (λ p. waiting_call_of p calls) (same_process v.pid q e) ∙ found))
        | false ↦ λ e. found
      ] refl

  -- a call at its place is its process's
  pub waiting_call_of-at : (calls : List (Waiting O C)) (k : ℕ) (w : Waiting O C) → HaveDistinctPids calls → slice_get calls k ≡ Some w
      → waiting_call_of w.pid calls ≡ Some w
  waiting_call_of-at [] k w distinct at = absurd (none-some w at)
  waiting_call_of-at (v ∷ calls) zero w distinct at =
      let same = ap (λ (u : Waiting O C). nat_eq v.pid.0 u.pid.0) (sym (same_Some v w at)) ∙ same_number v.pid.0 in
      ap (λ b. cond b (Some v) (waiting_call_of w.pid calls)) same ∙ at
  waiting_call_of-at (v ∷ calls) (suc k) w distinct at = waiting_call_of-past v calls w.pid w distinct.0 (waiting_call_of-at calls k w distinct.1 at)

  -- one of some deadlines or of the calls has come if the earliest has
  pub one_due : (now : Moment) (calls : List (Waiting O C)) (soonest : Option Moment)
      → has_come now (fold (λ s w. earlier s w.deadline) soonest calls) ≡ has_come now soonest || is_some (find (is_due now) calls)
  one_due now [] soonest = sym (or-false (has_come now soonest))
  one_due now (w ∷ calls) soonest =
      one_due now calls (earlier soonest w.deadline) ∙ ap (λ b. b || is_some (find (is_due now) calls)) (has_come-earlier now soonest w.deadline)
      ∙ either (has_come now soonest) (is_due now w)
    where
      either : (a b : Bool) → (a || b) || is_some (find (is_due now) calls) ≡ a || is_some (cond b (Some w) (find (is_due now) calls))
      either true b = refl
      either false true = refl
      either false false = refl

  -- if the earliest deadline has not come, none has
  pub none_due : (now : Moment) (calls : List (Waiting O C)) → has_come now (next_deadline calls) ≡ false → find (is_due now) calls ≡ None
  none_due now calls not =
      elim (find (is_due now) calls) as (λ r. is_some r ≡ false → r ≡ None) [
        | None ↦ λ h. refl
        | Some w ↦ λ h. absurd (true≢false h)
      ] (sym (one_due now calls None) ∙ not)
