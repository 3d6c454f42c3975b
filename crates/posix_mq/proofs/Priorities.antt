-- The oldest message of the greatest priority.
use Rattle.std.proofs.Common.{◌≡◌, ◌==◌, ℕ, suc, ◌<◌, ◌≤◌, Bool, true, false, not, cond, nat_lt, nat_le, inl, inr}
use Rattle.std.proofs.Common.{List, [], ◌∷◌, length, get_or, map, All, Contains, Some, None, refl, ap, sym, ◌∙◌, true≢false, arith}
use Rattle.std.specs.List.{position, prefix_len}
use Rattle.std.specs.Prelude.{IsSome}
use Rattle.std.proofs.Math.Nat.{eq-or-lt_of_le}
use Rattle.std.proofs.lemmas.Bool.{cases_lt}
use Rattle.std.proofs.lemmas.Bool.Decides.{nat_tests}
use Rattle.std.proofs.lemmas.List.{length-map, get_or-map}
use Rattle.std.proofs.lemmas.List.Elements.{All-nil, All-cons}
use Rattle.std.proofs.lemmas.List.Folds.{list_all_at, list_all-map}
use Rattle.std.proofs.lemmas.List.Sums.{prefix_len_passes, list_all-from_AllPass, AllPass-from_list_all}
use Rattle.ipc_arrivals.proofs.CallerLemmas.{position-seen, position_same}
use Rattle.posix_mq.specs.declared.message.Message.{Message}
use Rattle.posix_mq.specs.Queue.{PlainMessage, plain, is_of_greatest_priority, next_to_receive}

-- if an element passes there is a position
position-some : {X : Type 0} (p : X → Bool) (xs : List X) (k : ℕ) (d : X) → k < length xs → p (get_or xs k d) ≡ true → IsSome (position p xs)
position-some p xs k d inside passes =
    elim (nat_lt (prefix_len (λ x. not (p x)) xs) (length xs)) as (λ b. nat_lt (prefix_len (λ x. not (p x)) xs) (length xs) ≡ b
    → IsSome (cond b (Some (prefix_len (λ x. not (p x)) xs)) None)) [
      | true ↦ λ h. refl
      | false ↦ λ h.
          let before : k < prefix_len (λ x. not (p x)) xs = grind (arith, nat_tests) in
          absurd (true≢false (sym (prefix_len_passes (λ x. not (p x)) xs k d before) ∙ ap not passes))
    ] refl

-- ---- tests of priorities

le_true : (n k : ℕ) → n ≤ k → nat_le n k ≡ true
le_true n k h = grind (arith, nat_tests)

le_false : (n k : ℕ) → k < n → nat_le n k ≡ false
le_false n k h = grind (arith, nat_tests)

true_le : (n k : ℕ) → nat_le n k ≡ true → n ≤ k
true_le n k h = grind (arith, nat_tests)

eq_true : (n k : ℕ) → n ≡ k → n == k ≡ true
eq_true n k h = grind (arith, nat_tests)

eq_false : (n k : ℕ) → n < k → n == k ≡ false
eq_false n k h = grind (arith, nat_tests)

-- a message is of the greatest priority if no other has a greater one
is_greatest : (ms : List PlainMessage) (m : PlainMessage) → All (λ o. o.priority ≤ m.priority) ms → is_of_greatest_priority ms m ≡ true
is_greatest ms m above = list_all-from_AllPass (λ o. nat_le o.priority m.priority) ms (λ k d h. le_true _ _ (above k d h))

-- and only if
pub greatest_above : (ms : List PlainMessage) (m : PlainMessage) → is_of_greatest_priority ms m ≡ true → All (λ o. o.priority ≤ m.priority) ms
greatest_above ms m is k d h = true_le _ _ (AllPass-from_list_all (λ o. nat_le o.priority m.priority) ms is k d h)

-- what is not of the greatest priority is below what is
pub below_greatest : (ms : List PlainMessage) (m greatest : PlainMessage) → is_of_greatest_priority ms greatest ≡ true
    → is_of_greatest_priority ms m ≡ false → m.priority < greatest.priority
below_greatest ms m greatest is isnt =
    elim (cases_lt m.priority greatest.priority) as (λ _. m.priority < greatest.priority) [
      | inl below ↦ below
      | inr above ↦
          let all : All (λ (o : PlainMessage). o.priority ≤ m.priority) ms = λ k d h. let le = greatest_above ms greatest is k d h in omega arith in
          absurd (true≢false (sym (is_greatest ms m all) ∙ isnt))
    ]

-- ---- what the code finds

same_test : (ms : List Message) (greatest : ℕ) (m : Message) → All (λ o. o.priority ≤ greatest) ms → Contains (map (λ o. o.priority) ms) greatest
    → m.priority ≤ greatest → (m.priority == greatest) ≡ is_of_greatest_priority (map plain ms) (plain m)
same_test ms greatest m above found within =
    elim (eq-or-lt_of_le within) as (λ _. (m.priority == greatest) ≡ is_of_greatest_priority (map plain ms) (plain m)) [
      | inl e ↦
          eq_true _ _ e
          ∙ sym (list_all-map (λ o. nat_le o.priority m.priority) plain ms
          ∙ list_all-from_AllPass (λ o. nat_le o.priority m.priority) ms (λ k d h. let le = above k d h in le_true _ _ (omega arith)))
      | inr below ↦
          let inside : found.0 < length ms = omega (arith, found.1, length-map ms (λ o. o.priority)) in
          let there : (get_or ms found.0 m).priority ≡ greatest = sym (get_or-map (λ o. o.priority) ms found.0 m greatest inside) ∙ found.2 in
          eq_false _ _ below
          ∙ sym (list_all-map (λ o. nat_le o.priority m.priority) plain ms
          ∙ list_all_at (λ o. nat_le o.priority m.priority) ms found.0 m inside (le_false _ _ (omega arith)))
    ]

-- the first message of the greatest priority there is is the one that a receive takes
pub greatest_position : (ms : List Message) (greatest : ℕ) → All (λ m. m.priority ≤ greatest) ms
    → Contains (map (λ m. m.priority) ms) greatest
    → position (λ m. m.priority == greatest) ms ≡ next_to_receive (map plain ms)
greatest_position ms greatest above found =
    position_same (λ m. m.priority == greatest) (λ m. is_of_greatest_priority (map plain ms) (plain m)) ms
    (λ k d h. same_test ms greatest (get_or ms k d) above found (above k d h))
    ∙ sym (position-seen (is_of_greatest_priority (map plain ms)) plain ms)

-- ---- there is one

some_greatest : (d m : PlainMessage) (ms : List PlainMessage)
    → (k : ℕ) × (k < length (m ∷ ms)) × (All (λ (o : PlainMessage). o.priority ≤ (get_or (m ∷ ms) k d).priority) (m ∷ ms))
some_greatest d m [] = (0, omega arith, All-cons (λ o. o.priority ≤ m.priority) m [] (omega arith) (All-nil (λ o. o.priority ≤ m.priority)))
some_greatest d m (n ∷ ms) =
    let rest = some_greatest d n ms in
    let top : PlainMessage = get_or (n ∷ ms) rest.0 d in
    elim (cases_lt m.priority top.priority) [
      | inl below ↦ (suc rest.0, omega arith, All-cons (λ o. o.priority ≤ top.priority) m (n ∷ ms) (omega arith) rest.2)
      | inr above ↦ (
        0,
        omega arith,
        All-cons (λ o. o.priority ≤ m.priority) m (n ∷ ms) (omega arith)
            (λ k e h. let le = rest.2 k e h in omega arith),
      )
    ]

-- if there is a message one is taken
pub next-some : (ms : List PlainMessage) → 0 < length ms → IsSome (next_to_receive ms)
next-some [] h = absurd (omega arith)
next-some (m ∷ ms) h =
    let found = some_greatest m m ms in
    position-some (is_of_greatest_priority (m ∷ ms)) (m ∷ ms) found.0 m found.1 (is_greatest (m ∷ ms) (get_or (m ∷ ms) found.0 m) found.2)
