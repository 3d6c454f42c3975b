-- What is noted of a list of operations: each that can be performed can be noted, at semaphores that are there.
use Rattle.std.proofs.Common.{◌≡◌, ◌≢◌, ◌∙◌, ℕ, zero, suc, ◌+◌, ◌<◌, ◌≤◌, ℤ, pos, negsuc, ◌-ℤ◌, Bool, true, false, cond, ◌&&◌, nat_eq}
use Rattle.std.proofs.Common.{List, [], ◌∷◌, Option, Some, None, length, take, get_or, All, refl, sym, ap, subst, arith}
use Rattle.std.specs.Prelude.{◌-◌, FitsSigned, if◌then◌else◌, is_some, nat_lt, option_map, unwrap_or, slice_index}
use Rattle.std.specs.FinMap as fin
use Rattle.std.specs.FinMap.{empty_of_len, get-empty, get-entries, find, len-insert, len-remove}
use Rattle.std.specs.Int.{w16}
use Rattle.std.specs.Ordering.{int_eq, is_eq}
use Rattle.std.proofs.lemmas.Int.{ints}
use Rattle.std.proofs.lemmas.List.{take_all}
use Rattle.std.specs.List.{fold}
use Rattle.std.proofs.lemmas.Bool.{eqb-true, eqb-false, lt-ltb}
use Rattle.std.proofs.lemmas.List.Elements.{All-head, All-tail}
use Rattle.ipc_limits.specs.declared.limits.Limits.{Limits}
use Rattle.ipc_limits.specs.Limits.{ArePassed}
use Rattle.ipc_base.specs.Table.{value_at}
use Rattle.ipc_base.proofs.CallerLemmas.{at-with, each-at, own, same_keys, twice}
use Rattle.ipc_limits.proofs.CallerLemmas.{passed-bounds}
use Rattle.sem_undo.specs.Undo.{Key, Undo, IsKept, IsSoundUndo, adjustment, key_cmp, most_rows, subtracted, with_adjustment}
use Rattle.sem_undo.proofs.CallerLemmas.{key_total, subtracted_each, subtracted_others, subtracted_there, with-sound}
use Rattle.sysv_sem.specs.declared.operation.Operation.{Operation}
use Rattle.sysv_sem.specs.declared.operation.Verdict.TheVariants.{Passes as Goes, Waits, OutOfRange}
use Rattle.sysv_sem.specs.Operation.{Done as IsDone, has_undo, is_adjustment}
use Rattle.sysv_sem.specs.Operation.{judged, performed, adjusted, outcome_from, unless_stopped}
use Rattle.sysv_sem.specs.Set.{Set, values_of}
use Rattle.sysv_sem.proofs.CallerLemmas.{adjustment-judged}
use Rattle.ipc_state.specs.Keyed.{Keyed, KeyedEntry}
use Rattle.ipc_state.specs.Numbered.{entry_of}
use Rattle.ipc_state.specs.Sound.{HasSoundParts, AreAt, has_semaphore}
use Rattle.ipc_state.specs.State.{State, is_process, undo_of, with_undo}
use Rattle.ipc_state.proofs.CallerLemmas.{few-at}
use Rattle.sysv_calls.specs.Relations.{CanBeNoted, CanNote, CanPass, IsReady, noted_by, one_if_kept}
use Rattle.sysv_sem.specs.Trial.{adjustment_of}
use Rattle.sysv_calls.specs.Semop.{held_by, noted}

-- ---- the adjustments of a process

module _ (s : State) (pid : ℕ) (there : value_at nat_eq s.undo pid ≡ Some (undo_of s pid)) where
  pub undo-kept : with_undo s pid (undo_of s pid) ≡ s
  undo-kept = ap (λ (undo : List (ℕ × Undo)). let t : State = record s { undo = undo } in t) (own s.undo pid (undo_of s pid) there)

  -- those that were put are there
  pub undo-now : (u : Undo) → undo_of (with_undo s pid u) pid ≡ u
  undo-now u = ap (λ (r : Option Undo). unwrap_or r fin.empty) (at-with s.undo pid u (undo_of s pid) there)

  pub undo-there : (u : Undo) → value_at nat_eq (with_undo s pid u).undo pid ≡ Some (undo_of (with_undo s pid u) pid)
  undo-there u = at-with s.undo pid u (undo_of s pid) there ∙ ap (λ (v : Undo). Some v) (sym (undo-now u))

pub undo-again : (s : State) (pid : ℕ) (u v : Undo) → with_undo (with_undo s pid u) pid v ≡ with_undo s pid v
undo-again s pid u v = ap (λ (undo : List (ℕ × Undo)). let t : State = record s { undo = undo } in t) (twice s.undo pid u v)

-- a process that is there has adjustments
pub process-undo : (limits : Limits) (s : State) (pid : ℕ) → HasSoundParts limits s → is_process s pid ≡ true
    → value_at nat_eq s.undo pid ≡ Some (undo_of s pid)
process-undo limits s pid sound process =
    by_value (value_at nat_eq s.undo pid) (same_keys s.undo s.processes.entries pid sound.undo.pids ∙ process)
  where
    by_value : (r : Option Undo) → is_some r ≡ true → r ≡ Some (unwrap_or r fin.empty)
    by_value None is = cc
    by_value (Some u) is = refl

-- ---- what can be noted

-- for adjustments at semaphores that are there, there is room
room : (limits : Limits) (s : State) → HasSoundParts limits s → ArePassed limits → (u : Undo) → AreAt s.semset u → fin.len u ≤ most_rows
room limits s sound passed u at = omega (arith, few-at limits s u sound at, (passed-bounds limits passed).semmns)

-- a semaphore of a set that is there
pub has-within : (sets : Keyed Set) (id num : ℕ) (e : KeyedEntry Set) → entry_of sets id ≡ Some e → num < length e.object.semaphores
    → has_semaphore sets (id, num) ≡ true
has-within sets id num e there within =
    ap (λ (r : Option (KeyedEntry Set)). unwrap_or (option_map (λ (f : KeyedEntry Set). nat_lt num (length f.object.semaphores)) r) false) there
    ∙ lt-ltb num (length e.object.semaphores) within

-- adjustments stay at semaphores that are there, if operations on such are noted
noted-at : (sets : Keyed Set) (id : ℕ) (u : Undo) (o : Operation) → has_semaphore sets (id, o.num) ≡ true → AreAt sets u → AreAt sets (noted id u o)
noted-at sets id u o has at =
    elim (has_undo o) as (λ b. AreAt sets (cond b (subtracted u (id, o.num) o.sem_op) u)) [
      | true ↦ subtracted_each (λ q. has_semaphore sets q ≡ true) u (id, o.num) o.sem_op has at
      | false ↦ at
    ]

pub noted-all : (sets : Keyed Set) (id : ℕ) (u : Undo) (ops : List Operation) → AreAt sets u → All (λ o. has_semaphore sets (id, o.num) ≡ true) ops
    → AreAt sets (fold (noted id) u ops)
noted-all sets id u [] at within = at
noted-all sets id u (o ∷ rest) at within =
    noted-all sets id (noted id u o) rest (noted-at sets id u o (All-head (λ o. has_semaphore sets (id, o.num) ≡ true) o rest within) at)
    (All-tail (λ o. has_semaphore sets (id, o.num) ≡ true) o rest within)

-- the adjustments of the definition are those that are noted
noted-adjusted : (id : ℕ) (u : Undo) (held : ℕ → ℤ) (o : Operation) → ((n : ℕ) → held n ≡ adjustment u (id, n)) → (n : ℕ)
    → adjusted held o n ≡ adjustment (noted id u o) (id, n)
noted-adjusted id u held o same n =
    elim (has_undo o) as (λ b. cond (b && nat_eq n o.num) (held n -ℤ o.sem_op) (held n) ≡ adjustment (cond b (subtracted u (id, o.num) o.sem_op) u) (id, n)) [
      | true ↦ elim (nat_eq n o.num) as (λ b. nat_eq n o.num ≡ b
          → cond b (held n -ℤ o.sem_op) (held n) ≡ adjustment (subtracted u (id, o.num) o.sem_op) (id, n)) [
            | true ↦ λ is. let here : n ≡ o.num = eqb-true n o.num is in
                ap (λ (a : ℤ). a -ℤ o.sem_op) (same n ∙ ap (λ (m : ℕ). adjustment u (id, m)) here) ∙ sym (subtracted_there u (id, o.num) o.sem_op)
                ∙ ap (λ (m : ℕ). adjustment (subtracted u (id, o.num) o.sem_op) (id, m)) (sym here)
            | false ↦ λ is. same n ∙ ap (λ (r : Option ℤ). unwrap_or r (pos 0)) (sym (subtracted_others u (id, o.num) (id, n) o.sem_op
                (λ one. eqb-false n o.num is (ap (λ (x : Key). x.1) one))))
          ] refl
      | false ↦ same n
    ]

-- if a list passes, the adjustments that are noted stay in their range, after so many of its operations
pub noted-kept-to : (count id at : ℕ) (values : List ℕ) (held : ℕ → ℤ) (ops : List Operation) (v : List ℕ) (a : ℕ → ℤ) (u : Undo)
    → outcome_from at values held ops ≡ IsDone v a → ((n : ℕ) → held n ≡ adjustment u (id, n)) → IsSoundUndo u
    → IsSoundUndo (fold (noted id) u (take count ops))
noted-kept-to zero id at values held [] v a u is same kept = kept
noted-kept-to zero id at values held (o ∷ rest) v a u is same kept = kept
noted-kept-to (suc count) id at values held [] v a u is same kept = kept
noted-kept-to (suc count) id at values held (o ∷ rest) v a u is same kept =
    elim (judged (slice_index values o.num) (held o.num) o) as (λ w. judged (slice_index values o.num) (held o.num) o ≡ w
    → unless_stopped w at (outcome_from (at + 1) (performed values o) (adjusted held o) rest) ≡ IsDone v a
    → IsSoundUndo (fold (noted id) (noted id u o) (take count rest))) [
      | Goes ↦ λ goes later. noted-kept-to count id (at + 1) (performed values o) (adjusted held o) rest v a (noted id u o) later
          (noted-adjusted id u held o same) (by_undo (has_undo o) refl goes)
      | Waits ↦ λ goes later. cc
      | OutOfRange ↦ λ goes later. cc
    ] refl is
  where
    by_undo : (b : Bool) → has_undo o ≡ b → judged (slice_index values o.num) (held o.num) o ≡ Goes
        → IsSoundUndo (cond b (subtracted u (id, o.num) o.sem_op) u)
    by_undo true undo goes =
        with-sound u (id, o.num) (adjustment u (id, o.num) -ℤ o.sem_op) (subst (λ (z : ℤ). is_adjustment (z -ℤ o.sem_op) ≡ true) (same o.num)
        (adjustment-judged (slice_index values o.num) (held o.num) o goes undo)) kept
    by_undo false undo goes = kept

-- and so after all
pub noted-kept : (id at : ℕ) (values : List ℕ) (held : ℕ → ℤ) (ops : List Operation) (v : List ℕ) (a : ℕ → ℤ) (u : Undo)
    → outcome_from at values held ops ≡ IsDone v a → ((n : ℕ) → held n ≡ adjustment u (id, n)) → IsSoundUndo u
    → IsSoundUndo (fold (noted id) u ops)
noted-kept id at values held ops v a u is same kept =
    subst (λ (l : List Operation). IsSoundUndo (fold (noted id) u l)) (take_all (length ops) ops (omega arith))
    (noted-kept-to (length ops) id at values held ops v a u is same kept)

-- ---- how many there are

-- an adjustment that is there is in its range, and not 0
found-kept : (es : List (Key × ℤ)) (k : Key) (a : ℤ) → All (λ e. IsKept e.1) es → find key_cmp k es ≡ Some a → IsKept a
found-kept [] k a all is = cc
found-kept (e ∷ es) k a all is =
    by_order (is_eq (key_cmp k e.0)) is (λ later. found-kept es k a (All-tail (λ (d : Key × ℤ). IsKept d.1) e es all) later)
  where
    by_order : (b : Bool) → cond b (Some e.1) (find key_cmp k es) ≡ Some a → (find key_cmp k es ≡ Some a → IsKept a) → IsKept a
    by_order true is rest = let same : e.1 ≡ a = cc in subst IsKept same (All-head (λ (d : Key × ℤ). IsKept d.1) e es all)
    by_order false is rest = rest is

zero_not : (a : ℤ) → a ≢ pos 0 → int_eq a (pos 0) ≡ false
zero_not a ne = grind (arith, ints)

module _ (u : Undo) (kept : IsSoundUndo u) where
  pub adjustment-kept : (k : Key) (a : ℤ) → fin.get u k ≡ Some a → IsKept a
  adjustment-kept k a is = found-kept (fin.entries u) k a kept (sym (get-entries u k) ∙ is)

  pub adjustment-fits : (k : Key) → FitsSigned w16 (adjustment u k)
  adjustment-fits k = by_value (fin.get u k) refl
    where
      by_value : (r : Option ℤ) → fin.get u k ≡ r → FitsSigned w16 (unwrap_or r (pos 0))
      by_value None is = grind (arith, ints)
      by_value (Some a) is = let range = (adjustment-kept k a is).1 in grind (arith, ints)

  -- with one that is not 0 there are some
  pub some-kept : (k : Key) → adjustment u k ≢ pos 0 → 0 < fin.len u
  some-kept k not_none = by_count (fin.len u) refl
    where
      by_count : (n : ℕ) → fin.len u ≡ n → 0 < n
      by_count zero none =
          absurd (not_none (ap (λ (v : Undo). adjustment v k) (empty_of_len u none) ∙ ap (λ (r : Option ℤ). unwrap_or r (pos 0)) (get-empty key_cmp k)))
      by_count (suc n) is = omega arith

  -- after an operation there is one more, or one less, or as many
  pub count-subtracted : (k : Key) (x : ℤ)
      → fin.len (subtracted u k x) + one_if_kept (adjustment u k) ≡ fin.len u + one_if_kept (adjustment u k -ℤ x)
  count-subtracted k x = by_zero (int_eq (adjustment u k -ℤ x) (pos 0))
    where
      removed : (r : Option ℤ) → fin.get u k ≡ r → fin.len (fin.remove u k) + one_if_kept (unwrap_or r (pos 0)) ≡ fin.len u + 0
      removed None is =
          let same = len-remove key_total u k ∙ ap (λ (o : Option ℤ). cond (is_some o) (fin.len u - 1) (fin.len u)) is in omega (arith, same)
      removed (Some a) is =
          let less = len-remove key_total u k ∙ ap (λ (o : Option ℤ). cond (is_some o) (fin.len u - 1) (fin.len u)) is in
          let not_none = (adjustment-kept k a is).0 in
          let some = some-kept k (λ none. not_none (sym (ap (λ (o : Option ℤ). unwrap_or o (pos 0)) is) ∙ none)) in
          let one : one_if_kept a ≡ 1 = ap (λ (b : Bool). if b then 0 else 1) (zero_not a not_none) in
          omega (arith, less, some, one)

      inserted : (r : Option ℤ) (a : ℤ) → fin.get u k ≡ r → fin.len (fin.insert u k a) + one_if_kept (unwrap_or r (pos 0)) ≡ fin.len u + 1
      inserted None a is =
          let more = len-insert key_total u k a ∙ ap (λ (o : Option ℤ). cond (is_some o) (fin.len u) (fin.len u + 1)) is in omega (arith, more)
      inserted (Some z) a is =
          let same = len-insert key_total u k a ∙ ap (λ (o : Option ℤ). cond (is_some o) (fin.len u) (fin.len u + 1)) is in
          let one : one_if_kept z ≡ 1 = ap (λ (b : Bool). if b then 0 else 1) (zero_not z (adjustment-kept k z is).0) in
          omega (arith, same, one)

      by_zero : (b : Bool) → fin.len (if b then fin.remove u k else fin.insert u k (adjustment u k -ℤ x)) + one_if_kept (adjustment u k)
          ≡ fin.len u + (if b then 0 else 1)
      by_zero true = removed (fin.get u k) refl
      by_zero false = inserted (fin.get u k) (adjustment u k -ℤ x) refl

-- those after so many operations of a list that passes
pub passed-kept : (s : State) (pid id : ℕ) (ops : List Operation) → CanPass s pid id ops → (count : ℕ) → IsSoundUndo (undo_of s pid)
    → IsSoundUndo (noted_by s pid id ops count)
passed-kept s pid id ops passes count kept =
    noted-kept-to count id 0 passes.values (held_by s pid id) ops passes.after passes.held (undo_of s pid) passes.done (λ n. refl) kept

-- an operation that is not undone is not noted
pub noted-undone : (id : ℕ) (u : Undo) (o : Operation) → has_undo o ≡ false → noted id u o ≡ u
noted-undone id u o none = ap (λ (b : Bool). cond b (subtracted u (id, o.num) o.sem_op) u) none

-- the adjustment at a semaphore after an operation
pub noted-one : (id : ℕ) (u : Undo) (o : Operation) (n : ℕ) → adjustment_of n (adjustment u (id, n)) o ≡ adjustment (noted id u o) (id, n)
noted-one id u o n = noted-adjusted id u (λ m. adjustment u (id, m)) o (λ m. refl) n

module _ (sets : Keyed Set) (id : ℕ) (e : KeyedEntry Set) (found : entry_of sets id ≡ Some e) (most : (u : Undo) → AreAt sets u → fin.len u ≤ most_rows) where
  -- for one more there is room: with it all would be at semaphores that are there
  few : (u : Undo) (k : Key) → has_semaphore sets k ≡ true → AreAt sets u → fin.get u k ≡ None → fin.len u < most_rows
  few u k there at none =
      let more : subtracted u k (pos 1) ≡ fin.insert u k (negsuc 0) = ap (λ (r : Option ℤ). with_adjustment u k (unwrap_or r (pos 0) -ℤ pos 1)) none in
      let all = most (subtracted u k (pos 1)) (subtracted_each (λ q. has_semaphore sets q ≡ true) u k (pos 1) there at) in
      let one = len-insert key_total u k (negsuc 0) ∙ ap (λ (r : Option ℤ). cond (is_some r) (fin.len u) (fin.len u + 1)) none in
      omega (arith, one, all, ap (λ (v : Undo). fin.len v) more)

  -- in a list that passes, each can be noted
  noted-each : (at : ℕ) (values : List ℕ) (held : ℕ → ℤ) (ops : List Operation) (v : List ℕ) (a : ℕ → ℤ) (u : Undo)
      → outcome_from at values held ops ≡ IsDone v a
      → ((n : ℕ) → held n ≡ adjustment u (id, n)) → All (λ o. o.num < length e.object.semaphores) ops → AreAt sets u
      → (k : ℕ) (d : Operation) → k < length ops → has_undo (get_or ops k d) ≡ true → CanNote id (fold (noted id) u (take k ops)) (get_or ops k d)
  noted-each at values held [] v a u is same within there k d low undo = absurd (omega (arith, low))
  noted-each at values held (o ∷ rest) v a u is same within there k d low undo =
      elim (judged (slice_index values o.num) (held o.num) o) as (λ w. judged (slice_index values o.num) (held o.num) o ≡ w
      → unless_stopped w at (outcome_from (at + 1) (performed values o) (adjusted held o) rest) ≡ IsDone v a
      → CanNote id (fold (noted id) u (take k (o ∷ rest))) (get_or (o ∷ rest) k d)) [
        | Goes ↦ λ goes later. by_place k low undo goes (noted-each (at + 1) (performed values o) (adjusted held o) rest v a (noted id u o) later
            (noted-adjusted id u held o same) (All-tail (λ (p : Operation). p.num < length e.object.semaphores) o rest within) (noted-at sets id u o has there))
        | Waits ↦ λ goes later. cc
        | OutOfRange ↦ λ goes later. cc
      ] refl is
    where
      has : has_semaphore sets (id, o.num) ≡ true
      has = has-within sets id o.num e found (All-head (λ (p : Operation). p.num < length e.object.semaphores) o rest within)

      by_place : (k : ℕ) → k < length (o ∷ rest) → has_undo (get_or (o ∷ rest) k d) ≡ true → judged (slice_index values o.num) (held o.num) o ≡ Goes
          → ((j : ℕ) (d : Operation) → j < length rest → has_undo (get_or rest j d) ≡ true
          → CanNote id (fold (noted id) (noted id u o) (take j rest)) (get_or rest j d))
          → CanNote id (fold (noted id) u (take k (o ∷ rest))) (get_or (o ∷ rest) k d)
      by_place zero low undo goes later =
          record {
            range = subst (λ (z : ℤ). is_adjustment (z -ℤ o.sem_op) ≡ true) (same o.num)
                (adjustment-judged (slice_index values o.num) (held o.num) o goes undo);
            few = few u (id, o.num) has there;
          }
      by_place (suc k) low undo goes later = later k d (omega (arith, low)) undo

-- a list that may be performed can be noted
pub ready-noted : (limits : Limits) (s : State) (pid id : ℕ) (ops : List Operation) → HasSoundParts limits s → IsReady limits s pid id ops
    → CanBeNoted s pid id ops
ready-noted limits s pid id ops sound ready =
    let there = process-undo limits s pid sound ready.process in
    let e = ready.found.0.0 in
    let p = ready.found.1 in
    let at = each-at (AreAt s.semset) s.undo pid (undo_of s pid) sound.undo.each there in
    record {
      there = there;
      each = noted-each s.semset id e p.there (room limits s sound ready.passed)
          0 (values_of e.object) (held_by s pid id) ops ready.found.0.1 p.done.0 (undo_of s pid) p.done.1 (λ n. refl) p.within at;
    }
