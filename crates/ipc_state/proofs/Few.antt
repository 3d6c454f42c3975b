-- A process has no more adjustments than there are semaphores: each is at one that is there.
use Rattle.std.proofs.Common.{◌≡◌, ◌≢◌, ℕ, zero, suc, ◌+◌, ◌<◌, ◌≤◌, ℤ, Bool, true, false, not, cond, List, [], ◌∷◌, Option, Some, None, length}
use Rattle.std.proofs.Common.{refl, sym, ap, ◌∙◌, arith}
use Rattle.std.specs.Prelude.{is_some, nat_eq, sum_by, ◌-◌}
use Rattle.std.specs.FinMap as fin
use Rattle.std.specs.FinMap.{same_map, get-remove, get-empty, len-remove, len-empty}
use Rattle.std.specs.Cmp.{tied_itself}
use Rattle.std.specs.Ordering.{is_eq, eq_by_cmp}
use Rattle.std.specs.declared.cmp.Ordering.{Ordering}
use Rattle.std.specs.declared.cmp.Ordering.TheVariants.{Less, Equal, Greater}
use Rattle.std.proofs.lemmas.Bool.Decides.{nat_tests}
use Rattle.std.proofs.lemmas.List.Sums.{sum_by-cons}
use Rattle.ipc_base.specs.Table.{value_at, EachValue}
use Rattle.sem_undo.specs.Undo.{Key, Undo, key_cmp, without_set}
use Rattle.sem_undo.proofs.CallerLemmas.{key_total, key_apart, retained}
use Rattle.sysv_sem.specs.Set.{Set}
use Rattle.ipc_state.specs.Keyed.{KeyedEntry, Keyed}
use Rattle.ipc_state.specs.Sound.{AreAt, semaphore_count}
use Rattle.ipc_state.proofs.Adjusting.{holds, cleared-apart}

-- without the one at a key there is one less at most
one-less : (u : Undo) (k : Key) → fin.len u ≤ fin.len (fin.remove u k) + 1
one-less u k = by_test (fin.contains_key u k) (len-remove key_total u k)
  where
    by_test : (b : Bool) → fin.len (fin.remove u k) ≡ cond b (fin.len u - 1) (fin.len u) → fin.len u ≤ fin.len (fin.remove u k) + 1
    by_test true is = omega (arith, is)
    by_test false is = omega (arith, is)

is-equal : (r : Ordering) → is_eq r ≡ true → r ≡ Equal
is-equal Less is = cc
is-equal Equal is = refl
is-equal Greater is = cc

-- a key is that of its parts
tied : (k : Key) (id n : ℕ) → k.0 ≡ id → k.1 ≡ n → eq_by_cmp key_cmp k (id, n) ≡ true
tied k id n at same = ap is_eq ((λ i. key_cmp k (sym at i, sym same i)) ∙ tied_itself key_total k)

-- the adjustments at the semaphores of a set below a number are no more than that
stripped : (id n : ℕ) (u : Undo) → ((k : Key) → is_some (fin.get u k) ≡ true → k.0 ≡ id → k.1 < n) → fin.len u ≤ fin.len (without_set id u) + n
stripped id zero u below =
    omega (
      arith,
      ap fin.len (same_map key_total key_apart (without_set id u) u (λ q. retained u (λ k. not (nat_eq k.0 id)) q
          ∙ kept q (nat_eq q.0 id) refl (fin.get u q) refl)),
    )
  where
    kept : (q : Key) (b : Bool) → nat_eq q.0 id ≡ b → (r : Option ℤ) → fin.get u q ≡ r → cond (not b) r None ≡ r
    kept q false eq r is = refl
    kept q true eq None is = refl
    kept q true eq (Some a) is = absurd (let low = below q (ap is_some is) (grind (arith, nat_tests)) in omega (arith, low))
stripped id (suc n) u below =
    let one = fin.remove u (id, n) in
    let same : without_set id one ≡ without_set id u = same_map key_total key_apart (without_set id one) (without_set id u) (λ q.
    retained one (λ k. not (nat_eq k.0 id)) q ∙ ap (λ r. cond (not (nat_eq q.0 id)) r None) (get-remove key_total u (id, n) q)
    ∙ gone q (nat_eq q.0 id) refl (eq_by_cmp key_cmp q (id, n)) refl ∙ sym (retained u (λ k. not (nat_eq k.0 id)) q)) in
    let less = stripped id n one (λ k there at. lower k (eq_by_cmp key_cmp k (id, n)) refl (ap is_some (sym (get-remove key_total u (id, n) k)) ∙ there) at) in
    omega (arith, one-less u (id, n), less, ap fin.len same)
  where
    gone : (q : Key) (b : Bool) → nat_eq q.0 id ≡ b → (e : Bool) → eq_by_cmp key_cmp q (id, n) ≡ e
        → cond (not b) (cond e None (fin.get u q)) None ≡ cond (not b) (fin.get u q) None
    gone q true eq e is = refl
    gone q false eq false is = refl
    gone q false eq true is = absurd (let at = ap (λ (k : Key). k.0) (key_apart q (id, n) (is-equal (key_cmp q (id, n)) is)) in grind (arith, nat_tests))

    lower : (k : Key) (e : Bool) → eq_by_cmp key_cmp k (id, n) ≡ e → is_some (cond e None (fin.get u k)) ≡ true → k.0 ≡ id → k.1 < n
    lower k true is there at = cc
    lower k false is there at =
        let other : k.1 ≢ n = λ same. let yes = tied k id n at same in cc in
        let low = below k there at in
        omega (arith, low, other)

-- those of all these sets
pub covered : (es : List (ℕ × KeyedEntry Set)) (u : Undo) → ((k : Key) → is_some (fin.get u k) ≡ true → holds (value_at nat_eq es k.0) k.1 ≡ true)
    → fin.len u ≤ sum_by (λ e. length e.1.object.semaphores) es
covered [] u all =
    omega (arith, ap fin.len (same_map key_total key_apart u fin.empty (λ q. none q (fin.get u q) refl ∙ sym (get-empty key_cmp q))), len-empty key_cmp ℤ)
  where
    none : (q : Key) (r : Option ℤ) → fin.get u q ≡ r → r ≡ None
    none q None is = refl
    none q (Some a) is = let there = all q (ap is_some is) in cc
covered (e ∷ es) u all =
    let rest = covered es (without_set e.0 u) (λ k there. later k (nat_eq e.0 k.0) refl (cleared-apart e.0 u k there) (all k (was k there))) in
    let here = stripped e.0 (length e.1.object.semaphores) u (λ k there at. own k (nat_eq e.0 k.0) refl at (all k there)) in
    omega (arith, here, rest, sum_by-cons (λ (f : ℕ × KeyedEntry Set). length f.1.object.semaphores) e es)
  where
    was : (k : Key) → is_some (fin.get (without_set e.0 u) k) ≡ true → is_some (fin.get u k) ≡ true
    was k there = kept _ (ap is_some (sym (retained u (λ q. not (nat_eq q.0 e.0)) k)) ∙ there)
      where
        kept : (b : Bool) → is_some (cond b (fin.get u k) None) ≡ true → is_some (fin.get u k) ≡ true
        kept true is = is
        kept false is = cc

    later : (k : Key) (b : Bool) → nat_eq e.0 k.0 ≡ b → (k.0 ≡ e.0 → ⊥) → holds (cond b (Some e.1) (value_at nat_eq es k.0)) k.1 ≡ true
        → holds (value_at nat_eq es k.0) k.1 ≡ true
    later k true eq apart is = absurd (apart (grind (arith, nat_tests)))
    later k false eq apart is = is

    own : (k : Key) (b : Bool) → nat_eq e.0 k.0 ≡ b → k.0 ≡ e.0 → holds (cond b (Some e.1) (value_at nat_eq es k.0)) k.1 ≡ true
        → k.1 < length e.1.object.semaphores
    own k true eq at is = grind (arith, nat_tests)
    own k false eq at is = absurd (grind (arith, nat_tests))

-- each process has no more than there are semaphores
pub few-each : (o : Keyed Set) (undo : List (ℕ × Undo)) → EachValue (AreAt o) undo → EachValue (λ (u : Undo). fin.len u ≤ semaphore_count o) undo
few-each o [] h = tt
few-each o (p ∷ ps) h = (covered o.entries p.1 h.0, few-each o ps h.1)

pub each-fewer : (most n : ℕ) → n ≤ most → (undo : List (ℕ × Undo)) → EachValue (λ (u : Undo). fin.len u ≤ n) undo
    → EachValue (λ (u : Undo). fin.len u ≤ most) undo
each-fewer most n few [] h = tt
each-fewer most n few (p ∷ ps) h = (omega (arith, few, h.0), each-fewer most n few ps h.1)
