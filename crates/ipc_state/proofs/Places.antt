-- What has a number, found and changed at its place in a list.
use Rattle.std.proofs.Common.{◌≡◌, ℕ, Bool, true, false, cond, List, [], ◌∷◌, Option, Some, None, refl, ap}
use Rattle.std.specs.Prelude.{nat_eq, position}
use Rattle.ipc_base.specs.Table.{value_at, with_value}
use Rattle.ipc_state.specs.declared.numbered.Item.{Item}

-- the place of the one that has the number
abbrev pub place_of : {T : Type 0} → List (Item T) → ℕ → Option ℕ
place_of {T} items n = position (λ (e : Item T). nat_eq e.number n) items

-- another at a number that is not there changes nothing
pub with-none : {X : Type 0} (es : List (ℕ × X)) (n : ℕ) (x : X) → value_at nat_eq es n ≡ None → with_value nat_eq es n x ≡ es
with-none [] n x none = refl
with-none {X} (e ∷ es) n x none = by_test (nat_eq e.0 n) none (with-none es n x)
  where
    by_test : (b : Bool) → cond b (Some e.1) (value_at nat_eq es n) ≡ None → (value_at nat_eq es n ≡ None → with_value nat_eq es n x ≡ es)
        → cond b ((e.0, x) ∷ es) (e ∷ with_value nat_eq es n x) ≡ e ∷ es
    by_test true none rest = cc
    by_test false none rest = ap (λ (fs : List (ℕ × X)). e ∷ fs) (rest none)
