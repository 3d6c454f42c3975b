-- Operations of which none names a semaphore leave its value and its adjustment.
use Rattle.std.proofs.Common.{◌≡◌, ◌∙◌, ℕ, ℤ, ◌*◌, ◌<◌, ◌⊎◌, inl, inr, ◌-ℤ◌, Bool, true, false, ◌&&◌, cond, nat_eq, List, [], ◌∷◌, All, refl, sym, ap, arith}
use Rattle.std.specs.Prelude.{bit_and, bit_or, ◌%◌}
use Rattle.std.specs.Int.{bit_at}
use Rattle.std.specs.List.{fold}
use Rattle.std.proofs.lemmas.Bool.{eqb-true}
use Rattle.std.proofs.lemmas.List.Elements.{All-head, All-tail, All-weaker}
use Rattle.std.proofs.lemmas.Nat.{pow_pos}
use Rattle.std.proofs.lemmas.Nat.Bits.{and_pow, bit_at-lt, bit_at-pow_same, bit_at_or}
use Rattle.sysv_sem.specs.declared.operation.Operation.{Operation}
use Rattle.sysv_sem.specs.Bits.{AreNamed, bit_of}
use Rattle.sysv_sem.specs.Operation.{has_undo, value_after}
use Rattle.sysv_sem.specs.Trial.{adjustment_of, value_of}

zero-or-one : (n : ℕ) → n < 2 → (n ≡ 0) ⊎ (n ≡ 1)
zero-or-one n two = grind arith

zero-of : (n p : ℕ) → n < 2 → n * p ≡ 0 → 0 < p → n ≡ 0
zero-of n p two none some =
    elim (zero-or-one n two) [
      | inl is ↦ is
      | inr is ↦ let one : 1 * p ≡ 0 = ap (λ (m : ℕ). m * p) (sym is) ∙ none in absurd (omega (arith, one, some))
    ]

module _ (num : ℕ) where
  abbrev pub NoneNames : List Operation → Type 0
  NoneNames = All (λ (o : Operation). nat_eq num o.num ≡ false)

  -- a word without its bit has the bits of other semaphores alone
  pub none-names : (word : ℕ) (os : List Operation) → bit_and word (bit_of num) ≡ 0 → AreNamed word os → NoneNames os
  none-names word os free all = All-weaker (λ (o : Operation). bit_at word (o.num % 64) ≡ 1) (λ (o : Operation). nat_eq num o.num ≡ false) other os all
    where
      clear : bit_at word (num % 64) ≡ 0
      clear = zero-of _ _ (bit_at-lt word (num % 64)) (sym (and_pow word (num % 64)) ∙ free) (pow_pos (num % 64))

      other : (o : Operation) → bit_at word (o.num % 64) ≡ 1 → nat_eq num o.num ≡ false
      other o set = by_test (nat_eq num o.num) refl
        where
          by_test : (b : Bool) → nat_eq num o.num ≡ b → b ≡ false
          by_test false is = refl
          by_test true is =
              let one : bit_at word (num % 64) ≡ 1 = ap (λ (n : ℕ). bit_at word (n % 64)) (eqb-true num o.num is) ∙ set in
              absurd (omega (arith, one, clear))

  pub unnamed-value : (os : List Operation) → NoneNames os → (v : ℕ) → fold (value_of num) v os ≡ v
  unnamed-value [] none v = refl
  unnamed-value (o ∷ os) none v =
      unnamed-value os (All-tail (λ (p : Operation). nat_eq num p.num ≡ false) o os none) (value_of num v o)
      ∙ ap (λ (b : Bool). cond b (value_after v o.sem_op) v) (All-head (λ (p : Operation). nat_eq num p.num ≡ false) o os none)

  pub unnamed-adjustment : (os : List Operation) → NoneNames os → (a : ℤ) → fold (adjustment_of num) a os ≡ a
  unnamed-adjustment [] none a = refl
  unnamed-adjustment (o ∷ os) none a =
      unnamed-adjustment os (All-tail (λ (p : Operation). nat_eq num p.num ≡ false) o os none) (adjustment_of num a o)
      ∙ (ap (λ (b : Bool). cond (has_undo o && b) (a -ℤ o.sem_op) a) (All-head (λ (p : Operation). nat_eq num p.num ≡ false) o os none) ∙ by_undo (has_undo o))
    where
      by_undo : (u : Bool) → cond (u && false) (a -ℤ o.sem_op) a ≡ a
      by_undo true = refl
      by_undo false = refl

-- a word with one bit more has the bits that it had, and that one
pub still-named : (word bit num : ℕ) → bit_at word (num % 64) ≡ 1 → bit_at (bit_or word bit) (num % 64) ≡ 1
still-named word bit num named = omega (arith, bit_at_or word bit (num % 64), named, bit_at-lt bit (num % 64))

pub now-named : (word bit num : ℕ) → bit ≡ bit_of num → bit_at (bit_or word bit) (num % 64) ≡ 1
now-named word bit num is =
    let own : bit_at bit (num % 64) ≡ 1 = ap (λ (n : ℕ). bit_at n (num % 64)) is ∙ bit_at-pow_same (num % 64) in
    omega (arith, bit_at_or word bit (num % 64), own, bit_at-lt word (num % 64))
