-- Semaphores as bits of a word: those that a list names, and those that another one shares no bit with.
use Rattle.std.proofs.Common.{◌≡◌, ◌≢◌, ◌∙◌, ℕ, List, [], ◌∷◌, ap, sym, arith, min, max}
use Rattle.std.specs.Prelude.{All, bit_and, bit_or, ◌%◌}
use Rattle.std.specs.Int.{bit_at}
use Rattle.std.specs.Int.Bits.{and_self}
use Rattle.std.specs.List.{fold}
use Rattle.std.proofs.lemmas.List.Elements.{All-nil, All-cons, All-weaker}
use Rattle.std.proofs.lemmas.Nat.{and_comm, pow_pos}
use Rattle.std.proofs.lemmas.Nat.Bits.{bit_at_and, bit_at_or, bit_at-zero, same_from_bits}
use Rattle.ipc_wire.specs.declared.sem_bufs.SemBuf.{SemBuf}
use Rattle.ipc_state.specs.Bits.{bit_of, bits_of, with_bit}

-- two words share no bit
abbrev pub AreApart : ℕ → ℕ → Type 0
AreApart a b = bit_and a b ≡ 0

-- what shares none with both shares none with either
module _ (a b w : ℕ) (apart : AreApart (bit_or a b) w) where
  bits : (i : ℕ) → min (max (bit_at a i) (bit_at b i)) (bit_at w i) ≡ 0
  bits i =
      ap (λ (n : ℕ). min n (bit_at w i)) (sym (bit_at_or a b i)) ∙ sym (bit_at_and (bit_or a b) w i) ∙ ap (λ (n : ℕ). bit_at n i) apart ∙ bit_at-zero i

  pub first-apart : AreApart a w
  first-apart = same_from_bits (bit_and a w) 0 (λ i. omega (arith, bits i, bit_at_and a w i, bit_at-zero i))

  pub second-apart : AreApart b w
  second-apart = same_from_bits (bit_and b w) 0 (λ i. omega (arith, bits i, bit_at_and b w i, bit_at-zero i))

-- a list that shares none with a word names none of its semaphores
pub named-apart : (operations : List SemBuf) (word : ℕ) → AreApart (bits_of operations) word → All (λ o. AreApart (bit_of o.num) word) operations
named-apart operations word apart = (from 0 operations apart).1
  where
    P : SemBuf → Type 0
    P o = AreApart (bit_of o.num) word

    from : (seen : ℕ) (os : List SemBuf) → AreApart (fold with_bit seen os) word → AreApart seen word × All P os
    from seen [] none = (none, All-nil P)
    from seen (o ∷ os) none =
        let rest = from (with_bit seen o) os none in
        (first-apart seen (bit_of o.num) word rest.0, All-cons P o os (second-apart seen (bit_of o.num) word rest.0) rest.1)

-- a semaphore that shares none with another is another
pub other-bit : (num other : ℕ) → AreApart (bit_of num) (bit_of other) → num ≢ other
other-bit num other apart same =
    let none : bit_of num ≡ 0 = sym (and_self (bit_of num)) ∙ ap (λ (n : ℕ). bit_and (bit_of num) (bit_of n)) same ∙ apart in
    absurd (omega (arith, none, pow_pos (num % 64)))

-- and it is named by no list with which it shares none
pub unnamed : (num : ℕ) (operations : List SemBuf) → AreApart (bit_of num) (bits_of operations) → All (λ o. o.num ≢ num) operations
unnamed num operations apart =
    All-weaker (λ o. AreApart (bit_of o.num) (bit_of num)) (λ o. o.num ≢ num) (λ o. other-bit o.num num) operations
    (named-apart operations (bit_of num) (and_comm (bits_of operations) (bit_of num) ∙ apart))
