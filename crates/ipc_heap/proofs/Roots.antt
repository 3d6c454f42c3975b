-- A root's bytes say what was written there.
use Rattle.std.proofs.Common.{◌≡◌, ℕ, ◌<◌, ◌^◌, List, ◌++◌, length, take, drop, sym, ◌∙◌, ap, append_assoc, arith}
use Rattle.std.proofs.lemmas.List.{take_at, drop_at, length-append}
use Rattle.byteorder.specs.Endian.{big_bytes, big_number}
use Rattle.byteorder.specs.Numbers.{big_from-take, big_number-reads_back, length-bytes_high_first}
use Rattle.ipc_heap.specs.Heap.{epoch_in, first_in, len_in}
use Rattle.ipc_heap.specs.Relations.Root.{IsRead}

-- a number is written after the bytes before a place
pub put_behind : (front left old part number tail post : List ℕ) (at : ℕ) → length front ≡ at → old ≡ front ++ left → part ≡ number ++ tail
    → take at old ++ (part ++ post) ≡ (front ++ number) ++ (tail ++ post)
put_behind front left old part number tail post at long was is =
    ap (λ (l : List ℕ). l ++ (part ++ post)) (ap (take at) was ∙ take_at front left at long)
    ∙ ap (λ (l : List ℕ). front ++ (l ++ post)) is ∙ ap (λ (l : List ℕ). front ++ l) (append_assoc number tail post)
    ∙ sym (append_assoc front number (tail ++ post))

module _ (epoch first len : ℕ) (sector rest : List ℕ) (e-fits : epoch < 2 ^ 64) (f-fits : first < 2 ^ 32) (n-fits : len < 2 ^ 32)
    (is : sector ≡ ((big_bytes 8 epoch ++ big_bytes 4 first) ++ big_bytes 4 len) ++ rest) where
  both : length (big_bytes 8 epoch ++ big_bytes 4 first) ≡ 12
  both = omega (arith, length-append (big_bytes 8 epoch) (big_bytes 4 first), length-bytes_high_first 8 epoch, length-bytes_high_first 4 first)

  apart : sector ≡ (big_bytes 8 epoch ++ big_bytes 4 first) ++ (big_bytes 4 len ++ rest)
  apart = is ∙ append_assoc (big_bytes 8 epoch ++ big_bytes 4 first) (big_bytes 4 len) rest

  pub written-root : IsRead sector (record { epoch = epoch; first = first; len = len })
  unfolding epoch_in first_in len_in
  written-root =
      let all : sector ≡ big_bytes 8 epoch ++ (big_bytes 4 first ++ (big_bytes 4 len ++ rest)) =
      apart ∙ append_assoc (big_bytes 8 epoch) (big_bytes 4 first) (big_bytes 4 len ++ rest) in
      record {
        epoch = ap (big_number 8) all ∙ big_number-reads_back 8 epoch (big_bytes 4 first ++ (big_bytes 4 len ++ rest)) (omega arith);
        first = ap (λ (l : List ℕ). big_number 4 (drop 8 l)) all
            ∙ ap (big_number 4) (drop_at (big_bytes 8 epoch) (big_bytes 4 first ++ (big_bytes 4 len ++ rest)) 8 (length-bytes_high_first 8 epoch))
            ∙ big_number-reads_back 4 first (big_bytes 4 len ++ rest) (omega arith);
        len = ap (λ (l : List ℕ). big_number 4 (drop 12 l)) apart
            ∙ ap (big_number 4) (drop_at (big_bytes 8 epoch ++ big_bytes 4 first) (big_bytes 4 len ++ rest) 12 both)
            ∙ big_number-reads_back 4 len rest (omega arith);
      }

-- what is read of a root
pub read-root : (sector : List ℕ) (epoch first len : ℕ) → epoch ≡ big_number 8 sector → first ≡ big_number 4 (take 504 (drop 8 sector))
    → len ≡ big_number 4 (take 500 (drop 12 sector)) → IsRead sector (record { epoch = epoch; first = first; len = len })
unfolding epoch_in first_in len_in
read-root sector epoch first len e f n = record {
  epoch = sym e;
  first = sym (big_from-take 0 4 504 (drop 8 sector) (omega arith)) ∙ sym f;
  len = sym (big_from-take 0 4 500 (drop 12 sector) (omega arith)) ∙ sym n;
}
