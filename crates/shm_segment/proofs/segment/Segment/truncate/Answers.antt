use Rattle.std.proofs.Common.{◌≡◌, ◌+◌, ◌-◌, ℕ, List, [], ◌++◌, length, take, drop, ap, ◌∙◌, arith}
use Rattle.std.specs.Prelude.{min, replicate}
use Rattle.std.proofs.lemmas.List.{drop-replicate, length-take, take_all, take_min}
use Rattle.shm_segment.specs.Segment.{Segment, empty_segment, truncated, written}
use Rattle.shm_segment.proofs.segment.Segment.truncate.Goals as goal

-- what is left of zeros
zeros : (n k : ℕ) → drop k (truncated n empty_segment).bytes ≡ replicate (n - k) 0
zeros n k =
    let none : take n [] ≡ [] = take_all n [] (omega arith) in
    let all : n - 0 ≡ n = omega arith in
    ap (λ (xs : List ℕ). drop k (xs ++ replicate (n - 0) 0)) none ∙ (ap (λ (m : ℕ). drop k (replicate m 0)) all ∙ drop-replicate k n 0)

-- the first bytes over so many zeros
cut : (n : ℕ) (b : List ℕ) → written 0 (take (min n (length b)) b) (truncated n empty_segment) ≡ truncated n (record { bytes = b })
cut n b =
    let first = take (min n (length b)) b in
    let left : n - (0 + length first) ≡ n - length b = omega (arith, length-take (min n (length b)) b) in
    (λ i. record { bytes = first ++ zeros n (0 + length first) i })
    ∙ (λ i. record { bytes = take_min n b i ++ replicate (left i) 0 })

pub returns : goal.returns
returns c =
    let b = c.args.self.now.bytes in
    let n = length c.args.zeros.bytes in
    let own = ap (λ (s : Segment). s.bytes) c.self.view_is in
    let all : c.deref.result.now ≡ b = c.deref.ensures.value ∙ own in
    let left = ap (λ (s : Segment). length s.bytes) c.left.view_is in
    let kept : c.min-kept.result ≡ min n (length b) =
    omega (arith, c.min-kept.ensures, c.len.ensures, c.len-2.ensures, left, ap (λ (xs : List ℕ). length xs) own) in
    c.left-2.view_is ∙ (c.write.ensures ∙ ((λ i. written 0 (take (kept i) (all i)) (c.requires i)) ∙ cut n b))
