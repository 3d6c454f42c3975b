-- What the crates above cite of lists: positions and removals in a list and in what it is seen as.
use Rattle.std.proofs.Common.{◌≡◌, ℕ, suc, ◌+◌, ◌<◌, Bool, true, false, not, cond, nat_lt, List, [], ◌∷◌, length, get_or, map, Some, None, refl, ap, ◌∙◌, arith}
use Rattle.std.specs.List.{position, prefix_len, remove}
use Rattle.std.proofs.lemmas.List.{length-map, map-append, take-map, drop-map}

pub map-remove : {X Y : Type 0} (f : X → Y) (xs : List X) (i : ℕ) → map f (remove xs i) ≡ remove (map f xs) i
map-remove f xs i = simp (map-append, take-map, drop-map)

prefix_len-seen : {X Y : Type 0} (p : Y → Bool) (f : X → Y) (xs : List X) → prefix_len p (map f xs) ≡ prefix_len (λ x. p (f x)) xs
prefix_len-seen p f [] = refl
prefix_len-seen p f (x ∷ xs) = ap (λ n. cond (p (f x)) (1 + n) 0) (prefix_len-seen p f xs)

-- the first of values that are seen in another way
pub position-seen : {X Y : Type 0} (p : Y → Bool) (f : X → Y) (xs : List X) → position p (map f xs) ≡ position (λ x. p (f x)) xs
position-seen p f xs =
    ap (λ n. cond (nat_lt n (length (map f xs))) (Some n) None) (prefix_len-seen (λ y. not (p y)) f xs)
    ∙ ap (λ m. cond (nat_lt (prefix_len (λ x. not (p (f x))) xs) m) (Some (prefix_len (λ x. not (p (f x))) xs)) None) (length-map xs f)

prefix_len_same : {X : Type 0} (p q : X → Bool) (xs : List X)
    → ((k : ℕ) (d : X) → k < length xs → p (get_or xs k d) ≡ q (get_or xs k d)) → prefix_len p xs ≡ prefix_len q xs
prefix_len_same p q [] same = refl
prefix_len_same p q (x ∷ xs) same =
    ap (λ b. cond b (1 + prefix_len p xs) 0) (same 0 x (omega arith))
    ∙ ap (λ n. cond (q x) (1 + n) 0) (prefix_len_same p q xs (λ k d h. same (suc k) d (omega arith)))

-- two tests that agree on each element pass at the same place first
pub position_same : {X : Type 0} (p q : X → Bool) (xs : List X)
    → ((k : ℕ) (d : X) → k < length xs → p (get_or xs k d) ≡ q (get_or xs k d)) → position p xs ≡ position q xs
position_same p q xs same =
    ap (λ n. cond (nat_lt n (length xs)) (Some n) None) (prefix_len_same (λ x. not (p x)) (λ x. not (q x)) xs (λ k d h. ap not (same k d h)))

prefix_len_all : {X : Type 0} (xs : List X) → prefix_len (λ _. true) xs ≡ length xs
prefix_len_all [] = refl
prefix_len_all (x ∷ xs) = omega (arith, prefix_len_all xs)

not_below_itself : (n : ℕ) → nat_lt n n ≡ false
not_below_itself n = grind arith

-- where no element passes there is no position
pub position_none : {X : Type 0} (p : X → Bool) (xs : List X) → ((k : ℕ) (d : X) → k < length xs → p (get_or xs k d) ≡ false) → position p xs ≡ None
position_none p xs fails =
    position_same p (λ _. false) xs fails
    ∙ ap (λ n. cond (nat_lt n (length xs)) (Some n) None) (prefix_len_all xs)
    ∙ ap (λ b. cond b (Some (length xs)) None) (not_below_itself (length xs))
