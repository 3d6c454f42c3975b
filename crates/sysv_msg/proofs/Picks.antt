-- What a search for a type finds is the picked message.
use Rattle.std.proofs.Common.{◌≡◌, ℕ, zero, suc, ◌<◌, ℤ, pos, negsuc, ◌≤ℤ◌, ◌<ℤ◌, int_lt, int_le, unsigned_abs, Bool, true, false, not, ◌&&◌, ◌||◌}
use Rattle.std.proofs.Common.{if◌then◌else◌, List, length, get_or, map, All, Contains, None, ap, sym, ◌∙◌, subst, arith}
use Rattle.std.specs.List.{position, list_all}
use Rattle.std.specs.Ordering.{int_eq}
use Rattle.std.proofs.lemmas.Int.{ints, by_lt_z}
use Rattle.std.proofs.lemmas.Bool.Decides.{nat_tests}
use Rattle.std.proofs.lemmas.Bool.{and_left, and_right}
use Rattle.std.proofs.lemmas.List.{length-map, get_or-map}
use Rattle.std.proofs.lemmas.List.Sums.{list_all-from_AllPass}
use Rattle.std.proofs.lemmas.List.Folds.{list_all_at, list_all-map}
use Rattle.sysv_msg.specs.declared.message.Message.{Message}
use Rattle.sysv_msg.specs.Queue.{plain, pick, is_allowed}
use Rattle.ipc_arrivals.proofs.CallerLemmas.{position-seen, position_same, position_none}

-- ---- the least type

-- the type is at most the limit, and none of the list is lower
abbrev pub is_least : List Message → ℤ → Message → Bool
is_least ms limit m = int_le m.mtype limit && list_all (λ o. int_le m.mtype o.mtype) ms

int_eq_refl : (x : ℤ) → int_eq x x ≡ true
int_eq_refl x = grind (arith, ints)

int_le_true : (x y : ℤ) → x ≤ℤ y → int_le x y ≡ true
int_le_true x y h = grind (arith, ints)

int_le_false : (x y : ℤ) → y <ℤ x → int_le x y ≡ false
int_le_false x y h = grind (arith, ints)

int_eq_false : (x y : ℤ) → y <ℤ x → int_eq x y ≡ false
int_eq_false x y h = grind (arith, ints)

int_antisym : (x y : ℤ) → x ≤ℤ y → y ≤ℤ x → x ≡ y
int_antisym x y h k = omega (arith, ints)

-- a number above another above the limit
int_le_above : (x least limit : ℤ) → least ≤ℤ x → int_le least limit ≡ false → int_le x limit ≡ false
int_le_above x least limit h above = grind (arith, ints)

not_zero : (n : ℕ) → int_eq (pos (suc n)) (pos 0) ≡ false
not_zero n = grind (arith, ints)

least_is_equal : (ms : List Message) (limit least : ℤ) (m : Message) → All (λ o. least ≤ℤ o.mtype) ms
    → int_le least limit ≡ true → m.mtype ≡ least → int_eq m.mtype least ≡ is_least ms limit m
least_is_equal ms limit least m lowest within same =
    let e : int_le least limit && list_all (λ o. int_le least o.mtype) ms ≡ true =
    ap (λ b. b && list_all (λ o. int_le least o.mtype) ms) within
    ∙ list_all-from_AllPass (λ o. int_le least o.mtype) ms (λ k d h. int_le_true _ _ (lowest k d h))
    in
    let P : ℤ → Type 0 = λ t. int_eq t least ≡ int_le t limit && list_all (λ o. int_le t o.mtype) ms in
    subst P (sym same) (int_eq_refl least ∙ sym e)

least_is_above : (ms : List Message) (limit least : ℤ) (m : Message) → Contains (map (λ o. o.mtype) ms) least
    → least <ℤ m.mtype → int_eq m.mtype least ≡ is_least ms limit m
least_is_above ms limit least m found above =
    let inside : found.0 < length ms = omega (arith, found.1, length-map ms (λ o. o.mtype)) in
    let there : (get_or ms found.0 m).mtype ≡ least = sym (get_or-map (λ o. o.mtype) ms found.0 m least inside) ∙ found.2 in
    let lower : int_le m.mtype (get_or ms found.0 m).mtype ≡ false = ap (int_le m.mtype) there ∙ int_le_false _ _ above in
    int_eq_false m.mtype least above
    ∙ sym (and_right (int_le m.mtype limit) _ (list_all_at (λ o. int_le m.mtype o.mtype) ms found.0 m inside lower))

-- where the least type is at most the limit, the messages of that type are the ones sought
pub least_position : (ms : List Message) (limit least : ℤ) → All (λ o. least ≤ℤ o.mtype) ms
    → Contains (map (λ o. o.mtype) ms) least → int_le least limit ≡ true
    → position (λ m. int_eq m.mtype least) ms ≡ position (is_least ms limit) ms
least_position ms limit least lowest found within =
    position_same (λ m. int_eq m.mtype least) (is_least ms limit) ms
    (λ k d h. let m = get_or ms k d in
    by_lt_z least m.mtype (least_is_above ms limit least m found)
    (λ below. least_is_equal ms limit least m lowest within (int_antisym _ _ below (lowest k d h))))

-- where it is above the limit there is none
pub least_none : (ms : List Message) (limit least : ℤ) → All (λ o. least ≤ℤ o.mtype) ms → int_le least limit ≡ false → position (is_least ms limit) ms ≡ None
least_none ms limit least lowest above =
    position_none (is_least ms limit) ms (λ k d h. and_left _ _ (int_le_above _ _ _ (lowest k d h) above))

-- ---- what is picked

pub pick-below_zero : (ms : List Message) (t : ℤ) (except : Bool) → int_lt t (pos 0) ≡ true
    → pick (map plain ms) t except ≡ position (is_least ms (pos (unsigned_abs t))) ms
pick-below_zero ms (pos n) except h = absurd (grind (arith, nat_tests))
pick-below_zero ms (negsuc n) except h =
    position-seen (is_allowed (map plain ms) (negsuc n) except) plain ms
    ∙ position_same (λ m. is_allowed (map plain ms) (negsuc n) except (plain m)) (is_least ms (pos (suc n))) ms
    (λ k d h. let m = get_or ms k d in
    ap (λ b. int_le m.mtype (pos (suc n)) && b) (list_all-map (λ o. int_le m.mtype o.mtype) plain ms))

-- the message is of the type, or with except of another, or the type is 0
abbrev pub is_of_type : ℤ → Bool → Message → Bool
is_of_type t except m =
    int_eq t (pos 0) || (if except then not (int_eq m.mtype t) else int_eq m.mtype t)

pub pick-of_type : (ms : List Message) (t : ℤ) (except : Bool) → int_lt t (pos 0) ≡ false → pick (map plain ms) t except ≡ position (is_of_type t except) ms
pick-of_type ms (pos zero) except h = position-seen (is_allowed (map plain ms) (pos zero) except) plain ms
pick-of_type ms (pos (suc n)) except h =
    position-seen (is_allowed (map plain ms) (pos (suc n)) except) plain ms
    ∙ ap (λ b. position (λ m. b || (if except then not (int_eq m.mtype (pos (suc n))) else int_eq m.mtype (pos (suc n)))) ms) (sym (not_zero n))
pick-of_type ms (negsuc n) except h = cc
