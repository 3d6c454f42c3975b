-- Numbers in order, as one comes or changes, and how it is told whether they are.
use Rattle.std.proofs.Common.{◌≡◌, ℕ, suc, ◌+◌, ◌<◌, ◌≤◌, Bool, true, false, cond, Option, Some, None, List, [], ◌∷◌, ◌++◌, length, map, take, drop}
use Rattle.std.proofs.Common.{get_or, refl, sym, ap, subst, ◌∙◌, arith}
use Rattle.std.specs.Prelude.{nat_eq, nat_lt, nat_le, ◌||◌, sum_by}
use Rattle.std.specs.Bool.{Decides}
use Rattle.std.proofs.Math.Dec.{leb}
use Rattle.std.proofs.Math.Seq.{drop-cons}
use Rattle.std.proofs.lemmas.Bool.Decides.{nat_tests}
use Rattle.std.proofs.lemmas.Bool.{leb-true, le-leb}
use Rattle.std.proofs.lemmas.List.{map-append, length-append, length-map, take_more, take-append-drop}
use Rattle.std.proofs.lemmas.List.Sums.{sum_by-cons}
use Rattle.ipc_limits.specs.Limits.{exceeds}
use Rattle.ipc_base.specs.Table.{keys_of, seen_as, value_at, with_value, IsRising}
use Rattle.ipc_base.proofs.CallerLemmas.{rising-push, rising-weaker, rising-bounds, rising-without}
use Rattle.ipc_base.proofs.CallerLemmas.{length-without, length-with_value, keys_of-with_value, keys-map}
use Rattle.ipc_state.specs.declared.numbered.Item.{Item}
use Rattle.ipc_state.specs.Tables.{item_row}
use Rattle.ipc_state.specs.Numbered.{Numbered, none_yet, is_full, with_entry, with_new, without_entry, last_number, AreNumbered}

-- a test of two parts that fails, fails in each
pub neither : (a b : Bool) → (a || b) ≡ false → (a ≡ false) × (b ≡ false)
neither true b h = cc
neither false b h = (refl, h)

-- a sum over entries, with another in the place of one
pub sum-with : {X : Type 0} (size : X → ℕ) (es : List (ℕ × X)) (n : ℕ) (e f : X) → value_at nat_eq es n ≡ Some e
    → sum_by (λ (d : ℕ × X). size d.1) (with_value nat_eq es n f) + size e ≡ sum_by (λ (d : ℕ × X). size d.1) es + size f
sum-with size [] n e f is = cc
sum-with {X} size (d ∷ es) n e f is = by_test (nat_eq d.0 n) is (sum-with size es n e f)
  where
    of : ℕ × X → ℕ
    of g = size g.1

    by_test : (b : Bool) → cond b (Some d.1) (value_at nat_eq es n) ≡ Some e
        → (value_at nat_eq es n ≡ Some e → sum_by of (with_value nat_eq es n f) + size e ≡ sum_by of es + size f)
        → sum_by of (cond b ((d.0, f) ∷ es) (d ∷ with_value nat_eq es n f)) + size e ≡ sum_by of (d ∷ es) + size f
    by_test true is rest =
        let one : d.1 ≡ e = cc in
        omega (arith, sum_by-cons of (d.0, f) es, sum_by-cons of d es, ap size one)
    by_test false is rest = omega (arith, sum_by-cons of d es, sum_by-cons of d (with_value nat_eq es n f), rest is)

-- numbers that rise to a further one, rise to each before it
rising-part : (low : ℕ) (ns more : List ℕ) (n high : ℕ) → IsRising low (ns ++ n ∷ more) high → IsRising low ns n × (n < high)
rising-part low [] more n high h = let rest = rising-bounds (n + 1) more high h.1 in (h.0, omega arith)
rising-part low (k ∷ ns) more n high h = let rest = rising-part (k + 1) ns more n high h.1 in ((h.0, rest.0), rest.1)

-- they rise from `low` on, and the next is this one at least
pub record RiseTo (low : ℕ) (ns : List ℕ) (least : ℕ) : Type 0 where
  pub rise : IsRising low ns least
  pub lowest : (high : ℕ) → IsRising low ns high → least ≤ high

rise-one : (low : ℕ) (ns : List ℕ) (least n : ℕ) → RiseTo low ns least → least ≤ n → RiseTo low (ns ++ n ∷ []) (n + 1)
rise-one low ns least n h le =
    record {
      rise = rising-push low ns n (rising-weaker low ns least n le h.rise);
      lowest = λ high all. let part = rising-part low ns [] n high all in omega (arith, part.1);
    }

module _ {X : Type 0} (number : X → ℕ) (low : ℕ) (xs : List X) (i : ℕ) (x : X) (within : ◌<◌ i (length xs)) where
  numbers : map number (take (i + 1) xs) ≡ map number (take i xs) ++ number (get_or xs i x) ∷ []
  numbers = ap (map number) (take_more xs i x within) ∙ map-append number (take i xs) (get_or xs i x ∷ [])

  -- one number more
  pub rise-next : (least : ℕ) → RiseTo low (map number (take i xs)) least → least ≤ number (get_or xs i x)
      → RiseTo low (map number (take (i + 1) xs)) (number (get_or xs i x) + 1)
  rise-next least h le =
      subst (λ (ns : List ℕ). RiseTo low ns (number (get_or xs i x) + 1)) (sym numbers) (rise-one low (map number (take i xs)) least _ h le)

  -- one that is not above the others
  pub rise-stuck : (least high : ℕ) → RiseTo low (map number (take i xs)) least → number (get_or xs i x) < least → IsRising low (map number xs) high → ⊥
  rise-stuck least high h lt all =
      let whole : map number xs ≡ map number (take i xs) ++ number (get_or xs i x) ∷ map number (drop (suc i) xs) =
      ap (map number) (sym (take-append-drop i xs) ∙ ap (λ (l : List X). take i xs ++ l) (drop-cons xs i x within))
      ∙ map-append number (take i xs) (get_or xs i x ∷ drop (suc i) xs) in
      let part = rising-part low (map number (take i xs)) (map number (drop (suc i) xs)) (number (get_or xs i x)) high
      (subst (λ (ns : List ℕ). IsRising low ns high) whole all) in
      let bound = h.lowest (number (get_or xs i x)) part.0 in
      absurd (omega arith)

-- a next number may be any from there on
pub rise-decides : (low : ℕ) (ns : List ℕ) (least next : ℕ) → RiseTo low ns least → Decides (leb least next) (IsRising low ns next)
rise-decides low ns least next h =
    (λ yes. rising-weaker low ns least next (leb-true least next yes) h.rise, λ all. le-leb least next (h.lowest next all))

-- the numbers of a table
pub item-numbers : {T : Type 0} (es : List (Item T)) → keys_of (map item_row es) ≡ map (λ (e : Item T). e.number) es
item-numbers [] = refl
item-numbers (e ∷ es) = ap (λ (ns : List ℕ). e.number ∷ ns) (item-numbers es)

-- ---- what keeps them in order

module _ {X : Type 0} (most : ℕ) where
  pub none_yet-numbered : AreNumbered {X = X} most none_yet
  none_yet-numbered = record { numbers = omega arith; next = omega arith; count = omega arith }

  pub with_new-numbered : (o : Numbered X) (x : X) → is_full most o ≡ false → AreNumbered most o → AreNumbered most (with_new o x)
  with_new-numbered o x room h =
      let both = neither (nat_le most (length o.entries)) (nat_lt last_number o.next) room in
      let fewer : length o.entries < most = grind (arith, nat_tests) in
      let left : o.next ≤ last_number = grind (arith, nat_tests) in
      record {
        numbers = rw map-append (rising-push 1 (keys_of o.entries) o.next h.numbers);
        next = omega arith;
        count = rw length-append (omega arith);
      }

  pub with_entry-numbered : (o : Numbered X) (n : ℕ) (x : X) → AreNumbered most o → AreNumbered most (with_entry o n x)
  with_entry-numbered o n x h =
      record { numbers = rw keys_of-with_value h.numbers; next = h.next; count = rw length-with_value h.count }

  pub without_entry-numbered : (o : Numbered X) (n : ℕ) → AreNumbered most o → AreNumbered most (without_entry o n)
  without_entry-numbered o n h =
      let fewer = length-without nat_eq o.entries n in
      record { numbers = rising-without 1 o.entries o.next n h.numbers; next = h.next; count = omega arith }

  pub cleared-numbered : (o : Numbered X) → AreNumbered most o → AreNumbered {X = X} most (record { next = o.next; entries = [] })
  cleared-numbered o h =
      record { numbers = rising-bounds 1 (keys_of o.entries) o.next h.numbers; next = h.next; count = omega arith }

  -- others in their places
  pub seen-numbered : (f : X → X) (o : Numbered X) → AreNumbered most o → AreNumbered {X = X} most (record { next = o.next; entries = seen_as f o.entries })
  seen-numbered f o h =
      record {
        numbers = subst (λ (ns : List ℕ). IsRising 1 ns o.next) (sym (keys-map f o.entries)) h.numbers;
        next = h.next;
        count = omega (arith, length-map o.entries (λ (e : ℕ × X). let g : ℕ × X = (e.0, f e.1) in g), h.count);
      }

-- none are more than any limit allows
pub none-exceeds : (limit : Option ℕ) → exceeds 0 limit ≡ false
none-exceeds None = refl
none-exceeds (Some most) = grind (arith, nat_tests)
