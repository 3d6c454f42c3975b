-- What the keys of entries name, as one comes, changes or goes: keys of any kind, which System V keys and names are.
use Rattle.std.proofs.Common.{◌≡◌, ◌≢◌, ℕ, ℤ, pos, ◌+◌, ◌<◌, Bool, true, false, cond, List, [], ◌∷◌, ◌++◌}
use Rattle.std.proofs.Common.{Option, Some, None, refl, map, ap, ◌∙◌, subst, sym, arith}
use Rattle.std.specs.Prelude.{nat_eq, nat_lt, if◌then◌else◌, All}
use Rattle.std.specs.Bool.{Decides}
use Rattle.std.specs.Ordering.{int_eq}
use Rattle.std.specs.Str.{bytes_eq}
use Rattle.std.proofs.lemmas.Slice.Eq.{bytes_eq-Decides}
use Rattle.std.proofs.lemmas.Bool.Decides.{nat_tests, Decides-eqb, Decides-int_eq, Decides-ltb, Decides-by_and}
use Rattle.std.specs.List.{list_all, filter}
use Rattle.std.proofs.lemmas.List.{map-append}
use Rattle.std.proofs.lemmas.List.Folds.{list_all-map}
use Rattle.std.proofs.lemmas.List.Elements.{All-nil, All-cons, All-head, All-tail, All-push, All-weaker, All-map, All-filter}
use Rattle.ipc_base.specs.Table.{value_at, with_value, without, keys_of, IsRising}
use Rattle.ipc_base.proofs.CallerLemmas.{choice}
use Rattle.ipc_state.specs.declared.numbered.Item.{Item}
use Rattle.ipc_state.specs.declared.objects.Entry.{Entry}
use Rattle.ipc_state.specs.Directory.{or_else, adds}
use Rattle.ipc_state.specs.Tables.{item_row}
use Rattle.ipc_state.specs.Tests.{is_named}

-- the keys of entries: the test of two, the one that names none, and the key of an entry
pub record Keys (K E : Type 0) : Type 0 where
  pub same : K → K → Bool
  pub decides : (a b : K) → Decides (same a b) (a ≡ b)
  pub none : K
  pub key_of : E → K

-- the same of what entries are bound to
pub record Bounds (B : Type 0) : Type 0 where
  pub same : B → B → Bool
  pub decides : (a b : B) → Decides (same a b) (a ≡ b)
  pub none : B

abbrev pub by_bound : {B X : Type 0} → Bounds B → Keys B (Entry B X)
by_bound b = record { same = b.same; decides = b.decides; none = b.none; key_of = λ e. e.bound }

-- keys, and names
abbrev pub of_keys : Bounds ℤ
of_keys = record { same = int_eq; decides = Decides-int_eq; none = pos 0 }

abbrev pub of_names : Bounds (List ℕ)
of_names = record { same = bytes_eq; decides = bytes_eq-Decides; none = [] }

pub All-seen : {X Y : Type 0} (P : Y → Type 0) (f : X → Y) (xs : List X) → All P (map f xs) → All (λ x. P (f x)) xs
All-seen P f [] h = All-nil _
All-seen P f (x ∷ xs) h = All-cons (λ y. P (f y)) x xs (All-head P (f x) (map f xs) h) (All-seen P f xs (All-tail P (f x) (map f xs) h))

-- a test of each of a list
pub each-decides : {X Y : Type 0} (p : Y → Bool) (P : Y → Type 0) (row : X → Y) (xs : List X) → ((y : Y) → Decides (p y) (P y))
    → Decides (list_all (λ x. p (row x)) xs) (All P (map row xs))
each-decides p P row xs each =
    subst (λ (b : Bool). Decides b (All P (map row xs))) (list_all-map p row xs) (Decides-by_and p P (list_all p) each refl (λ _ _. refl) (map row xs))

module _ {K E : Type 0} (keys : Keys K E) where
  -- the key of an entry, with the number
  abbrev pub row : ℕ × E → K × ℕ
  row e = (keys.key_of e.1, e.0)

  -- what a key names
  abbrev pub names : List (ℕ × E) → K → Option ℕ
  names es key = if keys.same key keys.none then None else value_at keys.same (map row es) key

  -- a key names its number, unless it names none
  abbrev pub IsNamed : List (K × ℕ) → K × ℕ → Type 0
  IsNamed ks k = k.0 ≢ keys.none → value_at keys.same ks k.0 ≡ Some k.1

  pub some_key : (key : K) → keys.same key keys.none ≡ false → key ≢ keys.none
  some_key key apart is = let yes : keys.same key keys.none ≡ true = (keys.decides key keys.none).1 is in cc

  -- ---- one comes

  at-last : (ks : List (K × ℕ)) (key : K) (n : ℕ) (other : K)
      → value_at keys.same (ks ++ (key, n) ∷ []) other ≡ or_else (value_at keys.same ks other) (if keys.same key other then Some n else None)
  at-last [] key n other = refl
  at-last (k ∷ ks) key n other = by_test (keys.same k.0 other) (at-last ks key n other)
    where
      last : Option ℕ
      last = if keys.same key other then Some n else None

      by_test : (b : Bool) → value_at keys.same (ks ++ (key, n) ∷ []) other ≡ or_else (value_at keys.same ks other) last
          → cond b (Some k.1) (value_at keys.same (ks ++ (key, n) ∷ []) other) ≡ or_else (cond b (Some k.1) (value_at keys.same ks other)) last
      by_test true later = refl
      by_test false later = later

  -- an entry at the end, of a key that nothing had, is named as the others are
  pub named-push : (es : List (ℕ × E)) (n : ℕ) (e : E) → names es (keys.key_of e) ≡ None → All (IsNamed (map row es)) (map row es)
      → All (IsNamed (map row (es ++ (n, e) ∷ []))) (map row (es ++ (n, e) ∷ []))
  named-push es n e unused named =
      let ks = map row es in
      let key = keys.key_of e in
      let more = ks ++ (key, n) ∷ [] in
      subst (λ (l : List (K × ℕ)). All (IsNamed l) l) (sym (map-append row es ((n, e) ∷ [])))
      (All-push (IsNamed more) ks (key, n)
      (All-weaker (IsNamed ks) (IsNamed more)
      (λ k is some. at-last ks key n k.0 ∙ ap (λ (r : Option ℕ). or_else r (if keys.same key k.0 then Some n else None)) (is some)) ks named)
      (λ some. at-last ks key n key ∙ itself (keys.same key key) ((keys.decides key key).1 refl)
      (unkeyed (keys.same key keys.none) _ unused (λ is. some ((keys.decides key keys.none).0 is)))))
    where
      unkeyed : (b : Bool) (found : Option ℕ) → (if b then None else found) ≡ None → b ≢ true → found ≡ None
      unkeyed true found none is = absurd (is refl)
      unkeyed false found none is = none

      itself : (b : Bool) → b ≡ true → {found : Option ℕ} → found ≡ None → or_else found (if b then Some n else None) ≡ Some n
      itself true is none = rw none refl
      itself false is none = cc

  -- it adds its key
  pub key-last : (es : List (ℕ × E)) (n : ℕ) (e : E) (other : K)
      → names (es ++ (n, e) ∷ []) other ≡ or_else (names es other) (adds keys.same keys.none (keys.key_of e) n other)
  key-last es n e other =
      ap (λ (ks : List (K × ℕ)). if keys.same other keys.none then None else value_at keys.same ks other) (map-append row es ((n, e) ∷ []))
      ∙ by_test (keys.same other keys.none) (at-last (map row es) (keys.key_of e) n other)
    where
      last : Option ℕ
      last = if keys.same (keys.key_of e) other then Some n else None

      by_test : (b : Bool) → value_at keys.same (map row es ++ (keys.key_of e, n) ∷ []) other ≡ or_else (value_at keys.same (map row es) other) last
          → cond b None (value_at keys.same (map row es ++ (keys.key_of e, n) ∷ []) other)
          ≡ or_else (cond b None (value_at keys.same (map row es) other)) (cond b None last)
      by_test true later = refl
      by_test false later = later

  -- ---- one changes

  -- an entry of the same key leaves the keys
  pub same_keys : (es : List (ℕ × E)) (n : ℕ) (e f : E) → value_at nat_eq es n ≡ Some e → keys.key_of f ≡ keys.key_of e
      → map row (with_value nat_eq es n f) ≡ map row es
  same_keys [] n e f is same = refl
  same_keys (g ∷ es) n e f is same = by_test (nat_eq g.0 n) is (λ there. same_keys es n e f there same)
    where
      by_test : (b : Bool) → cond b (Some g.1) (value_at nat_eq es n) ≡ Some e
          → (value_at nat_eq es n ≡ Some e → map row (with_value nat_eq es n f) ≡ map row es)
          → map row (cond b ((g.0, f) ∷ es) (g ∷ with_value nat_eq es n f)) ≡ map row (g ∷ es)
      by_test true is later =
          let here : g.1 ≡ e = cc in
          ap (λ (key : K). let k : K × ℕ = (key, g.0) in k ∷ map row es) (same ∙ sym (ap keys.key_of here))
      by_test false is later = ap (λ (ks : List (K × ℕ)). row g ∷ ks) (later is)

  pub names-with : (es : List (ℕ × E)) (n : ℕ) (e f : E) (other : K) → value_at nat_eq es n ≡ Some e → keys.key_of f ≡ keys.key_of e
      → names (with_value nat_eq es n f) other ≡ names es other
  names-with es n e f other is same =
      ap (λ (ks : List (K × ℕ)). if keys.same other keys.none then None else value_at keys.same ks other) (same_keys es n e f is same)

  other_key : (key other : K) → key ≡ keys.none → other ≢ keys.none → keys.same key other ≡ false
  other_key key other none some = by_test (keys.same key other) refl
    where
      by_test : (b : Bool) → keys.same key other ≡ b → b ≡ false
      by_test true is = absurd (some (sym ((keys.decides key other).0 is) ∙ none))
      by_test false is = refl

  -- what has the same keys but for the one that names none, names the same
  pub names-same : (es fs : List (ℕ × E)) (other : K)
      → (other ≢ keys.none → value_at keys.same (map row fs) other ≡ value_at keys.same (map row es) other) → names fs other ≡ names es other
  names-same es fs other same = by_test (keys.same other keys.none) refl
    where
      by_test : (b : Bool) → keys.same other keys.none ≡ b
          → cond b None (value_at keys.same (map row fs) other) ≡ cond b None (value_at keys.same (map row es) other)
      by_test true is = refl
      by_test false is = same (some_key other is)

  -- an entry that loses its key is found no more than one that goes
  unkeyed-with : (es : List (ℕ × E)) (n : ℕ) (f : E) (other : K) → keys.same (keys.key_of f) other ≡ false
      → value_at keys.same (map row (with_value nat_eq es n f)) other ≡ value_at keys.same (map row (without nat_eq es n)) other
  unkeyed-with [] n f other none = refl
  unkeyed-with (g ∷ es) n f other none = by_test (nat_eq g.0 n) (unkeyed-with es n f other none)
    where
      by_test : (b : Bool) → value_at keys.same (map row (with_value nat_eq es n f)) other ≡ value_at keys.same (map row (without nat_eq es n)) other
          → value_at keys.same (map row (cond b ((g.0, f) ∷ es) (g ∷ with_value nat_eq es n f))) other
          ≡ value_at keys.same (map row (cond b es (g ∷ without nat_eq es n))) other
      by_test true later = rw none refl
      by_test false later = ap (cond (keys.same (keys.key_of g.1) other) (Some g.0)) later

  pub names-unkeyed : (es : List (ℕ × E)) (n : ℕ) (f : E) (other : K) → keys.key_of f ≡ keys.none
      → names (with_value nat_eq es n f) other ≡ names (without nat_eq es n) other
  names-unkeyed es n f other none =
      names-same (without nat_eq es n) (with_value nat_eq es n f) other (λ some. unkeyed-with es n f other (other_key (keys.key_of f) other none some))

  -- ---- one goes

  -- a key of another object is found as before
  found_without : (es : List (ℕ × E)) (id n : ℕ) (key : K) → n ≢ id → value_at keys.same (map row es) key ≡ Some n
      → value_at keys.same (map row (without nat_eq es id)) key ≡ Some n
  found_without [] id n key other is = is
  found_without (e ∷ es) id n key other is = by_test (nat_eq e.0 id) refl (keys.same (keys.key_of e.1) key) refl (found_without es id n key other) is
    where
      by_test : (b : Bool) → nat_eq e.0 id ≡ b → (k : Bool) → keys.same (keys.key_of e.1) key ≡ k
          → (value_at keys.same (map row es) key ≡ Some n → value_at keys.same (map row (without nat_eq es id)) key ≡ Some n)
          → cond k (Some e.0) (value_at keys.same (map row es) key) ≡ Some n
          → value_at keys.same (map row (cond b es (e ∷ without nat_eq es id))) key ≡ Some n
      by_test true gone true same later is =
          let number : e.0 ≡ n = cc in
          absurd (other (grind (arith, nat_tests)))
      by_test true gone false same later is = is
      by_test false gone true same later is = rw same is
      by_test false gone false same later is = rw same (later is)

  -- those that are left have other numbers, and are named as they were
  others_named : (ks : List (K × ℕ)) (low : ℕ) (es : List (ℕ × E)) (high id : ℕ) → IsRising low (keys_of es) high
      → All (λ (e : ℕ × E). IsNamed ks (row e)) es
      → All (λ (e : ℕ × E). (e.0 ≢ id) × IsNamed ks (row e)) (without nat_eq es id)
  others_named ks low [] high id rising each = All-nil _
  others_named ks low (e ∷ es) high id rising each =
      let P : ℕ × E → Type 0 = λ (f : ℕ × E). IsNamed ks (row f) in
      choice (All (λ (f : ℕ × E). (f.0 ≢ id) × P f)) (nat_eq e.0 id) es (e ∷ without nat_eq es id)
      (λ is. apart (e.0 + 1) es rising.1 (All-tail P e es each) (grind (arith, nat_tests)))
      (λ is. All-cons (λ (f : ℕ × E). (f.0 ≢ id) × P f) e (without nat_eq es id)
      ((λ same. let yes : nat_eq e.0 id ≡ true = grind (arith, nat_tests) in cc), All-head P e es each)
      (others_named ks (e.0 + 1) es high id rising.1 (All-tail P e es each)))
    where
      apart : (low : ℕ) (fs : List (ℕ × E)) → IsRising low (keys_of fs) high → All (λ (f : ℕ × E). IsNamed ks (row f)) fs → id < low
          → All (λ (f : ℕ × E). (f.0 ≢ id) × IsNamed ks (row f)) fs
      apart low [] rising each below = All-nil _
      apart low (f ∷ fs) rising each below =
          All-cons (λ (g : ℕ × E). (g.0 ≢ id) × IsNamed ks (row g)) f fs
          ((λ same. omega (arith, same, rising.0)), All-head (λ (g : ℕ × E). IsNamed ks (row g)) f fs each)
          (apart (f.0 + 1) fs rising.1 (All-tail (λ (g : ℕ × E). IsNamed ks (row g)) f fs each) (omega (arith, rising.0)))

  -- those that are left are named
  pub named_without : (es : List (ℕ × E)) (high id : ℕ) → IsRising 1 (keys_of es) high → All (IsNamed (map row es)) (map row es)
      → All (λ (e : ℕ × E). IsNamed (map row (without nat_eq es id)) (row e)) (without nat_eq es id)
  named_without es high id rising named =
      let ks = map row es in
      let left = without nat_eq es id in
      All-weaker (λ (e : ℕ × E). (e.0 ≢ id) × IsNamed ks (row e)) (λ (e : ℕ × E). IsNamed (map row left) (row e))
      (λ e is some. found_without es id e.0 (keys.key_of e.1) is.0 (is.1 some)) left
      (others_named ks 1 es high id rising (All-seen (IsNamed ks) row es named))

  -- a key of none is found no more
  gone : (ks : List (K × ℕ)) (id : ℕ) (key : K) (es : List (ℕ × E)) → key ≢ keys.none → value_at keys.same ks key ≡ Some id
      → All (λ (e : ℕ × E). (e.0 ≢ id) × IsNamed ks (row e)) es → value_at keys.same (map row es) key ≡ None
  gone ks id key [] some is each = refl
  gone ks id key (e ∷ es) some is each = by_test (keys.same (keys.key_of e.1) key) refl (gone ks id key es some is
      (All-tail (λ (f : ℕ × E). (f.0 ≢ id) × IsNamed ks (row f)) e es each))
    where
      by_test : (b : Bool) → keys.same (keys.key_of e.1) key ≡ b → value_at keys.same (map row es) key ≡ None
          → cond b (Some e.0) (value_at keys.same (map row es) key) ≡ None
      by_test true same later =
          let first = All-head (λ (f : ℕ × E). (f.0 ≢ id) × IsNamed ks (row f)) e es each in
          let key_is : keys.key_of e.1 ≡ key = (keys.decides (keys.key_of e.1) key).0 same in
          let named = first.1 (λ none. some (sym key_is ∙ none)) in
          let number : e.0 ≡ id = (let both : Some e.0 ≡ Some id = sym named ∙ (ap (value_at keys.same ks) key_is ∙ is) in cc) in
          absurd (first.0 number)
      by_test false same later = later

  -- a key of another is found as before
  others : (es : List (ℕ × E)) (id : ℕ) (e : E) (other : K) → value_at nat_eq es id ≡ Some e → keys.same (keys.key_of e) other ≡ false
      → value_at keys.same (map row (without nat_eq es id)) other ≡ value_at keys.same (map row es) other
  others [] id e other is apart = refl
  others (f ∷ es) id e other is apart = by_test (nat_eq f.0 id) is (λ there. others es id e other there apart)
    where
      by_test : (b : Bool) → cond b (Some f.1) (value_at nat_eq es id) ≡ Some e
          → (value_at nat_eq es id ≡ Some e → value_at keys.same (map row (without nat_eq es id)) other ≡ value_at keys.same (map row es) other)
          → value_at keys.same (map row (cond b es (f ∷ without nat_eq es id))) other
          ≡ cond (keys.same (keys.key_of f.1) other) (Some f.0) (value_at keys.same (map row es) other)
      by_test true is later =
          let here : f.1 ≡ e = cc in
          let not : keys.same (keys.key_of f.1) other ≡ false = ap (λ (g : E). keys.same (keys.key_of g) other) here ∙ apart in
          rw not refl
      by_test false is later = ap (λ (r : Option ℕ). cond (keys.same (keys.key_of f.1) other) (Some f.0) r) (later is)

  -- the key of an object names it
  named-at : (ks : List (K × ℕ)) (es : List (ℕ × E)) (id : ℕ) (e : E) (other : K) → All (λ (f : ℕ × E). IsNamed ks (row f)) es → value_at nat_eq es id ≡ Some e
      → keys.key_of e ≡ other → other ≢ keys.none → value_at keys.same ks other ≡ Some id
  named-at ks [] id e other each is same some = cc
  named-at ks (f ∷ es) id e other each is same some =
      by_test (nat_eq f.0 id) refl is (λ there. named-at ks es id e other (All-tail (λ (g : ℕ × E). IsNamed ks (row g)) f es each) there same some)
    where
      by_test : (b : Bool) → nat_eq f.0 id ≡ b → cond b (Some f.1) (value_at nat_eq es id) ≡ Some e
          → (value_at nat_eq es id ≡ Some e → value_at keys.same ks other ≡ Some id) → value_at keys.same ks other ≡ Some id
      by_test true this is later =
          let here : f.1 ≡ e = cc in
          let key_is : keys.key_of f.1 ≡ other = ap keys.key_of here ∙ same in
          let named = All-head (λ (g : ℕ × E). IsNamed ks (row g)) f es each (λ none. some (sym key_is ∙ none)) in
          let number : f.0 ≡ id = grind (arith, nat_tests) in
          ap (value_at keys.same ks) (sym key_is) ∙ (named ∙ ap Some number)
      by_test false this is later = later is

  -- what a key names without the entry of a number
  pub key-without : (es : List (ℕ × E)) (high id : ℕ) (e : E) (other : K) → IsRising 1 (keys_of es) high → All (IsNamed (map row es)) (map row es)
      → value_at nat_eq es id ≡ Some e
      → names (without nat_eq es id) other ≡ (if keys.same (keys.key_of e) other then None else names es other)
  key-without es high id e other rising named is = by_none (keys.same other keys.none) refl
    where
      ks : List (K × ℕ)
      ks = map row es

      left : List (ℕ × E)
      left = without nat_eq es id

      by_key : other ≢ keys.none → (b : Bool) → keys.same (keys.key_of e) other ≡ b
          → value_at keys.same (map row left) other ≡ cond b None (value_at keys.same ks other)
      by_key some true same =
          let each = All-seen (IsNamed ks) row es named in
          let its : value_at keys.same ks other ≡ Some id = named-at ks es id e other each is ((keys.decides (keys.key_of e) other).0 same) some in
          gone ks id other left some its (others_named ks 1 es high id rising each)
      by_key some false apart = others es id e other is apart

      neither : (b : Bool) → ◌≡◌ {A = Option ℕ} None (if b then None else None)
      neither true = refl
      neither false = refl

      by_none : (b : Bool) → keys.same other keys.none ≡ b
          → cond b None (value_at keys.same (map row left) other) ≡ cond (keys.same (keys.key_of e) other) None (cond b None (value_at keys.same ks other))
      by_none true none = neither (keys.same (keys.key_of e) other)
      by_none false apart = by_key (some_key other apart) (keys.same (keys.key_of e) other) refl

-- what holds of those that are left, and of an entry, holds with the entry
all_with : {E : Type 0} (P : ℕ × E → Type 0) (es : List (ℕ × E)) (n : ℕ) (f : E) → ((m : ℕ) → P (m, f)) → All P (without nat_eq es n)
    → All P (with_value nat_eq es n f)
all_with P [] n f own each = each
all_with {E} P (e ∷ es) n f own each = by_test (nat_eq e.0 n) each (all_with P es n f own)
  where
    by_test : (b : Bool) → All P (cond b es (e ∷ without nat_eq es n)) → (All P (without nat_eq es n) → All P (with_value nat_eq es n f))
        → All P (cond b ((e.0, f) ∷ es) (e ∷ with_value nat_eq es n f))
    by_test true each later = All-cons P (e.0, f) es (own e.0) each
    by_test false each later = All-cons P e (with_value nat_eq es n f) (All-head P e (without nat_eq es n) each)
        (later (All-tail P e (without nat_eq es n) each))

module _ {K E : Type 0} (keys : Keys K E) where
  -- an entry that loses its key leaves the others named
  pub named-unkeyed : (es : List (ℕ × E)) (high n : ℕ) (f : E) → keys.key_of f ≡ keys.none → IsRising 1 (keys_of es) high
      → All (IsNamed keys (map (row keys) es)) (map (row keys) es)
      → All (IsNamed keys (map (row keys) (with_value nat_eq es n f))) (map (row keys) (with_value nat_eq es n f))
  named-unkeyed es high n f none rising named =
      let put = with_value nat_eq es n f in
      let left = without nat_eq es n in
      All-map (IsNamed keys (map (row keys) put)) (row keys) put
      (all_with (λ (e : ℕ × E). IsNamed keys (map (row keys) put) (row keys e)) es n f (λ m some. absurd (some none))
      (All-weaker (λ (e : ℕ × E). IsNamed keys (map (row keys) left) (row keys e)) (λ (e : ℕ × E). IsNamed keys (map (row keys) put) (row keys e))
      (λ e is some. unkeyed-with keys es n f (keys.key_of e.1) (other_key keys (keys.key_of f) (keys.key_of e.1) none some) ∙ is some) left
      (named_without keys es high n rising named)))

  -- those that have a key are left, by a test
  module _ (test : ℕ × E → Bool) (stands : (e : ℕ × E) → keys.key_of e.1 ≢ keys.none → test e ≡ true) where
    pub kept-at : (es : List (ℕ × E)) (other : K) → other ≢ keys.none
        → value_at keys.same (map (row keys) (filter test es)) other ≡ value_at keys.same (map (row keys) es) other
    kept-at [] other some = refl
    kept-at (e ∷ es) other some = by_test (test e) refl (kept-at es other some)
      where
        keyless : test e ≡ false → (b : Bool) → keys.same (keys.key_of e.1) keys.none ≡ b → keys.same (keys.key_of e.1) other ≡ false
        keyless out true is = other_key keys (keys.key_of e.1) other ((keys.decides (keys.key_of e.1) keys.none).0 is) some
        keyless out false is = let left : test e ≡ true = stands e (some_key keys (keys.key_of e.1) is) in cc

        by_test : (b : Bool) → test e ≡ b
            → value_at keys.same (map (row keys) (filter test es)) other ≡ value_at keys.same (map (row keys) es) other
            → value_at keys.same (map (row keys) (cond b (e ∷ filter test es) (filter test es))) other
            ≡ cond (keys.same (keys.key_of e.1) other) (Some e.0) (value_at keys.same (map (row keys) es) other)
        by_test true is rest = ap (cond (keys.same (keys.key_of e.1) other) (Some e.0)) rest
        by_test false is rest = rw (keyless is (keys.same (keys.key_of e.1) keys.none) refl) rest

    pub named-kept : (es : List (ℕ × E)) → All (IsNamed keys (map (row keys) es)) (map (row keys) es)
        → All (IsNamed keys (map (row keys) (filter test es))) (map (row keys) (filter test es))
    named-kept es named =
        let ks = map (row keys) es in
        let ls = map (row keys) (filter test es) in
        All-map (IsNamed keys ls) (row keys) (filter test es)
        (All-weaker (λ (e : ℕ × E). IsNamed keys ks (row keys e)) (λ (e : ℕ × E). IsNamed keys ls (row keys e))
        (λ e is some. kept-at es (keys.key_of e.1) some ∙ is some) (filter test es)
        (All-filter test (λ (e : ℕ × E). IsNamed keys ks (row keys e)) es (All-seen (IsNamed keys ks) (row keys) es named)))

-- what holds of each holds of those that are left
pub all_without : {E : Type 0} (P : ℕ × E → Type 0) (es : List (ℕ × E)) (id : ℕ) → All P es → All P (without nat_eq es id)
all_without P [] id each = each
all_without P (e ∷ es) id each =
    choice (All P) (nat_eq e.0 id) es (e ∷ without nat_eq es id) (λ is. All-tail P e es each)
    (λ is. All-cons P e (without nat_eq es id) (All-head P e es each) (all_without P es id (All-tail P e es each)))

-- ---- how it is told

module _ {K E : Type 0} (keys : Keys K E) where
  -- whether a key names its number
  named-decides : (ks : List (K × ℕ)) (k : K × ℕ)
      → Decides (is_named (if keys.same k.0 keys.none then None else value_at keys.same ks k.0) (keys.same k.0 keys.none) k.1) (IsNamed keys ks k)
  named-decides ks k = by_test (keys.same k.0 keys.none) refl (value_at keys.same ks k.0)
    where
      by_test : (b : Bool) → keys.same k.0 keys.none ≡ b → (found : Option ℕ)
          → Decides (is_named (if b then None else found) b k.1) (k.0 ≢ keys.none → found ≡ Some k.1)
      by_test true is found = (λ yes some. absurd (some ((keys.decides k.0 keys.none).0 is)), λ named. refl)
      by_test false is None = (λ yes. cc, λ named. let no = named (some_key keys k.0 is) in cc)
      by_test false is (Some n) =
          let test = Decides-eqb n k.1 in
          (λ yes some. ap Some (test.0 yes), λ named. test.1 (let same = named (some_key keys k.0 is) in cc))

  item-keys : (es : List (Item E)) → map (row keys) (map item_row es) ≡ map (λ e. row keys (item_row e)) es
  item-keys [] = refl
  item-keys (e ∷ es) = ap (λ (ks : List (K × ℕ)). row keys (item_row e) ∷ ks) (item-keys es)

  -- whether the keys of a table name their objects, by a directory that agrees
  pub keys-decide : (items : List (Item E)) (es : List (ℕ × E)) → map item_row items ≡ es → (found : K → Option ℕ) → ((key : K) → found key ≡ names keys es key)
      → Decides (list_all (λ (e : Item E). is_named (found (keys.key_of e.value)) (keys.same (keys.key_of e.value) keys.none) e.number) items)
      (All (IsNamed keys (map (row keys) es)) (map (row keys) es))
  keys-decide items es is found agrees =
      let ks = map (row keys) es in
      let p : K × ℕ → Bool = λ k. is_named (found k.0) (keys.same k.0 keys.none) k.1 in
      subst (λ (l : List (K × ℕ)). Decides (list_all (λ (e : Item E). p (row keys (item_row e))) items) (All (IsNamed keys ks) l))
      (sym (item-keys items) ∙ ap (map (row keys)) is)
      (each-decides p (IsNamed keys ks) (λ e. row keys (item_row e)) items
      (λ k. subst (λ (r : Option ℕ). Decides (is_named r (keys.same k.0 keys.none) k.1) (IsNamed keys ks k)) (sym (agrees k.0)) (named-decides ks k)))

-- whether each mode has nine bits
pub modes-decide : {E : Type 0} (mode_of : E → ℕ) (items : List (Item E)) (es : List (ℕ × E)) → map item_row items ≡ es
    → Decides (list_all (λ (e : Item E). nat_lt (mode_of e.value) 512) items) (All (λ (e : ℕ × E). mode_of e.1 < 512) es)
modes-decide {E} mode_of items es is =
    subst (λ (fs : List (ℕ × E)). Decides (list_all (λ (e : Item E). nat_lt (mode_of e.value) 512) items) (All (λ (e : ℕ × E). mode_of e.1 < 512) fs)) is
    (each-decides (λ (e : ℕ × E). nat_lt (mode_of e.1) 512) (λ (e : ℕ × E). mode_of e.1 < 512) item_row items (λ e. Decides-ltb (mode_of e.1) 512))
