-- What a change of the entries is to a caller.
use Rattle.std.proofs.Common.{◌≡◌, ◌≢◌, ◌<◌, arith, ℕ, ℤ, Bool, true, false, cond, List, [], ◌∷◌, map, Option, Some, None, zero, suc}
use Rattle.std.proofs.Common.{Result, Ok, Err, OnOk, OnErr, refl, sym, ap, subst, ◌∙◌, true≢false, nat_eq}
use Rattle.std.specs.Cmp.{IsTotalOrder, int_cmp_total, int_eq_equiv, tied_itself}
use Rattle.std.specs.Cmp.Lexicographic.{pointwise, slice_cmp, nat_list_cmp_total, nat_list_eq_equiv, texts_ties}
use Rattle.std.specs.FinMap.{FinMap, get, find, IsAntisymmetric, get-from_entries, int_cmp-IsAntisymmetric, nat_cmp-IsAntisymmetric}
use Rattle.std.specs.FinMap.{slice_cmp-IsAntisymmetric}
use Rattle.std.specs.Map.{lookup, KeepsOthers}
use Rattle.std.specs.Ordering.{eq_by_cmp, is_eq, nat_cmp, int_cmp, int_eq}
use Rattle.std.specs.declared.cmp.Ordering.{Ordering}
use Rattle.std.specs.declared.cmp.Ordering.TheVariants.{Less, Equal, Greater}
use Rattle.std.specs.declared.vec.Vec.{Vec}
use Rattle.std.specs.declared.alloc.Global.{Global}
use Rattle.ipc_keys.specs.Directory.{shown, has_place, found, is_vacant, SameAt, seen, Puts}

-- how the keys K of entries are seen as keys P, and which of them a key stands for
pub record Kind (K P : Type 0) : Type 0 where
  pub order : P → P → Ordering
  pub total : IsTotalOrder order
  pub apart : IsAntisymmetric order
  pub plain : K → P
  pub names : P → K → Bool
  pub ties : (p : P) (k : K) → names p k ≡ eq_by_cmp order p (plain k)
  pub eq : K → K → Bool
  pub sound : (p : P) (x y : K) → names p x ≡ true → names p y ≡ eq x y

abbrev pub of_integers : Kind ℤ ℤ
of_integers =
    record {
      order = int_cmp;
      total = int_cmp_total;
      apart = int_cmp-IsAntisymmetric;
      plain = λ k. k;
      names = int_eq;
      ties = λ p k. refl;
      eq = int_eq;
      sound = int_eq_equiv.congr;
    }

abbrev pub of_names : Kind (Vec ℕ Global) (List ℕ)
of_names =
    record {
      order = slice_cmp nat_cmp;
      total = nat_list_cmp_total;
      apart = slice_cmp-IsAntisymmetric nat_cmp-IsAntisymmetric;
      plain = λ k. k.items;
      names = λ p k. pointwise nat_eq p k.items;
      ties = λ p k. texts_ties p k.items;
      eq = λ x y. pointwise nat_eq x.items y.items;
      sound = λ p x y. nat_list_eq_equiv.congr p x.items y.items;
    }

-- the key and the number of a change, and that each other key is as before
pub record Changed {P : Type 0} {R : P → P → Ordering} (old new : FinMap R ℕ) (p : P) (w : Option ℕ) : Type 0 where
  pub at : get new p ≡ w
  pub others : (q : P) → q ≢ p → get new q ≡ get old q

equal : (r : Ordering) → is_eq r ≡ true → r ≡ Equal
equal Less e = absurd (true≢false (sym e))
equal Equal e = refl
equal Greater e = absurd (true≢false (sym e))

module _ {K P : Type 0} (kind : Kind K P) where
  find-lookup : (es : List (K × ℕ)) (p : P) → find kind.order p (map (λ e. (kind.plain e.0, e.1)) es) ≡ lookup (kind.names p) es
  find-lookup [] p = refl
  find-lookup (e ∷ es) p = λ i. cond (sym (kind.ties p e.0) i) (Some e.1) (find-lookup es p i)

  pub get-seen : (es : List (K × ℕ)) (p : P) → get (seen kind.order kind.plain es) p ≡ lookup (kind.names p) es
  get-seen es p = get-from_entries kind.total (map (λ e. (kind.plain e.0, e.1)) es) p ∙ find-lookup es p

  named : (p : P) (k : K) → kind.names p k ≡ true → p ≡ kind.plain k
  named p k e = kind.apart p (kind.plain k) (equal _ (sym (kind.ties p k) ∙ e))

  other_names : (p q : P) → q ≢ p → (k : K) → kind.names p k ≡ true → kind.names q k ≡ false
  other_names p q ne k e =
      elim (kind.names q k) as (λ b. kind.names q k ≡ b → b ≡ false) [
        | true ↦ λ f. absurd (ne (named q k f ∙ sym (named p k e)))
        | false ↦ λ f. refl
      ] refl

  pub changed : (es fs : List (K × ℕ)) (old : FinMap kind.order ℕ) (p′ p : P) (w : Option ℕ) → seen kind.order kind.plain es ≡ old → p′ ≡ p
      → Puts kind.eq (kind.names p′) es fs w → Changed old (seen kind.order kind.plain fs) p w
  unfolding KeepsOthers
  changed es fs old p′ p w view key puts =
      let at : get (seen kind.order kind.plain fs) p′ ≡ w = get-seen fs p′ ∙ puts.0 in
      let others : (q : P) → q ≢ p → get (seen kind.order kind.plain fs) q ≡ get (seen kind.order kind.plain es) q = λ q ne.
      get-seen fs q ∙ puts.1 (kind.names q) (kind.sound q) (other_names p′ q (λ e. ne (e ∙ key))) ∙ sym (get-seen es q) in
      record {
        at = subst (λ k. get (seen kind.order kind.plain fs) k ≡ w) key at;
        others = λ q ne. others q ne ∙ ap (λ m. get m q) view;
      }

  -- a look-up of the entries is one of the directory
  pub lookup-old : (es : List (K × ℕ)) (old : FinMap kind.order ℕ) (p′ p : P) → seen kind.order kind.plain es ≡ old → p′ ≡ p
      → lookup (kind.names p′) es ≡ get old p
  lookup-old es old p′ p view key = sym (get-seen es p′) ∙ (λ i. get (view i) (key i))

module _ {P : Type 0} {R : P → P → Ordering} {old new : FinMap R ℕ} {p : P} where
  pub SameAt-others : {w : Option ℕ} → Changed old new p w → (q : P) → q ≢ p → SameAt old new q
  SameAt-others c q ne = (ap shown (c.others q ne), ap has_place (c.others q ne))

  -- a place that is made shows nothing
  pub found-reserved : IsTotalOrder R → IsAntisymmetric R → Changed old new p (Some 0) → found old p ≡ None → (q : P) → found new q ≡ found old q
  found-reserved o a c none q =
      elim (eq_by_cmp R q p) as (λ b. eq_by_cmp R q p ≡ b → found new q ≡ found old q) [
        | true ↦ λ e. subst (λ k. found new k ≡ found old k) (sym (a q p (equal _ e))) (ap shown c.at ∙ sym none)
        | false ↦ λ e. ap shown (c.others q (λ same. true≢false (sym (ap is_eq (subst (λ k. R k p ≡ Equal) (sym same) (tied_itself o p))) ∙ e)))
      ] refl

-- a place is vacant, or shows something
pub vacant_place : (r : Option ℕ) → has_place r ≡ true → r ≡ Some 0
vacant_place None h = absurd (true≢false (sym h))
vacant_place (Some zero) h = refl
vacant_place (Some (suc n)) h = absurd (true≢false (sym h))

pub shown-above : (n : ℕ) → 0 < n → shown (Some n) ≡ Some n
shown-above zero h = absurd (omega arith)
shown-above (suc n) h = refl

pub taken-above : (n : ℕ) → 0 < n → has_place (Some n) ≡ false
taken-above zero h = absurd (omega arith)
taken-above (suc n) h = refl

module _ {K P X E : Type 0} (kind : Kind K P) (es fs : List (K × ℕ)) (old : FinMap kind.order ℕ) (p′ p : P) (r : Result X E)
    (view : seen kind.order kind.plain es ≡ old) (key : p′ ≡ p) (ok : OnOk r (Puts kind.eq (kind.names p′) es fs (Some 0))) where
  pub reserved-vacant : OnOk r (has_place (get (seen kind.order kind.plain fs) p) ≡ true)
  reserved-vacant =
      elim r as (λ r. OnOk r (Puts kind.eq (kind.names p′) es fs (Some 0)) → OnOk r (has_place (get (seen kind.order kind.plain fs) p) ≡ true)) [
        | Ok x ↦ λ ok. ap has_place (changed kind es fs old p′ p (Some 0) view key ok).at
        | Err e ↦ λ ok. ok
      ] ok

  pub reserved-found : OnErr r (fs ≡ es) → found old p ≡ None → (q : P) → found (seen kind.order kind.plain fs) q ≡ found old q
  reserved-found err none q =
      elim r as (λ r. OnOk r (Puts kind.eq (kind.names p′) es fs (Some 0)) → OnErr r (fs ≡ es) → found (seen kind.order kind.plain fs) q ≡ found old q) [
        | Ok x ↦ λ ok err. found-reserved kind.total kind.apart (changed kind es fs old p′ p (Some 0) view key ok) none q
        | Err e ↦ λ ok err. ap (λ l. found (seen kind.order kind.plain l) q) err ∙ ap (λ m. found m q) view
      ] ok err

  pub reserved-others : OnErr r (fs ≡ es) → (q : P) → q ≢ p → is_vacant (seen kind.order kind.plain fs) q ≡ is_vacant old q
  reserved-others err q ne =
      elim r as (λ r. OnOk r (Puts kind.eq (kind.names p′) es fs (Some 0)) → OnErr r (fs ≡ es)
      → is_vacant (seen kind.order kind.plain fs) q ≡ is_vacant old q) [
        | Ok x ↦ λ ok err. ap has_place ((changed kind es fs old p′ p (Some 0) view key ok).others q ne)
        | Err e ↦ λ ok err. ap (λ l. is_vacant (seen kind.order kind.plain l) q) err ∙ ap (λ m. is_vacant m q) view
      ] ok err
