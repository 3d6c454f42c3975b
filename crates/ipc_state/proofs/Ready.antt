-- What is ready to be added, as it comes and goes.
use Rattle.std.proofs.Common.{◌≡◌, ◌≢◌, ℕ, Bool, true, false, Option, Some, None, refl, sym, ap, subst, ◌∙◌}
use Rattle.ipc_state.specs.Directory.{IsReady}
use Rattle.ipc_state.proofs.EntryKeys.{Bounds}

module _ {K : Type 0} (keys : Bounds K) where
  -- no key is vacant
  abbrev pub NoneVacant : (K → Bool) → Type 0
  NoneVacant vacant = (key : K) → vacant key ≡ false

  -- of each key but this one they say the same
  abbrev pub SameBut : K → (K → Bool) → (K → Bool) → Type 0
  SameBut key old new = (other : K) → other ≢ key → new other ≡ old other

  abbrev pub Ready : (K → Bool) → (K → Option ℕ) → Bool → Option K → Type 0
  Ready = IsReady keys.none

  -- the keys name what they named, and a place stays
  pub ready-same : {vacant : K → Bool} {number number' : K → Option ℕ} {place place' : Bool} {ready : Option K}
      → ((key : K) → number' key ≡ number key) → (place ≡ true → place' ≡ true) → Ready vacant number place ready → Ready vacant number' place' ready
  ready-same same stays h =
      record { only = h.only; own = λ key is some none. h.own key is some (sym (same key) ∙ none); place = λ is. stays (h.place is) }

  -- nothing is ready
  pub ready-none : {vacant : K → Bool} {number : K → Option ℕ} {place : Bool} → NoneVacant vacant → Ready vacant number place None
  ready-none free = record { only = λ key is. let bad : true ≡ false = sym is ∙ free key in cc; own = λ key is. cc; place = λ is. cc }

  never : (vacant : K → Bool) → ((key : K) → vacant key ≡ true → ⊥) → NoneVacant vacant
  never vacant none key = by_test (vacant key) refl
    where
      by_test : (b : Bool) → vacant key ≡ b → b ≡ false
      by_test true is = absurd (none key is)
      by_test false is = refl

  pub none-vacant : {vacant : K → Bool} {number : K → Option ℕ} {place : Bool} → Ready vacant number place None → NoneVacant vacant
  none-vacant {vacant = vacant} h = never vacant (λ key is. let bad : None ≡ Some key = (h.only key is).0 in cc)

  module _ {old new : K → Bool} {number : K → Option ℕ} {place : Bool} (key : K) (others : SameBut key old new) where
    own-key : Ready old number place (Some key) → (other : K) → new other ≡ true → other ≢ key → ⊥
    own-key h other is apart =
        let own : Some key ≡ Some other = (h.only other (sym (others other apart) ∙ is)).0 in
        let here : key ≡ other = cc in
        apart (sym here)

    -- it has a number now
    pub taken : new keys.none ≡ old keys.none → (key ≢ keys.none → new key ≡ false) → Ready old number place (Some key) → NoneVacant new
    taken same gone h = never new (λ other is. by_test other is (keys.same other keys.none) refl)
      where
        by_test : (other : K) → new other ≡ true → (b : Bool) → keys.same other keys.none ≡ b → ⊥
        by_test other is true none =
            let here : other ≡ keys.none = (keys.decides other keys.none).0 none in
            (h.only keys.none (sym same ∙ (sym (ap new here) ∙ is))).1 refl
        by_test other is false some =
            own-key h other is (λ here.
            let apart : key ≢ keys.none = λ none.
            let same : keys.same other keys.none ≡ true = (keys.decides other keys.none).1 (here ∙ none) in let bad : true ≡ false = sym same ∙ some in cc in
            let bad : true ≡ false = sym is ∙ (ap new here ∙ gone apart) in
            cc)

  -- a key gets a place of its own
  pub ready-some : {old new : K → Bool} {number : K → Option ℕ} (key : K) → SameBut key old new → NoneVacant old → new keys.none ≡ old keys.none
      → (key ≢ keys.none → number key ≡ None → new key ≡ true) → Ready new number true (Some key)
  ready-some {old = old} {new = new} {number = number} key others free same own =
      record {
        only = λ other is. (
          by_key other is (keys.same key other) refl,
          λ none. let bad : true ≡ false = sym is ∙ (ap new none ∙ (same ∙ free keys.none)) in cc,
        );
        own = λ other is some none. let here : key ≡ other = cc in subst (λ (k : K). k ≢ keys.none → number k ≡ None → new k ≡ true) here own some none;
        place = λ is. refl;
      }
    where
      by_key : (other : K) → new other ≡ true → (b : Bool) → keys.same key other ≡ b → Some key ≡ Some other
      by_key other is true mine = ap (λ (k : K). Some k) ((keys.decides key other).0 mine)
      by_key other is false away =
          let apart : other ≢ key = λ here.
          let mine : keys.same key other ≡ true = (keys.decides key other).1 (sym here) in let bad : true ≡ false = sym mine ∙ away in cc in
          let bad : true ≡ false = sym is ∙ (others other apart ∙ free other) in
          cc
