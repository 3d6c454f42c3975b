-- Which messages a receive looks for, whatever others there are: it picks none only if none is there.
use Rattle.std.proofs.Common.{◌≡◌, ℕ, zero, suc, ℤ, pos, negsuc, ◌≤ℤ◌, ◌<ℤ◌, int_le, Bool, true, false, ◌&&◌}
use Rattle.std.proofs.Common.{refl, sym, ap, subst, ◌∙◌, arith, List, [], ◌∷◌, ◌++◌, take, drop, All, Contains, None}
use Rattle.std.specs.List.{remove}
use Rattle.std.proofs.lemmas.Int.{ints, by_lt_z}
use Rattle.std.proofs.lemmas.Bool.{and_left}
use Rattle.std.proofs.lemmas.List.Elements.{All-append, All-cons, All-nil, All-take, All-drop, All-weaker}
use Rattle.std.proofs.lemmas.List.Sums.{list_all-from_AllPass}
use Rattle.sysv_msg.specs.Queue.{PlainMessage, pick, is_allowed, is_of_least_type, is_sought}
use Rattle.ipc_arrivals.proofs.CallerLemmas.{position_none}
use Rattle.sysv_msg.proofs.Lists.{position-None}

abbrev NoneSought : ℤ → Bool → List PlainMessage → Type 0
NoneSought type except = All (λ (m : PlainMessage). is_sought type except m.mtype ≡ false)

-- ---- the least type

le_self : (x : ℤ) → x ≤ℤ x
le_self x = omega (arith, ints)

le_before : (x y z : ℤ) → x <ℤ y → y ≤ℤ z → x ≤ℤ z
le_before x y z h k = omega (arith, ints)

le_true : (x y : ℤ) → x ≤ℤ y → int_le x y ≡ true
le_true x y h = grind (arith, ints)

not_below : (least x limit : ℤ) → least ≤ℤ x → int_le least limit ≡ false → int_le x limit ≡ false
not_below least x limit h above = grind (arith, ints)

-- a message of the least type
record Least (messages : List PlainMessage) : Type 0 where
  message : PlainMessage
  there : Contains messages message
  lowest : All (λ m. message.mtype ≤ℤ m.mtype) messages

least_of : (m : PlainMessage) (messages : List PlainMessage) → Least (m ∷ messages)
least_of m [] = record {
  message = m;
  there = (0, omega arith, refl);
  lowest = All-cons (λ o. m.mtype ≤ℤ o.mtype) m [] (le_self m.mtype) (All-nil (λ o. m.mtype ≤ℤ o.mtype));
}
least_of m (n ∷ ns) =
    let rest = least_of n ns in
    by_lt_z m.mtype rest.message.mtype
    (λ below. record {
      message = m;
      there = (0, omega arith, refl);
      lowest = All-cons (λ o. m.mtype ≤ℤ o.mtype) m (n ∷ ns) (le_self m.mtype)
          (All-weaker _ (λ o. m.mtype ≤ℤ o.mtype) (λ o h. le_before m.mtype rest.message.mtype o.mtype below h) (n ∷ ns) rest.lowest);
    })
    (λ above. record {
      message = rest.message;
      there = (suc rest.there.0, omega (arith, rest.there.1), rest.there.2);
      lowest = All-cons (λ o. rest.message.mtype ≤ℤ o.mtype) m (n ∷ ns) above rest.lowest;
    })

-- ---- none is picked

all_true : (b : Bool) → b && true ≡ false → b ≡ false
all_true true h = h
all_true false h = h

-- if none is allowed, the least type is above the limit, and so are all
none_below : (messages : List PlainMessage) (n : ℕ) (except : Bool) → pick messages (negsuc n) except ≡ None → NoneSought (negsuc n) except messages
none_below [] n except none = All-nil _
none_below (m ∷ ms) n except none =
    let found = least_of m ms in
    let least : PlainMessage = found.message in
    let denied : is_allowed (m ∷ ms) (negsuc n) except least ≡ false =
    subst (λ (o : PlainMessage). is_allowed (m ∷ ms) (negsuc n) except o ≡ false) found.there.2
    (position-None (is_allowed (m ∷ ms) (negsuc n) except) (m ∷ ms) found.there.0 least none found.there.1) in
    let lowest : is_of_least_type (m ∷ ms) least ≡ true =
    list_all-from_AllPass (λ o. int_le least.mtype o.mtype) (m ∷ ms) (λ k d h. le_true _ _ (found.lowest k d h)) in
    let above : int_le least.mtype (pos (suc n)) ≡ false = all_true _ (ap (λ b. int_le least.mtype (pos (suc n)) && b) (sym lowest) ∙ denied) in
    All-weaker _ (λ o. int_le o.mtype (pos (suc n)) ≡ false) (λ o h. not_below least.mtype o.mtype (pos (suc n)) h above) (m ∷ ms) found.lowest

none_sought : (messages : List PlainMessage) (type : ℤ) (except : Bool) → pick messages type except ≡ None → NoneSought type except messages
none_sought messages (pos zero) except none = λ k d h. position-None (is_allowed messages (pos zero) except) messages k d none h
none_sought messages (pos (suc n)) except none = λ k d h. position-None (is_allowed messages (pos (suc n)) except) messages k d none h
none_sought messages (negsuc n) except none = none_below messages n except none

none_picked : (messages : List PlainMessage) (type : ℤ) (except : Bool) → NoneSought type except messages → pick messages type except ≡ None
none_picked messages (pos zero) except none = position_none (is_allowed messages (pos zero) except) messages none
none_picked messages (pos (suc n)) except none = position_none (is_allowed messages (pos (suc n)) except) messages none
none_picked messages (negsuc n) except none =
    position_none (is_allowed messages (negsuc n) except) messages (λ k d h. and_left _ _ (none k d h))

-- if none is picked, none is after one was removed
pub pick-removed : (messages : List PlainMessage) (type : ℤ) (except : Bool) (at : ℕ) → pick messages type except ≡ None
    → pick (remove messages at) type except ≡ None
pick-removed messages type except at none =
    let P : PlainMessage → Type 0 = λ m. is_sought type except m.mtype ≡ false in
    let all = none_sought messages type except none in
    none_picked (remove messages at) type except
    (All-append P (take at messages) (drop (suc at) messages) (All-take P at messages all) (All-drop P (suc at) messages all))

-- nor after one has come that it does not look for
pub pick-added : (messages : List PlainMessage) (type : ℤ) (except : Bool) (m : PlainMessage) → is_sought type except m.mtype ≡ false
    → pick messages type except ≡ None → pick (messages ++ m ∷ []) type except ≡ None
pick-added messages type except m other none =
    let P : PlainMessage → Type 0 = λ o. is_sought type except o.mtype ≡ false in
    none_picked (messages ++ m ∷ []) type except
    (All-append P messages (m ∷ []) (none_sought messages type except none) (All-cons P m [] other (All-nil P)))
