-- Adjustments stay at semaphores that are there, as sets and processes come and go.
use Rattle.std.proofs.Common.{◌≡◌, ◌≢◌, ◌≤◌, ℕ, ℤ, Bool, true, false, cond, List, [], ◌∷◌, ◌++◌, Option, Some, None, length, refl, sym, ap, subst, ◌∙◌, arith}
use Rattle.std.specs.Prelude.{◌-◌, ◌==◌, is_some, not, map, ◌&&◌, IsTrue, nat_eq, nat_lt, option_map, unwrap_or, All}
use Rattle.std.specs.List.{fold, list_all}
use Rattle.std.specs.FinMap as fin
use Rattle.std.specs.FinMap.{get-remove, get-empty, get-entries, len-entries, len-empty, len-remove, find}
use Rattle.std.specs.FinMap.{same_map, entries_sorted, entries-from_sorted, get-from_sorted}
use Rattle.std.specs.FinMap.Entries.{where_key, find-where_key, is_sorted-where_key}
use Rattle.std.specs.Bool.{Decides}
use Rattle.std.specs.Cmp.{tied_itself}
use Rattle.std.specs.declared.cmp.Ordering.{Ordering}
use Rattle.std.specs.declared.cmp.Ordering.TheVariants.{Less, Equal, Greater}
use Rattle.std.specs.Ordering.{is_eq}
use Rattle.std.proofs.lemmas.Bool.Decides.{nat_tests}
use Rattle.std.proofs.lemmas.List.{length-set}
use Rattle.std.proofs.lemmas.List.Filters.{length-filter_both}
use Rattle.ipc_limits.specs.declared.limits.Limits.{Limits}
use Rattle.ipc_limits.specs.Limits.{adjustment_limit, exceeds}
use Rattle.ipc_limits.proofs.CallerLemmas.{exceeds-less}
use Rattle.std.proofs.lemmas.List.Elements.{All-nil, All-cons, All-head, All-tail}
use Rattle.ipc_base.specs.Table.{value_at, with_value, without, keys_of, seen_as, EachValue}
use Rattle.ipc_base.specs.declared.identity.Pid.{Pid}
use Rattle.ipc_base.proofs.CallerLemmas.{at-with, other-with, value_at-without}
use Rattle.sem_undo.specs.Undo.{Key, Undo, key_cmp, cleared, without_set, IsSoundUndo}
use Rattle.sem_undo.proofs.CallerLemmas.{key_total, key_apart, retained, cleared-sound}
use Rattle.sysv_sem.specs.Set.{Set, after_exit}
use Rattle.ipc_state.specs.Keyed.{KeyedEntry, Keyed}
use Rattle.ipc_state.specs.declared.numbered.Item.{Item}
use Rattle.ipc_state.specs.Tables.{item_row}
use Rattle.ipc_state.specs.Bound.{holding}
use Rattle.ipc_state.specs.Numbered.{entry_of, with_entry, with_new, without_entry}
use Rattle.ipc_state.specs.Sound.{has_semaphore, AreAt, AreAdjustments, AreFew}
use Rattle.ipc_state.specs.State.{adjusted, undone}
use Rattle.ipc_state.proofs.Numbering.{none-exceeds}

-- ---- the semaphores that are there

-- what was there is there
abbrev pub HasAll : Keyed Set → Keyed Set → Type 0
HasAll old new = (k : Key) → has_semaphore old k ≡ true → has_semaphore new k ≡ true

-- an entry has a semaphore of this number
abbrev pub holds : Option (KeyedEntry Set) → ℕ → Bool
holds r num = unwrap_or (option_map (λ (e : KeyedEntry Set). nat_lt num (length e.object.semaphores)) r) false

-- a set of as many in the place of one that is there
pub has-with : (o : Keyed Set) (id : ℕ) (e f : KeyedEntry Set) → entry_of o id ≡ Some e → length f.object.semaphores ≡ length e.object.semaphores
    → (k : Key) → has_semaphore (with_entry o id f) k ≡ has_semaphore o k
has-with o id e f is same k = by_test (nat_eq k.0 id) refl
  where
    by_test : (b : Bool) → nat_eq k.0 id ≡ b → has_semaphore (with_entry o id f) k ≡ has_semaphore o k
    by_test true eq =
        let here : k.0 ≡ id = grind (arith, nat_tests) in
        ap (λ n. holds (value_at nat_eq (with_value nat_eq o.entries id f) n) k.1) here
        ∙ ap (λ r. holds r k.1) (at-with o.entries id f e is) ∙ ap (λ n. nat_lt k.1 n) same
        ∙ sym (ap (λ n. holds (value_at nat_eq o.entries n) k.1) here ∙ ap (λ r. holds r k.1) is)
    by_test false eq =
        let apart : k.0 ≢ id = λ same. grind (arith, nat_tests) in
        ap (λ r. holds r k.1) (other-with o.entries id k.0 f apart)

has-more : (es more : List (ℕ × KeyedEntry Set)) (k : Key) → holds (value_at nat_eq es k.0) k.1 ≡ true → holds (value_at nat_eq (es ++ more) k.0) k.1 ≡ true
has-more [] more k is = cc
has-more (e ∷ es) more k is = by_test (nat_eq e.0 k.0) is (has-more es more k)
  where
    by_test : (b : Bool) → holds (cond b (Some e.1) (value_at nat_eq es k.0)) k.1 ≡ true
        → (holds (value_at nat_eq es k.0) k.1 ≡ true → holds (value_at nat_eq (es ++ more) k.0) k.1 ≡ true)
        → holds (cond b (Some e.1) (value_at nat_eq (es ++ more) k.0)) k.1 ≡ true
    by_test true is later = is
    by_test false is later = later is

pub has-new : (o : Keyed Set) (e : KeyedEntry Set) → HasAll o (with_new o e)
has-new o e k is = has-more o.entries ((o.next, e) ∷ []) k is

pub has-without : (o : Keyed Set) (id : ℕ) (k : Key) → k.0 ≢ id → has_semaphore o k ≡ true → has_semaphore (without_entry o id) k ≡ true
has-without o id k apart is = ap (λ r. holds r k.1) (value_at-without o.entries id k.0 apart) ∙ is

-- ---- what an exit leaves

-- an adjustment of a set that is there, or of one that is not
pub adjusted-by : (P : Keyed Set → Type 0) (pid : ℕ) (o : Keyed Set) (a : Key × ℤ)
    → ((e : KeyedEntry Set) → entry_of o a.0.0 ≡ Some e → P (with_entry o a.0.0 (holding e (after_exit e.object a.0.1 a.1 (record { 0 = pid })))))
    → P o → P (adjusted pid o a)
adjusted-by P pid o a there none = by_entry (entry_of o a.0.0) there none
  where
    by_entry : (r : Option (KeyedEntry Set))
        → ((e : KeyedEntry Set) → r ≡ Some e → P (with_entry o a.0.0 (holding e (after_exit e.object a.0.1 a.1 (record { 0 = pid })))))
        → P o → P (unwrap_or (option_map (λ (e : KeyedEntry Set). with_entry o a.0.0 (holding e (after_exit e.object a.0.1 a.1 (record { 0 = pid })))) r) o)
    by_entry None there none = none
    by_entry (Some e) there none = there e refl

pub exit-length : (x : Set) (num : ℕ) (a : ℤ) (pid : Pid) → length (after_exit x num a pid).semaphores ≡ length x.semaphores
exit-length x num a pid = length-set x.semaphores num _

-- what one adjustment keeps, all of a process and those of all processes keep
pub fold-keeps : {A B : Type 0} (P : B → Type 0) (f : B → A → B) → ((b : B) (a : A) → P b → P (f b a)) → (b : B) (xs : List A) → P b → P (fold f b xs)
fold-keeps P f step b [] h = h
fold-keeps P f step b (x ∷ xs) h = fold-keeps P f step (f b x) xs (step b x h)

pub undone-keeps : (P : Keyed Set → Type 0) → ((pid : ℕ) (o : Keyed Set) (a : Key × ℤ) → P o → P (adjusted pid o a))
    → (o : Keyed Set) (p : ℕ × Undo) → P o → P (undone o p)
undone-keeps P step o p h = fold-keeps P (adjusted p.0) (step p.0) o (fin.entries p.1) h

pub all-undone-keeps : (P : Keyed Set → Type 0) → ((pid : ℕ) (o : Keyed Set) (a : Key × ℤ) → P o → P (adjusted pid o a))
    → (o : Keyed Set) (ps : List (ℕ × Undo)) → P o → P (fold undone o ps)
all-undone-keeps P step o ps h = fold-keeps P undone (undone-keeps P step) o ps h

-- one adjustment leaves the semaphores that are there
pub has-adjusted : (start : Keyed Set) (pid : ℕ) (o : Keyed Set) (a : Key × ℤ) → HasAll start o → HasAll start (adjusted pid o a)
has-adjusted start pid o a h =
    adjusted-by (HasAll start) pid o a
    (λ e is k was.
    has-with o a.0.0 e (holding e (after_exit e.object a.0.1 a.1 (record { 0 = pid }))) is (exit-length e.object a.0.1 a.1 (record { 0 = pid })) k
    ∙ h k was) h

-- ---- soundness

pub each-moved : (old new : Keyed Set) → HasAll old new → (undo : List (ℕ × Undo)) → EachValue (AreAt old) undo → EachValue (AreAt new) undo
each-moved old new all [] h = tt
each-moved old new all (p ∷ ps) h = (λ k there. all k (h.0 k there), each-moved old new all ps h.1)

pub moved : (limits : Limits) (pids : List ℕ) (old new : Keyed Set) (undo : List (ℕ × Undo)) → HasAll old new → AreAdjustments limits pids old undo
    → AreAdjustments limits pids new undo
moved limits pids old new undo all h = record { pids = h.pids; each = each-moved old new all undo h.each; kept = h.kept; few = h.few }

-- what is cleared was there before, and not at what is cleared
pub cleared-there : (set : ℕ) (num : Option ℕ) (u : Undo) (k : Key) → is_some (fin.get (cleared set num u) k) ≡ true → is_some (fin.get u k) ≡ true
cleared-there set None u k is = kept _ (ap is_some (sym (retained u _ k)) ∙ is)
  where
    kept : (b : Bool) → is_some (cond b (fin.get u k) None) ≡ true → is_some (fin.get u k) ≡ true
    kept true is = is
    kept false is = cc
cleared-there set (Some num) u k is = kept _ (ap is_some (sym (get-remove key_total u (set, num) k)) ∙ is)
  where
    kept : (b : Bool) → is_some (cond b None (fin.get u k)) ≡ true → is_some (fin.get u k) ≡ true
    kept true is = cc
    kept false is = is

pub cleared-apart : (set : ℕ) (u : Undo) (k : Key) → is_some (fin.get (without_set set u) k) ≡ true → k.0 ≢ set
cleared-apart set u k is = apart (nat_eq k.0 set) refl (ap is_some (sym (retained u _ k)) ∙ is)
  where
    apart : (b : Bool) → nat_eq k.0 set ≡ b → is_some (cond (not b) (fin.get u k) None) ≡ true → k.0 ≢ set
    apart true eq is = λ _. cc
    apart false eq is = λ same. grind (arith, nat_tests)

pub each-cleared : (o : Keyed Set) (set : ℕ) (num : Option ℕ) (undo : List (ℕ × Undo)) → EachValue (AreAt o) undo
    → EachValue (AreAt o) (seen_as (cleared set num) undo)
each-cleared o set num [] h = tt
each-cleared o set num (p ∷ ps) h = (λ k there. h.0 k (cleared-there set num p.1 k there), each-cleared o set num ps h.1)

-- what is left is in its range, and not 0
pub kept-cleared : (set : ℕ) (num : Option ℕ) (undo : List (ℕ × Undo)) → EachValue IsSoundUndo undo
    → EachValue IsSoundUndo (seen_as (cleared set num) undo)
kept-cleared set num [] h = tt
kept-cleared set num (p ∷ ps) h = (cleared-sound set num p.1 h.0, kept-cleared set num ps h.1)

-- and there are no more
retained-is : (u : Undo) (p : Key → Bool) → fin.from_sorted {R = key_cmp} (where_key key_cmp p (fin.entries u)) ≡ fin.retain_keys u p
retained-is u p =
    same_map key_total key_apart _ _ (λ q.
    get-from_sorted key_cmp (where_key key_cmp p (fin.entries u)) q (is_sorted-where_key key_cmp p (fin.entries u) (entries_sorted u))
    ∙ find-where_key key_cmp p q (λ x e. ap p (sym (key_apart q x e))) (fin.entries u)
    ∙ ap (λ r. cond (p q) r None) (sym (get-entries u q)) ∙ sym (retained u p q))

fewer-retained : (u : Undo) (p : Key → Bool) → fin.len (fin.retain_keys u p) ≤ fin.len u
fewer-retained u p =
    let left : List (Key × ℤ) = where_key key_cmp p (fin.entries u) in
    omega (
      arith,
      ap (λ (v : Undo). fin.len v) (retained-is u p),
      len-entries (fin.from_sorted {R = key_cmp} left),
      ap (λ (es : List (Key × ℤ)). length es) (entries-from_sorted key_cmp left (is_sorted-where_key key_cmp p (fin.entries u) (entries_sorted u))),
      length-filter_both (λ (e : Key × ℤ). p e.0) (λ e. not (p e.0)) (λ e. refl) (fin.entries u),
      len-entries u,
    )

fewer-cleared : (set : ℕ) (num : Option ℕ) (u : Undo) → fin.len (cleared set num u) ≤ fin.len u
fewer-cleared set None u = fewer-retained u (λ k. not (k.0 == set))
fewer-cleared set (Some num) u = by_test (fin.contains_key u (set, num)) (len-remove key_total u (set, num))
  where
    by_test : (b : Bool) → fin.len (fin.remove u (set, num)) ≡ cond b (fin.len u - 1) (fin.len u) → fin.len (fin.remove u (set, num)) ≤ fin.len u
    by_test true is = omega (arith, is)
    by_test false is = omega (arith, is)

pub few-cleared : (limits : Limits) (set : ℕ) (num : Option ℕ) (undo : List (ℕ × Undo)) → EachValue (AreFew limits) undo
    → EachValue (AreFew limits) (seen_as (cleared set num) undo)
few-cleared limits set num [] h = tt
few-cleared limits set num (p ∷ ps) h =
    (exceeds-less (fin.len (cleared set num p.1)) (fin.len p.1) (adjustment_limit limits) (fewer-cleared set num p.1) h.0, few-cleared limits set num ps h.1)

pub none-few : (limits : Limits) → AreFew limits fin.empty
none-few limits =
    let none : Undo = fin.empty in
    exceeds-less (fin.len none) 0 (adjustment_limit limits) (omega (arith, len-empty key_cmp ℤ)) (none-exceeds (adjustment_limit limits))

-- a set goes, and its adjustments with it
pub each-dropped : (o : Keyed Set) (set : ℕ) (undo : List (ℕ × Undo)) → EachValue (AreAt o) undo
    → EachValue (AreAt (without_entry o set)) (seen_as (cleared set None) undo)
each-dropped o set [] h = tt
each-dropped o set (p ∷ ps) h = (
  λ k there. has-without o set k (cleared-apart set p.1 k there) (h.0 k (cleared-there set None p.1 k there)),
  each-dropped o set ps h.1,
)

pub none-at : (o : Keyed Set) → AreAt o fin.empty
none-at o k there = let none = ap is_some (sym (get-empty key_cmp k)) ∙ there in cc

-- ---- how it is told

and-both : (a b : Bool) → a ≡ true → b ≡ true → (a && b) ≡ true
and-both true b here there = there
and-both false b here there = cc

and-left : (a b : Bool) → (a && b) ≡ true → a ≡ true
and-left true b is = refl
and-left false b is = cc

and-right : (a b : Bool) → (a && b) ≡ true → b ≡ true
and-right true b is = is
and-right false b is = cc

is-istrue : (b : Bool) → b ≡ true → IsTrue b
is-istrue b is = cc

not-false : (b : Bool) → not b ≡ true → b ≡ false
not-false true is = cc
not-false false is = refl

istrue-is : (b : Bool) → IsTrue b → b ≡ true
istrue-is true is = refl
istrue-is false is = cc

told-one : (sets : Keyed Set) (es : List (Key × ℤ)) → list_all (λ a. has_semaphore sets a.0) es ≡ true
    → (k : Key) → is_some (find key_cmp k es) ≡ true → has_semaphore sets k ≡ true
told-one sets [] h k is = cc
told-one sets (e ∷ es) h k is =
    by_order (key_cmp k e.0) refl (and-left _ _ h) is (told-one sets es (and-right _ _ h) k)
  where
    by_order : (r : Ordering) → key_cmp k e.0 ≡ r → has_semaphore sets e.0 ≡ true → is_some (cond (is_eq r) (Some e.1) (find key_cmp k es)) ≡ true
        → (is_some (find key_cmp k es) ≡ true → has_semaphore sets k ≡ true) → has_semaphore sets k ≡ true
    by_order Less eq here is later = later is
    by_order Equal eq here is later = ap (has_semaphore sets) (key_apart k e.0 eq) ∙ here
    by_order Greater eq here is later = later is

tells-one : (sets : Keyed Set) (es : List (Key × ℤ)) → ((k : Key) → is_some (find key_cmp k es) ≡ true → has_semaphore sets k ≡ true)
    → list_all (λ a. has_semaphore sets a.0) es ≡ true
tells-one sets [] h = refl
tells-one sets (e ∷ es) h =
    and-both _ _ (h e.0 (ap (λ r. is_some (cond (is_eq r) (Some e.1) (find key_cmp e.0 es))) (tied_itself key_total e.0)))
    (tells-one sets es (λ k is. h k (later (is_eq (key_cmp k e.0)) k is)))
  where
    later : (b : Bool) (k : Key) → is_some (find key_cmp k es) ≡ true → is_some (cond b (Some e.1) (find key_cmp k es)) ≡ true
    later true k is = refl
    later false k is = is

-- whether the adjustments of a process are at semaphores
pub told-at : (sets : Keyed Set) (u : Undo) → Decides (list_all (λ a. has_semaphore sets a.0) (fin.entries u)) (AreAt sets u)
told-at sets u = (
  λ is k there. told-one sets (fin.entries u) (istrue-is _ is) k (subst (λ r. is_some r ≡ true) (get-entries u k) there),
  λ at. is-istrue _ (tells-one sets (fin.entries u) (λ k there. at k (subst (λ r. is_some r ≡ true) (sym (get-entries u k)) there))),
)

-- they are, and in their range
abbrev pub AreKept : Keyed Set → Item Undo → Type 0
AreKept sets e = AreAt sets e.value × IsSoundUndo e.value

pub told-each : (sets : Keyed Set) (items : List (Item Undo)) → All (AreKept sets) items
    → EachValue (AreAt sets) (map item_row items) × EachValue IsSoundUndo (map item_row items)
told-each sets [] all = (tt, tt)
told-each sets (e ∷ es) all =
    let here = All-head (AreKept sets) e es all in
    let rest = told-each sets es (All-tail (AreKept sets) e es all) in
    ((here.0, rest.0), (here.1, rest.1))

pub tells-each : (sets : Keyed Set) (items : List (Item Undo))
    → EachValue (AreAt sets) (map item_row items) × EachValue IsSoundUndo (map item_row items) → All (AreKept sets) items
tells-each sets [] each = All-nil (AreKept sets)
tells-each sets (e ∷ es) each = All-cons (AreKept sets) e es (each.0.0, each.1.0) (tells-each sets es (each.0.1, each.1.1))

-- whether each process has few
told-few : (limit : Option ℕ) (items : List (Item Undo)) → list_all (λ e. not (exceeds (fin.len e.value) limit)) items ≡ true
    → EachValue (λ u. exceeds (fin.len u) limit ≡ false) (map item_row items)
told-few limit [] is = tt
told-few limit (e ∷ es) is = (not-false _ (and-left _ _ is), told-few limit es (and-right _ _ is))

tells-few : (limit : Option ℕ) (items : List (Item Undo)) → EachValue (λ u. exceeds (fin.len u) limit ≡ false) (map item_row items)
    → list_all (λ e. not (exceeds (fin.len e.value) limit)) items ≡ true
tells-few limit [] each = refl
tells-few limit (e ∷ es) each = and-both _ _ (ap not each.0) (tells-few limit es each.1)

pub few-decides : (limit : Option ℕ) (items : List (Item Undo))
    → Decides (list_all (λ e. not (exceeds (fin.len e.value) limit)) items) (EachValue (λ u. exceeds (fin.len u) limit ≡ false) (map item_row items))
few-decides limit items = (λ is. told-few limit items is, λ each. tells-few limit items each)

-- ---- whose they are

pub seen-keys : {X Y : Type 0} (f : X → Y) (es : List (ℕ × X)) → keys_of (seen_as f es) ≡ keys_of es
seen-keys f [] = refl
seen-keys f (e ∷ es) = ap (λ (ks : List ℕ). e.0 ∷ ks) (seen-keys f es)

pub push-same : {X Y : Type 0} (xs : List (ℕ × X)) (ys : List (ℕ × Y)) (k : ℕ) (x : X) (y : Y) → keys_of xs ≡ keys_of ys
    → keys_of (xs ++ (k, x) ∷ []) ≡ keys_of (ys ++ (k, y) ∷ [])
push-same xs ys k x y same = keys-push xs k x ∙ ap (λ (ks : List ℕ). ks ++ k ∷ []) same ∙ sym (keys-push ys k y)
  where
    keys-push : {Z : Type 0} (zs : List (ℕ × Z)) (k : ℕ) (z : Z) → keys_of (zs ++ (k, z) ∷ []) ≡ keys_of zs ++ k ∷ []
    keys-push [] k z = refl
    keys-push (e ∷ zs) k z = ap (λ (ks : List ℕ). e.0 ∷ ks) (keys-push zs k z)

pub without-same : {X Y : Type 0} (xs : List (ℕ × X)) (ys : List (ℕ × Y)) (k : ℕ) → keys_of xs ≡ keys_of ys
    → keys_of (without nat_eq xs k) ≡ keys_of (without nat_eq ys k)
without-same [] [] k same = refl
without-same [] (y ∷ ys) k same = cc
without-same (x ∷ xs) [] k same = cc
without-same {X} {Y} (x ∷ xs) (y ∷ ys) k same =
    by_test (nat_eq x.0 k) (nat_eq y.0 k) (ap (λ n. nat_eq n k) (first same)) (first same) (rest same) (without-same xs ys k (rest same))
  where
    first : keys_of (x ∷ xs) ≡ keys_of (y ∷ ys) → x.0 ≡ y.0
    first same = cc

    rest : keys_of (x ∷ xs) ≡ keys_of (y ∷ ys) → keys_of xs ≡ keys_of ys
    rest same = cc

    by_test : (a b : Bool) → a ≡ b → x.0 ≡ y.0 → keys_of xs ≡ keys_of ys → keys_of (without nat_eq xs k) ≡ keys_of (without nat_eq ys k)
        → keys_of (cond a xs (x ∷ without nat_eq xs k)) ≡ keys_of (cond b ys (y ∷ without nat_eq ys k))
    by_test true true eq at all left = all
    by_test true false eq at all left = cc
    by_test false true eq at all left = cc
    by_test false false eq at all left = λ i. at i ∷ left i

pub each-pushed : {X : Type 0} (P : X → Type 0) (es : List (ℕ × X)) (k : ℕ) (x : X) → EachValue P es → P x → EachValue P (es ++ (k, x) ∷ [])
each-pushed P [] k x h p = (p, tt)
each-pushed P (e ∷ es) k x h p = (h.0, each-pushed P es k x h.1 p)

-- who has none changes no set
pub none-undone : (sets : Keyed Set) (pid : ℕ) (undo : List (ℕ × Undo)) → value_at nat_eq undo pid ≡ None
    → undone sets (pid, unwrap_or (value_at nat_eq undo pid) fin.empty) ≡ sets
none-undone sets pid undo none =
    ap (λ r. fold (adjusted pid) sets (fin.entries (unwrap_or r fin.empty))) none
    ∙ ap (fold (adjusted pid) sets) (no-entries (fin.entries fin.empty) (sym (len-entries fin.empty) ∙ len-empty key_cmp ℤ))
  where
    no-entries : (es : List (Key × ℤ)) → length es ≡ 0 → es ≡ []
    no-entries [] is = refl
    no-entries (e ∷ es) is = cc
