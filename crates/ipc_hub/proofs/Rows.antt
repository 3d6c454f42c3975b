-- The connections of the code as a table: each seen in another way, and one of a number that is found, lent, put in or taken out.
use Rattle.std.proofs.Common.{◌≡◌, ◌≢◌, ℕ, zero, suc, ◌<◌, ◌≤◌, ◌^◌, List, [], ◌∷◌, length, get_or, refl, sym, ap, ◌∙◌, subst, inl, inr, arith}
use Rattle.std.proofs.lemmas.Bool.{cases_eq, eqb-true}
use Rattle.std.proofs.lemmas.List.{length-set, get_or_default, get_or-set_same, get_or-set_other}
use Rattle.std.proofs.lemmas.Option.{slice_get-get_or, slice_get-map}
use Rattle.std.specs.Prelude.{nat_eq, nat_lt, Option, option_and_then, option_map, slice_get, true, false, Some, None, position}
use Rattle.std.specs.Prelude.{insert, set, if◌then◌else◌}
use Rattle.std.proofs.lemmas.Bool.Decides.{nat_tests}
use Rattle.ipc_base.specs.Table.{seen_as, EachValue, IsRising, keys_of, value_at, with_value, with_entry}
use Rattle.ipc_base.proofs.CallerLemmas.{first-at, keys-map, value_at_place, value_nowhere, same_key, test_cases}
use Rattle.ipc_engine.specs.Event.{PlainOutcome}
use Rattle.ipc_engine.specs.View.{reply_of}
use Rattle.ipc_hub.specs.declared.connection.Connection.{Connection}
use Rattle.ipc_hub.specs.Hub.{is_for}
use Rattle.ipc_hub.specs.View.{ConnectionView}
use Rattle.ipc_hub.specs.Relations.Delivery.{pushed, put_for}
use Rattle.ipc_hub.specs.Relations.Invariant.{AreApart}
use Rattle.ipc_hub.specs.Relations.Rows.{Table, row, rows, changed, process_in}

-- there is one value
pub same_value : {A : Type 0} (x y : A) → Some x ≡ Some y → x ≡ y
same_value x y is = cc

-- a table with the value that it has
pub same-value : (table : Table) (conn : ℕ) (was : ConnectionView) → value_at nat_eq table conn ≡ Some was → with_value nat_eq table conn was ≡ table
same-value [] conn was found = refl
same-value (e ∷ es) conn was found =
    elim (nat_eq e.0 conn) as (λ b. (if b then Some e.1 else value_at nat_eq es conn) ≡ Some was
    → (if b then (e.0, was) ∷ es else e ∷ with_value nat_eq es conn was) ≡ e ∷ es) [
      | true ↦ λ here. ap (λ (v : ConnectionView). (e.0, v) ∷ es) (sym (same_value e.1 was here))
      | false ↦ λ there. ap (λ (t : Table). e ∷ t) (same-value es conn was there)
    ] found

-- the process of a connection, if there is one
abbrev pub process_of : Option ConnectionView → Option ℕ
process_of r = option_and_then (λ (v : ConnectionView). v.process) r

-- what each row is, the one at a place is
pub each-get : (P : ConnectionView → Type 0) (cs : List Connection) (k : ℕ) (d : Connection) → EachValue P (rows cs) → k < length cs
    → P (get_or cs k d).session
each-get P [] k d each within = absurd (omega arith)
each-get P (c ∷ cs) zero d each within = each.0
each-get P (c ∷ cs) (suc k) d each within = each-get P cs k d each.1 (omega arith)

-- rows that are each seen in another way
pub rows-seen : (f : ConnectionView → ConnectionView) (old new : List Connection) → length new ≡ length old
    → ((k : ℕ) (d : Connection) → k < length old → row (get_or new k d) ≡ ((get_or old k d).number, f (get_or old k d).session))
    → rows new ≡ seen_as f (rows old)
rows-seen f [] [] count each = refl
rows-seen f [] (n ∷ new) count each = absurd (omega (arith, count))
rows-seen f (o ∷ old) [] count each = absurd (omega (arith, count))
rows-seen f (o ∷ old) (n ∷ new) count each =
    ap (λ (e : ℕ × ConnectionView). e ∷ rows new) (each 0 o (omega arith))
    ∙ ap (λ (es : Table). (o.number, f o.session) ∷ es)
    (rows-seen f old new (omega (arith, count)) (λ k d within. each (suc k) d (omega (arith, within))))

-- a loop has seen the first connections in another way, and those to come are as they were
pub record SeenUpTo (f : ConnectionView → ConnectionView) (i : ℕ) (initial now : List Connection) : Type 0 where
  pub count : length now ≡ length initial
  pub done : (k : ℕ) (d : Connection) → k < i → row (get_or now k d) ≡ ((get_or initial k d).number, f (get_or initial k d).session)
  pub rest : (k : ℕ) (d : Connection) → i ≤ k → get_or now k d ≡ get_or initial k d

pub seen-all : (f : ConnectionView → ConnectionView) (i : ℕ) (initial now : List Connection) → SeenUpTo f i initial now → length initial ≤ i
    → rows now ≡ seen_as f (rows initial)
seen-all f i initial now seen all = rows-seen f initial now seen.count (λ k d within. seen.done k d (omega (arith, within, all)))

-- and their numbers still rise
pub rising-seen : (f : ConnectionView → ConnectionView) (old new : Table) → new ≡ seen_as f old → IsRising 0 (keys_of old) (2 ^ 32)
    → IsRising 0 (keys_of new) (2 ^ 32)
rising-seen f old new is rising = rw (ap keys_of is ∙ keys-map f old) rising

-- ---- where a number stands, or would

-- a connection put in at the place of its number
pub entry-there : (cs : List Connection) (place : ℕ) (new : Connection) → place ≤ length cs
    → ((k : ℕ) (d : Connection) → k < place → (get_or cs k d).number < new.number)
    → ((k : ℕ) (d : Connection) → place ≤ k → k < length cs → new.number < (get_or cs k d).number)
    → rows (insert cs place new) ≡ with_entry (rows cs) new.number new.session
entry-there [] zero new within below above = refl
entry-there [] (suc p) new within below above = absurd (omega (arith, within))
entry-there (c ∷ cs) zero new within below above =
    let before : nat_lt new.number c.number ≡ true = let lt = above 0 c (omega arith) (omega arith) in grind (arith, nat_tests) in
    rw before refl
entry-there (c ∷ cs) (suc p) new within below above =
    let beyond : nat_lt new.number c.number ≡ false = let lt = below 0 c (omega arith) in grind (arith, nat_tests) in
    rw beyond (ap (λ (t : Table). row c ∷ t) (entry-there cs p new (omega (arith, within))
    (λ k d lt. below (suc k) d (omega (arith, lt)))
    (λ k d le lt. above (suc k) d (omega (arith, le)) (omega (arith, lt)))))

-- what a search over the elements of a vector found, or did not
module _ (items cs : List Connection) (conn : ℕ) (same : cs ≡ items) where
  pub found-first : (place : ℕ) → position (λ (c : Connection). nat_eq c.number conn) cs ≡ Some place
      → position (λ (c : Connection). nat_eq c.number conn) items ≡ Some place
  found-first place found = ap (position (λ (c : Connection). nat_eq c.number conn)) (sym same) ∙ found

  pub found-at : (place : ℕ) (was : Connection) → position (λ (c : Connection). nat_eq c.number conn) cs ≡ Some place → was ≡ get_or items place was
      → value_at nat_eq (rows items) conn ≡ Some was.session
  found-at place was found is = value_at_place row nat_eq conn items place was (found-first place found) is

  pub missing-first : position (λ (c : Connection). nat_eq c.number conn) cs ≡ None → position (λ (c : Connection). nat_eq c.number conn) items ≡ None
  missing-first none = ap (position (λ (c : Connection). nat_eq c.number conn)) (sym same) ∙ none

  pub missing-at : position (λ (c : Connection). nat_eq c.number conn) cs ≡ None → value_at nat_eq (rows items) conn ≡ None
  missing-at none = value_nowhere row nat_eq conn items (missing-first none)

-- a number that has no value is that of no connection
pub apart-from : (cs : List Connection) (n k : ℕ) (d : Connection) → value_at nat_eq (rows cs) n ≡ None → k < length cs → (get_or cs k d).number ≢ n
apart-from [] n k d none within = absurd (omega (arith, within))
apart-from (c ∷ cs) n zero d none within = λ same.
    let here : nat_eq c.number n ≡ true = rw same (same_key n) in let never : Some c.session ≡ None = rw here at none in cc
apart-from (c ∷ cs) n (suc k) d none within =
    elim (test_cases (nat_eq c.number n)) [
      | inl here ↦ let never : Some c.session ≡ None = rw here at none in cc
      | inr other ↦ apart-from cs n k d (rw other at none) (omega (arith, within))
    ]

-- a connection put in at the place that a search for its number gave
pub inserted : (items cs : List Connection) (place : ℕ) (new : Connection) → cs ≡ items → place ≤ length cs
    → ((k : ℕ) (d : Connection) → k < place → (get_or cs k d).number < new.number)
    → ((k : ℕ) (d : Connection) → place ≤ k → k < length cs → new.number ≤ (get_or cs k d).number) → value_at nat_eq (rows items) new.number ≡ None
    → rows (insert items place new) ≡ with_entry (rows items) new.number new.session
inserted items cs place new same within below rest =
    subst (λ (xs : List Connection). value_at nat_eq (rows xs) new.number ≡ None → rows (insert xs place new) ≡ with_entry (rows xs) new.number new.session)
    same (λ none. entry-there cs place new within below
    (λ k d le lt. let apart = apart-from cs new.number k d none lt in omega (arith, rest k d le lt, apart)))

-- the session that was lent has changed
pub put-changed : (see : ConnectionView → ConnectionView) (old new : Table) (conn : ℕ) (was now : ConnectionView) → new ≡ changed (λ _. now) conn old
    → Some was ≡ value_at nat_eq old conn → now ≡ see was → new ≡ changed see conn old
put-changed see old new conn was now put found is = rw (sym found) ((rw (sym found) at put) ∙ ap (with_value nat_eq old conn) is)

pub same-changed : (see : ConnectionView → ConnectionView) (table : Table) (conn : ℕ) → None ≡ value_at nat_eq table conn → table ≡ changed see conn table
same-changed see table conn none = rw (sym none) refl

-- the number of the connection at a place, and that it is the one that has this number
pub place-at : (items cs : List Connection) (place : ℕ) (c : Connection) → cs ≡ items → IsRising 0 (keys_of (rows items)) (2 ^ 32) → place < length cs
    → c ≡ get_or cs place c → (slice_get (keys_of (rows items)) place ≡ Some c.number) × (value_at nat_eq (rows items) c.number ≡ Some c.session)
place-at items cs place c same rising within is =
    let long : place < length items = rw (sym same) within in
    let one : c ≡ get_or items place c = rw (sym same) is in (
      slice_get-map (λ (e : ℕ × ConnectionView). e.0) (rows items) place
          ∙ ap (option_map (λ (e : ℕ × ConnectionView). e.0)) (slice_get-map row items place)
          ∙ ap (λ (o : Option Connection). option_map (λ (e : ℕ × ConnectionView). e.0) (option_map row o))
          (slice_get-get_or items place c long ∙ ap (λ (d : Connection). Some d) (sym one)),
      value_at_place row nat_eq c.number items place c (first-at row items place (2 ^ 32) c rising long one) one,
    )

-- ---- the connection that has a process

pub for-one : (o : PlainOutcome) (p : Option ℕ) → is_for o.pid p ≡ true → p ≡ Some o.pid
for-one o None is = cc
for-one o (Some pid) is = ap Some (eqb-true pid o.pid is)

-- a reply that is for no connection
pub put-nowhere : (o : PlainOutcome) (cs : List Connection)
    → ((k : ℕ) (d : Connection) → k < length cs → is_for o.pid (get_or cs k d).session.process ≡ false) → rows cs ≡ seen_as (put_for o) (rows cs)
put-nowhere o cs none = rows-seen (put_for o) cs cs refl (λ k d within. rw (none k d within) refl)

-- a reply that is for the connection at a place, and so for no other
module _ (o : PlainOutcome) (cs : List Connection) (rising : IsRising 0 (keys_of (rows cs)) (2 ^ 32)) (apart : AreApart (rows cs)) where
  has-it : (k : ℕ) (d : Connection) → k < length cs → is_for o.pid (get_or cs k d).session.process ≡ true
      → process_in (rows cs) (get_or cs k d).number ≡ Some o.pid
  has-it k d within mine =
      let c : Connection = get_or cs k d in
      ap process_of (place-at cs cs k c refl rising within (get_or_default cs k d c within)).1 ∙ for-one o c.session.process mine

  pub put-there : (place : ℕ) (was : Connection) (now : ConnectionView) → place < length cs → was ≡ get_or cs place was
      → is_for o.pid was.session.process ≡ true → now ≡ pushed (reply_of o) was.session
      → rows (set cs place (record was { session = now })) ≡ seen_as (put_for o) (rows cs)
  put-there place was now within is mine view =
      rows-seen (put_for o) cs (set cs place new) (length-set cs place new) (λ k d inside.
      elim (cases_eq k place) [
        | inl same ↦ rw (same, get_or-set_same cs place new d within, get_or_default cs place d was within, sym is, mine, view) refl
        | inr other ↦ rw (get_or-set_other cs place k new d other, not-for k d inside other) refl
      ])
    where
      new : Connection
      new = record was { session = now }

      here : is_for o.pid (get_or cs place was).session.process ≡ true
      here = subst (λ (c : Connection). is_for o.pid c.session.process ≡ true) is mine

      not-for : (k : ℕ) (d : Connection) → k < length cs → k ≢ place → is_for o.pid (get_or cs k d).session.process ≡ false
      not-for k d inside other =
          elim (test_cases (is_for o.pid (get_or cs k d).session.process)) [
            | inl t ↦
                let same = apart (get_or cs place was).number (get_or cs k d).number o.pid (has-it place was within here) (has-it k d inside t) in
                let at = λ (j : ℕ) (e : Connection) (lt : j < length cs).
                first-at row cs j (2 ^ 32) (get_or cs j e) rising lt (get_or_default cs j e (get_or cs j e) lt) in
                let one = ap (λ (n : ℕ). position (λ (c : Connection). nat_eq c.number n) cs) (sym same) in
                absurd (other (same_value k place (sym (at k d inside) ∙ (one ∙ at place was within))))
            | inr f ↦ f
          ]
