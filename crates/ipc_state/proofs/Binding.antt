-- The objects of a kind stay sound as one comes, changes, loses its name or goes, and how it is told whether they are.
use Rattle.std.proofs.Common.{◌≡◌, ◌≢◌, ℕ, ◌+◌, ◌<◌, ◌≤◌, Bool, true, false, cond, List, [], ◌∷◌, length, Option, Some, None, map}
use Rattle.std.proofs.Common.{◌⊎◌, inl, inr, refl, sym, ap, subst, ◌∙◌, arith}
use Rattle.std.specs.Prelude.{nat_eq, nat_lt, ◌&&◌, ⊤}
use Rattle.std.specs.Bool.{Decides}
use Rattle.std.specs.List.{list_all, filter}
use Rattle.std.proofs.lemmas.Bool.Decides.{Decides-and}
use Rattle.std.proofs.lemmas.List.Elements.{All-nil, All-push, All-filter, All-map}
use Rattle.ipc_base.specs.Table.{keys_of, without, IsRising}
use Rattle.ipc_base.proofs.CallerLemmas.{All-with_value, All-value_at, rising-lower}
use Rattle.ipc_state.specs.declared.numbered.Item.{Item}
use Rattle.ipc_state.specs.declared.objects.Entry.{Entry}
use Rattle.ipc_state.specs.Bound.{AreBound, AreFound, NameThem, ObjectsOf, bound_row, kept_if, number_of, rebound, unbound, without_bound}
use Rattle.ipc_state.specs.Numbered.{none_yet, entry_of, is_full, with_entry, with_new, without_entry, AreNumbered}
use Rattle.ipc_state.specs.Tables.{item_row}
use Rattle.ipc_state.specs.Tests.{is_named}
use Rattle.ipc_state.proofs.EntryKeys.{Bounds, by_bound, IsNamed, named-push, same_keys, named_without, named-unkeyed, named-kept}
use Rattle.ipc_state.proofs.EntryKeys.{names-unkeyed, all_without, keys-decide, modes-decide}
use Rattle.ipc_state.proofs.Numbering.{none_yet-numbered, with_new-numbered, with_entry-numbered, without_entry-numbered}

-- numbers stay in order if some go
pub rising-filter : {X : Type 0} (p : ℕ × X → Bool) (low : ℕ) (es : List (ℕ × X)) (high : ℕ) → IsRising low (keys_of es) high
    → IsRising low (keys_of (filter p es)) high
rising-filter p low [] high h = h
rising-filter p low (e ∷ es) high h = by_test (p e) (rising-filter p (e.0 + 1) es high h.1)
  where
    by_test : (b : Bool) → IsRising (e.0 + 1) (keys_of (filter p es)) high → IsRising low (keys_of (cond b (e ∷ filter p es) (filter p es))) high
    by_test true rest = (h.0, rest)
    by_test false rest = rising-lower low (e.0 + 1) (keys_of (filter p es)) high (omega (arith, h.0)) rest

fewer : {X : Type 0} (p : X → Bool) (xs : List X) → length (filter p xs) ≤ length xs
fewer p [] = omega arith
fewer p (x ∷ xs) = by_test (p x) (fewer p xs)
  where
    by_test : (b : Bool) → length (filter p xs) ≤ length xs → length (cond b (x ∷ filter p xs) (filter p xs)) ≤ length (x ∷ xs)
    by_test true rest = omega (arith, rest)
    by_test false rest = omega (arith, rest)

-- the mode has nine bits
abbrev HasMode : {B X : Type 0} → ℕ × Entry B X → Type 0
HasMode e = e.1.perm.mode < 512

module _ {B X : Type 0} (b : Bounds B) (most : ℕ) (P : X → Type 0) where
  abbrev Sound : ObjectsOf B X → Type 0
  Sound = AreBound b.same b.none most P

  pub none_yet-bound : Sound none_yet
  none_yet-bound = record { numbered = none_yet-numbered most; bounds = All-nil _; modes = All-nil _; each = All-nil _ }

  pub with_new-bound : (o : ObjectsOf B X) (e : Entry B X) → number_of b.same b.none o e.bound ≡ None → is_full most o ≡ false → e.perm.mode < 512
      → P e.object → Sound o → Sound (with_new o e)
  with_new-bound o e unused room mode good h =
      record {
        numbered = with_new-numbered most o e room h.numbered;
        bounds = named-push (by_bound b) o.entries o.next e unused h.bounds;
        modes = All-push HasMode o.entries (o.next, e) h.modes mode;
        each = All-push (λ (f : ℕ × Entry B X). P f.1.object) o.entries (o.next, e) h.each good;
      }

  -- an entry in the place of one that is bound to the same, or to what names none
  pub with_entry-bound : (o : ObjectsOf B X) (n : ℕ) (e f : Entry B X) → entry_of o n ≡ Some e → (f.bound ≡ e.bound) ⊎ (f.bound ≡ b.none)
      → f.perm.mode < 512 → P f.object → Sound o → Sound (with_entry o n f)
  with_entry-bound o n e f is bound mode good h =
      record {
        numbered = with_entry-numbered most o n f h.numbered;
        bounds = elim bound [
          | inl same ↦ subst (λ (t : List (B × ℕ)). NameThem b.same b.none t) (sym (same_keys (by_bound b) o.entries n e f is same)) h.bounds
          | inr none ↦ named-unkeyed (by_bound b) o.entries o.next n f none h.numbered.numbers h.bounds
        ];
        modes = All-with_value nat_eq (λ (g : Entry B X). g.perm.mode < 512) o.entries n f h.modes mode;
        each = All-with_value nat_eq (λ (g : Entry B X). P g.object) o.entries n f h.each good;
      }

  pub entry-sound : (o : ObjectsOf B X) (n : ℕ) (e : Entry B X) → entry_of o n ≡ Some e → Sound o → P e.object
  entry-sound o n e is h = All-value_at nat_eq (λ (g : Entry B X). P g.object) o.entries n e h.each is

  pub entry-mode : (o : ObjectsOf B X) (n : ℕ) (e : Entry B X) → entry_of o n ≡ Some e → Sound o → e.perm.mode < 512
  entry-mode o n e is h = All-value_at nat_eq (λ (g : Entry B X). g.perm.mode < 512) o.entries n e h.modes is

  -- one is taken out
  pub without_entry-bound : (o : ObjectsOf B X) (n : ℕ) → Sound o → Sound (without_entry o n)
  without_entry-bound o n h =
      let left : List (ℕ × Entry B X) = without nat_eq o.entries n in
      record {
        numbered = without_entry-numbered most o n h.numbered;
        bounds = All-map (IsNamed (by_bound {X = X} b) (map bound_row left)) bound_row left
            (named_without (by_bound {X = X} b) o.entries o.next n h.numbered.numbers h.bounds);
        modes = all_without HasMode o.entries n h.modes;
        each = all_without (λ (e : ℕ × Entry B X). P e.1.object) o.entries n h.each;
      }

  -- some go that are bound to what names none
  pub kept_if-bound : (test : ℕ × Entry B X → Bool) → ((e : ℕ × Entry B X) → e.1.bound ≢ b.none → test e ≡ true) → (o : ObjectsOf B X) → Sound o
      → Sound (kept_if test o)
  kept_if-bound test stands o h =
      let count = fewer test o.entries in
      record {
        numbered = record {
          numbers = rising-filter test 1 o.entries o.next h.numbered.numbers;
          next = h.numbered.next;
          count = omega (arith, count, h.numbered.count);
        };
        bounds = named-kept (by_bound {X = X} b) test stands o.entries h.bounds;
        modes = All-filter test HasMode o.entries h.modes;
        each = All-filter test (λ (e : ℕ × Entry B X). P e.1.object) o.entries h.each;
      }

  pub are-found : (o : ObjectsOf B X) → Sound o → AreFound b.same b.none o
  are-found o h = record { numbers = h.numbered.numbers; bounds = h.bounds }

-- one is bound to none any more
pub unbound-bound : {B X : Type 0} (b : Bounds B) (most : ℕ) (P : X → Type 0) (f : X → X) (o : ObjectsOf B X) (n : ℕ) → ((x : X) → P x → P (f x))
    → AreBound b.same b.none most P o → AreBound b.same b.none most P (unbound f b.none o n)
unbound-bound {B} {X} b most P f o n keeps h = by_entry (entry_of o n) refl
  where
    by_entry : (r : Option (Entry B X)) → entry_of o n ≡ r → AreBound b.same b.none most P (without_bound f b.none o n r)
    by_entry None is = h
    by_entry (Some e) is =
        with_entry-bound b most P o n e (rebound f e b.none) is (inr refl) (entry-mode b most P o n e is h)
        (keeps e.object (entry-sound b most P o n e is h)) h

-- what is named after one is bound to none: as without its entry
pub unbound-names : {B X : Type 0} (b : Bounds B) (f : X → X) (o : ObjectsOf B X) (n : ℕ) (e : Entry B X) (k : B) → entry_of o n ≡ Some e
    → number_of b.same b.none (unbound f b.none o n) k ≡ number_of b.same b.none (without_entry o n) k
unbound-names b f o n e k is =
    ap (λ r. number_of b.same b.none (without_bound f b.none o n r) k) is ∙ names-unkeyed (by_bound b) o.entries n (rebound f e b.none) k refl

-- ---- how it is told

-- whether numbers, keys or names, and modes are sound, by a list that has the entries and a directory that agrees
pub bound-decides : {B T : Type 0} (b : Bounds B) (most : ℕ) (o : ObjectsOf B T) (items : List (Item (Entry B T))) → map item_row items ≡ o.entries
    → (number : B → Option ℕ) → ((key : B) → number key ≡ number_of b.same b.none o key) → AreNumbered most o
    → Decides (list_all (λ (e : Item (Entry B T)). is_named (number e.value.bound) (b.same e.value.bound b.none) e.number) items
    && list_all (λ (e : Item (Entry B T)). nat_lt e.value.perm.mode 512) items) (AreBound b.same b.none most (λ (x : T). ⊤) o)
bound-decides b most o items is number agrees numbered =
    let both = Decides-and _ _ (keys-decide (by_bound b) items o.entries is number agrees) (modes-decide (λ e. e.perm.mode) items o.entries is) in (
      λ yes. let h = both.0 yes in record { numbered = numbered; bounds = h.0; modes = h.1; each = λ k d within. tt },
      λ h. both.1 (h.bounds, h.modes),
    )
