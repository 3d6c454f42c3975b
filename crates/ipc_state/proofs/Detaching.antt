-- Segments stay sound as they are detached, and those that are not attached stay what they are.
use Rattle.std.proofs.Common.{◌≡◌, ℕ, Bool, true, false, cond, List, [], ◌∷◌, Option, Some, None, refl, sym, ap, ◌∙◌, arith}
use Rattle.std.specs.Prelude.{◌||◌, ◌&&◌, not, pos, All, filter, is_some, nat_eq, option_map, unwrap_or, if◌then◌else◌}
use Rattle.std.specs.List.{list_any}
use Rattle.std.specs.Ordering.{int_eq}
use Rattle.std.proofs.lemmas.Bool.Decides.{nat_tests}
use Rattle.std.proofs.lemmas.List.Elements.{All-head, All-tail}
use Rattle.ipc_limits.specs.declared.limits.Limits.{Limits}
use Rattle.ipc_base.specs.Table.{keys_of}
use Rattle.ipc_base.proofs.CallerLemmas.{is_some-with_value, keys_of-with_value, other-with}
use Rattle.shm_segment.specs.SysSegment.{SysSegment, detached}
use Rattle.ipc_state.specs.declared.descriptors.Descriptor.{Descriptor}
use Rattle.ipc_state.specs.declared.parked.Object.{Object}
use Rattle.ipc_state.specs.declared.parked.ObjectKind.TheVariants as kinds
use Rattle.ipc_state.specs.declared.processes.Process.{Process}
use Rattle.ipc_state.specs.Attached.{detached_all, detached_at, detached_by, detached_each, detached_on}
use Rattle.ipc_state.specs.Bound.{holding, kept_if}
use Rattle.ipc_state.specs.Descriptors.{Table}
use Rattle.ipc_state.specs.Keyed.{Keyed, KeyedEntry}
use Rattle.ipc_state.specs.Numbered.{entry_of, with_entry}
use Rattle.ipc_state.specs.Kinds.{is_bound_so}
use Rattle.ipc_state.specs.Opening.{is_on, object_as, same_kind, stays, still_open}
use Rattle.ipc_state.specs.Sound.{AreSound}
use Rattle.ipc_state.proofs.Adjusting.{fold-keeps}
use Rattle.ipc_state.proofs.Numbering.{neither}
use Rattle.ipc_state.proofs.SoundOpening.{content-of, hold-sound}

-- one that is there is detached, or none
at-either : (P : Keyed SysSegment → Type 0) (moment pid : ℕ) (o : Keyed SysSegment) (id : ℕ)
    → ((e : KeyedEntry SysSegment) → entry_of o id ≡ Some e → P (with_entry o id (holding e (detached e.object (record { 0 = pid }) moment))))
    → P o → P (detached_at moment pid o id)
at-either P moment pid o id there none = by_entry (entry_of o id) there
  where
    by_entry : (r : Option (KeyedEntry SysSegment))
        → ((e : KeyedEntry SysSegment) → r ≡ Some e → P (with_entry o id (holding e (detached e.object (record { 0 = pid }) moment))))
        → P (unwrap_or (option_map (λ (e : KeyedEntry SysSegment). with_entry o id (holding e (detached e.object (record { 0 = pid }) moment))) r) o)
    by_entry None there = none
    by_entry (Some e) there = there e refl

-- what each keeps of which one is detached, all keep
abbrev Keeps : (Keyed SysSegment → Type 0) → Type 0
Keeps P = (moment pid : ℕ) (o : Keyed SysSegment) (id : ℕ) → P o → P (detached_at moment pid o id)

module _ (P : Keyed SysSegment → Type 0) (step : Keeps P) (moment : ℕ) where
  on-keeps : (pid : ℕ) (o : Keyed SysSegment) (on : Object) → P o → P (detached_on moment pid o on)
  on-keeps pid o on h = by_kind (same_kind on.kind kinds.Shm)
    where
      by_kind : (b : Bool) → P (if b then detached_at moment pid o on.number else o)
      by_kind true = step moment pid o on.number h
      by_kind false = h

  by-keeps : (pid : ℕ) (o : Keyed SysSegment) (d : Option Descriptor) → P o → P (detached_by moment pid o d)
  by-keeps pid o None h = h
  by-keeps pid o (Some d) h = on-keeps pid o d.on h

  all-keeps : (pid : ℕ) (o : Keyed SysSegment) (table : Table) → P o → P (detached_all moment pid o table)
  all-keeps pid o table h =
      fold-keeps P (λ (those : Keyed SysSegment) (d : ℕ × Descriptor). detached_on moment pid those d.1.on) (λ those d. on-keeps pid those d.1.on) o table h

  each-keeps : (o : Keyed SysSegment) (ps : List (ℕ × Process)) → P o → P (detached_each moment o ps)
  each-keeps o ps h =
      fold-keeps P (λ (those : Keyed SysSegment) (p : ℕ × Process). detached_all moment p.0 those p.1.descriptors)
      (λ those p. all-keeps p.0 those p.1.descriptors) o ps h

-- ---- what a change of segments keeps that only detaches some

-- they are sound if they were, the same identifiers are in use, and what was not there does not come
pub record AreDetached (limits : Limits) (ps : List (ℕ × Process)) (old new : Keyed SysSegment) : Type 0 where
  pub sound : AreSound limits ps kinds.Shm old → AreSound limits ps kinds.Shm new
  pub keys : keys_of new.entries ≡ keys_of old.entries
  pub next : new.next ≡ old.next
  pub there : (n : ℕ) → is_some (entry_of new n) ≡ is_some (entry_of old n)

module _ (limits : Limits) (ps : List (ℕ × Process)) (old : Keyed SysSegment) where
  none-detached : AreDetached limits ps old old
  none-detached = record { sound = λ h. h; keys = refl; next = refl; there = λ n. refl }

  one-detached : Keeps (AreDetached limits ps old)
  one-detached moment pid o id h =
      at-either (AreDetached limits ps old) moment pid o id (λ e is.
      let x : SysSegment = detached e.object (record { 0 = pid }) moment in
      record {
        sound = λ good. hold-sound limits ps kinds.Shm o (h.sound good) id e x is (content-of limits ps kinds.Shm o (h.sound good) id e is) (refl, refl);
        keys = keys_of-with_value nat_eq o.entries id (holding e x) ∙ h.keys;
        next = h.next;
        there = λ n. is_some-with_value nat_eq o.entries id n (holding e x) ∙ h.there n;
      }) h

  pub by-detached : (moment pid : ℕ) (d : Option Descriptor) → AreDetached limits ps old (detached_by moment pid old d)
  by-detached moment pid d = by-keeps (AreDetached limits ps old) one-detached moment pid old d none-detached

  pub all-detached : (moment pid : ℕ) (table : Table) → AreDetached limits ps old (detached_all moment pid old table)
  all-detached moment pid table = all-keeps (AreDetached limits ps old) one-detached moment pid old table none-detached

  pub each-detached : (moment : ℕ) (qs : List (ℕ × Process)) → AreDetached limits ps old (detached_each moment old qs)
  each-detached moment qs = each-keeps (AreDetached limits ps old) one-detached moment old qs none-detached

-- ---- what is not attached

module _ (moment n : ℕ) where
  abbrev segment : Object
  segment = object_as kinds.Shm n

  pub on-apart : (pid : ℕ) (o : Keyed SysSegment) (on : Object) → is_on segment on ≡ false → entry_of (detached_on moment pid o on) n ≡ entry_of o n
  on-apart pid o on apart = by_kind (same_kind on.kind kinds.Shm) apart
    where
      by_kind : (b : Bool) → (b && nat_eq on.number n) ≡ false → entry_of (if b then detached_at moment pid o on.number else o) n ≡ entry_of o n
      by_kind true other =
          at-either (λ (t : Keyed SysSegment). entry_of t n ≡ entry_of o n) moment pid o on.number
          (λ e is. other-with o.entries on.number n _ (λ same. grind (arith, nat_tests))) refl
      by_kind false other = refl

  pub all-apart : (pid : ℕ) (o : Keyed SysSegment) (table : Table) → list_any (λ (d : ℕ × Descriptor). is_on segment d.1.on) table ≡ false
      → entry_of (detached_all moment pid o table) n ≡ entry_of o n
  all-apart pid o [] none = refl
  all-apart pid o (d ∷ ds) none =
      let both = neither (is_on segment d.1.on) (list_any (λ (c : ℕ × Descriptor). is_on segment c.1.on) ds) none in
      all-apart pid (detached_on moment pid o d.1.on) ds both.1 ∙ on-apart pid o d.1.on both.0

  pub each-apart : (o : Keyed SysSegment) (ps : List (ℕ × Process))
      → list_any (λ (p : ℕ × Process). list_any (λ (d : ℕ × Descriptor). is_on segment d.1.on) p.1.descriptors) ps ≡ false
      → entry_of (detached_each moment o ps) n ≡ entry_of o n
  each-apart o [] none = refl
  each-apart o (p ∷ ps) none =
      let both = neither (list_any (λ (d : ℕ × Descriptor). is_on segment d.1.on) p.1.descriptors)
      (list_any (λ (q : ℕ × Process). list_any (λ (d : ℕ × Descriptor). is_on segment d.1.on) q.1.descriptors) ps) none in
      each-apart (detached_all moment p.0 o p.1.descriptors) ps both.1 ∙ all-apart p.0 o p.1.descriptors both.0

-- ---- a restart

-- with no process, those that stay are those that are not marked: one that is has no key
unmarked-stay : (es : List (ℕ × KeyedEntry SysSegment))
    → All (λ (e : ℕ × KeyedEntry SysSegment). is_bound_so kinds.Shm e.1.bound e.1.perm e.1.object ≡ true) es
    → filter (stays kinds.Shm []) es ≡ filter (λ (e : ℕ × KeyedEntry SysSegment). not e.1.object.is_marked) es
unmarked-stay [] h = refl
unmarked-stay (g ∷ es) h =
    let proper : ℕ × KeyedEntry SysSegment → Type 0 = λ e. is_bound_so kinds.Shm e.1.bound e.1.perm e.1.object ≡ true in
    let kept : List (ℕ × KeyedEntry SysSegment) = filter (stays kinds.Shm []) es in
    ap (λ (b : Bool). cond b (g ∷ kept) kept) (alone g.1.object.is_marked (int_eq g.1.bound (pos 0)) (All-head proper g es h))
    ∙ ap (λ (rest : List (ℕ × KeyedEntry SysSegment)). cond (not g.1.object.is_marked) (g ∷ rest) rest) (unmarked-stay es (All-tail proper g es h))
  where
    alone : (is_marked has_none : Bool) → (not is_marked || has_none) ≡ true → (not has_none || not is_marked) || false ≡ not is_marked
    alone true true h = refl
    alone true false h = sym h
    alone false true h = refl
    alone false false h = refl

pub unmarked-kept : (limits : Limits) (ps : List (ℕ × Process)) (o : Keyed SysSegment) → AreSound limits ps kinds.Shm o
    → still_open kinds.Shm [] o ≡ kept_if (λ (e : ℕ × KeyedEntry SysSegment). not e.1.object.is_marked) o
unmarked-kept limits ps o h =
    ap (λ (es : List (ℕ × KeyedEntry SysSegment)). let p : Keyed SysSegment = record { next = o.next; entries = es } in p)
    (unmarked-stay o.entries h.held.forms)
