-- An object that does not count as changed is among those that were saved, with the same bytes.
use Rattle.std.proofs.Common.{◌≡◌, ◌⊎◌, ℕ, zero, suc, ◌+◌, ◌*◌, ◌/◌, ◌%◌, ◌^◌, ◌<◌, ◌≤◌, Bool, true, false, List, [], ◌∷◌, ◌++◌, map}
use Rattle.std.proofs.Common.{Option, Some, refl, sym, ap, subst, ◌∙◌, inl, inr, arith}
use Rattle.std.specs.Prelude.{All, if◌then◌else◌, nat_eq, option_map, unwrap_or}
use Rattle.std.specs.List.{slice_get}
use Rattle.std.proofs.lemmas.Bool.Decides.{nat_tests}
use Rattle.std.proofs.lemmas.Option.{same_Some}
use Rattle.ipc_limits.specs.declared.limits.Limits.{Limits}
use Rattle.ipc_base.specs.Objects.{PlainObjects, OthersAreThere}
use Rattle.ipc_base.specs.Table.{keys_of, value_at, IsRising}
use Rattle.ipc_keys.specs.declared.check.NameKind.TheVariants as names
use Rattle.ipc_state.specs.declared.parked.Object.{Object}
use Rattle.ipc_state.specs.declared.parked.ObjectKind.TheVariants as kinds
use Rattle.ipc_state.specs.Opening.{object_as}
use Rattle.ipc_state.specs.State.{State}
use Rattle.ipc_engine.specs.Changes.{IsTracked, is_changed}
use Rattle.ipc_image.specs.declared.format.Format.{Format}
use Rattle.ipc_image.specs.Format.{format, format_one}
use Rattle.ipc_image.specs.Changed.{differs_in}
use Rattle.ipc_image.specs.Kind.{object_in, FitsIn}
use Rattle.ipc_image.specs.Saved.{mq_bytes, mq_object, later_objects, psem_bytes, psem_object, pshm_object, queue_bytes, queue_object, saved, saved_in}
use Rattle.ipc_image.specs.Saved.{FitsMq, FitsPsem, FitsQueue, FitsSegment, FitsSet, FitsShm, later_in}
use Rattle.ipc_image.specs.Saved.{segment_bytes, set_bytes, set_object, shm_bytes, shm_object, StandForStateIn}
use Rattle.ipc_image.proofs.LaterObjects.{from_pshms}
use Rattle.ipc_image.proofs.Marks.{each-at}
use Rattle.ipc_image.proofs.SavedObjects.{things}

-- ---- one among others

abbrev Among : {X : Type 0} → List X → X → Type 0
Among xs x = (j : ℕ) × (slice_get xs j ≡ Some x)

module _ {X : Type 0} (x : X) where
  among-next : (y : X) (ys : List X) → Among ys x → Among (y ∷ ys) x
  among-next y ys at = (suc at.0, at.1)

  among-left : (xs ys : List X) → Among xs x → Among (xs ++ ys) x
  among-left xs ys at = (at.0, left xs at.0 at.1)
    where
      left : (zs : List X) (j : ℕ) → slice_get zs j ≡ Some x → slice_get (zs ++ ys) j ≡ Some x
      left [] j is = absurd cc
      left (z ∷ zs) zero is = is
      left (z ∷ zs) (suc j) is = left zs j is

  among-right : (xs ys : List X) → Among ys x → Among (xs ++ ys) x
  among-right [] ys at = at
  among-right (y ∷ xs) ys at = among-next y (xs ++ ys) (among-right xs ys at)

  either-at : (xs ys : List X) (j : ℕ) → slice_get (xs ++ ys) j ≡ Some x → Among xs x ⊎ Among ys x
  either-at [] ys j is = inr (j, is)
  either-at (y ∷ xs) ys zero is = inl (0, is)
  either-at (y ∷ xs) ys (suc j) is =
      elim (either-at xs ys j is) [
        | inl here ↦ inl (among-next y xs here)
        | inr later ↦ inr later
      ]

  among-either : (xs ys : List X) → Among (xs ++ ys) x → Among xs x ⊎ Among ys x
  among-either xs ys at = either-at xs ys at.0 at.1

-- ---- the objects of a kind

module _ {X : Type 0} where
  -- each number of a table is one entry's
  value-of : (low : ℕ) (es : List (ℕ × X)) (high : ℕ) (j : ℕ) (e : ℕ × X) → IsRising low (keys_of es) high → slice_get es j ≡ Some e
      → (low ≤ e.0) × (value_at nat_eq es e.0 ≡ Some e.1)
  value-of low [] high j e rising at = absurd cc
  value-of low (d ∷ es) high zero e rising at =
      let same : d ≡ e = same_Some d e at in
      let own : nat_eq d.0 e.0 ≡ true = subst (λ (p : ℕ × X). nat_eq d.0 p.0 ≡ true) same (grind (arith, nat_tests)) in
      (subst (λ (p : ℕ × X). low ≤ p.0) same rising.0, rw own (ap (λ (p : ℕ × X). Some p.1) same))
  value-of low (d ∷ es) high (suc j) e rising at =
      let rest = value-of (d.0 + 1) es high j e rising.1 at in
      let above : d.0 + 1 ≤ e.0 = rest.0 in
      let other : nat_eq d.0 e.0 ≡ false = grind (arith, nat_tests, above) in
      (omega (arith, above, rising.0), rw other rest.1)

  entry-of : (es : List (ℕ × X)) (n : ℕ) (x : X) → value_at nat_eq es n ≡ Some x → Among es (n, x)
  entry-of [] n x is = absurd cc
  entry-of (d ∷ es) n x is = by (nat_eq d.0 n) refl is (entry-of es n x)
    where
      by : (b : Bool) → nat_eq d.0 n ≡ b → (if b then Some d.1 else value_at nat_eq es n) ≡ Some x
          → (value_at nat_eq es n ≡ Some x → Among es (n, x)) → Among (d ∷ es) (n, x)
      by true own found rest =
          let number : d.0 ≡ n = grind (arith, nat_tests) in
          (0, λ i. Some (number i, same_Some d.1 x found i))
      by false other found rest = among-next (n, x) d es (rest found)

  module _ (first : ℕ) (bytes_of : X → List ℕ) where
    object-there : (es : List (ℕ × X)) (e : ℕ × X) → Among es e → Among (map (object_in first bytes_of) es) (object_in first bytes_of e)
    object-there es e at = (at.0, there es at.0 at.1)
      where
        there : (ds : List (ℕ × X)) (j : ℕ) → slice_get ds j ≡ Some e
            → slice_get (map (object_in first bytes_of) ds) j ≡ Some (object_in first bytes_of e)
        there [] j is = absurd cc
        there (d ∷ ds) zero is = ap (λ (p : ℕ × X). Some (object_in first bytes_of p)) (same_Some d e is)
        there (d ∷ ds) (suc j) is = there ds j is

    -- an object is of an entry
    of-entry : (es : List (ℕ × X)) (o : ℕ × List ℕ) → Among (map (object_in first bytes_of) es) o
        → (e : ℕ × X) × Among es e × (object_in first bytes_of e ≡ o)
    of-entry es o at = found es at.0 at.1
      where
        found : (ds : List (ℕ × X)) (j : ℕ) → slice_get (map (object_in first bytes_of) ds) j ≡ Some o
            → (e : ℕ × X) × Among ds e × (object_in first bytes_of e ≡ o)
        found [] j is = absurd cc
        found (d ∷ ds) zero is = (d, (0, refl), same_Some (object_in first bytes_of d) o is)
        found (d ∷ ds) (suc j) is = let rest = found ds j is in (rest.0, among-next rest.0 d ds rest.1, rest.2)

-- an object of a kind that does not count as changed is among the saved ones of the kind
kind-there : {X : Type 0} (marks : List Object) (k : ℕ) (bytes_of : X → List ℕ) (FitsX : X → Type 0) (before after : List (ℕ × X)) (high : ℕ)
    → ((n : ℕ) (x : X) → is_changed marks k n ≡ false → value_at nat_eq after n ≡ Some x → value_at nat_eq before n ≡ Some x)
    → IsRising 1 (keys_of after) high → All (FitsIn FitsX) after → (o : ℕ × List ℕ) → is_changed marks (o.0 / 2 ^ 32) (o.0 % 2 ^ 32) ≡ false
    → Among (map (object_in (k * 2 ^ 32) bytes_of) after) o → Among (map (object_in (k * 2 ^ 32) bytes_of) before) o
kind-there {X} marks k bytes_of FitsX before after high same rising fits o kept at =
    let first : ℕ = k * 2 ^ 32 in
    let found = of-entry first bytes_of after o at in
    let e : ℕ × X = found.0 in
    let small : e.0 < 2 ^ 32 = (each-at (FitsIn FitsX) after found.1.0 e fits found.1.1).0 in
    let number : first + e.0 ≡ o.0 = ap (λ (p : ℕ × List ℕ). p.0) found.2 in
    let kind : o.0 / 2 ^ 32 ≡ k = omega (arith, small, number) in
    let own : o.0 % 2 ^ 32 ≡ e.0 = omega (arith, small, number) in
    let unmarked : is_changed marks k e.0 ≡ false = sym (λ i. is_changed marks (kind i) (own i)) ∙ kept in
    let was = same e.0 e.1 unmarked (value-of 1 after high found.1.0 e rising found.1.1).1 in
    subst (λ (p : ℕ × List ℕ). Among (map (object_in first bytes_of) before) p) found.2
    (object-there first bytes_of before e (entry-of before e.0 e.1 was))

-- ---- those that every state has

always : (marks : List Object) (n : ℕ) (bytes : List ℕ) (o : ℕ × List ℕ) → n < 4 → Some (n, bytes) ≡ Some o
    → is_changed marks (o.0 / 2 ^ 32) (o.0 % 2 ^ 32) ≡ false → ⊥
always marks n bytes o few is kept =
    let number : n ≡ o.0 = ap (λ (p : ℕ × List ℕ). p.0) (same_Some (n, bytes) o is) in
    let kind : o.0 / 2 ^ 32 ≡ 0 = omega (arith, few, number) in
    let no : true ≡ false = sym (ap (λ (k : ℕ). is_changed marks k (o.0 % 2 ^ 32)) kind) ∙ kept in
    cc

-- ---- the state

module _ (own : Format) (limits : Limits) (marks : List Object) (before after : State) (tracked : IsTracked marks before after)
    (stand : StandForStateIn own limits after (saved_in own after)) (o : ℕ × List ℕ) (kept : is_changed marks (o.0 / 2 ^ 32) (o.0 % 2 ^ 32) ≡ false) where
  queues-there : Among (map (queue_object own.marks) after.msg.entries) o → Among (map (queue_object own.marks) before.msg.entries) o
  queues-there =
      kind-there marks 1 (queue_bytes own.marks) FitsQueue before.msg.entries after.msg.entries after.msg.next
      (λ n x off. tracked (object_as kinds.MsgQueue n) off x) stand.sound.parts.msg.held.bound.numbered.numbers stand.places.queues o kept

  sets-there : Among (map set_object after.semset.entries) o → Among (map set_object before.semset.entries) o
  sets-there =
      kind-there marks 2 set_bytes FitsSet before.semset.entries after.semset.entries after.semset.next
      (λ n x off. tracked (object_as kinds.Semset n) off x) stand.sound.parts.semset.held.bound.numbered.numbers stand.places.sets o kept

  mqs-there : Among (map mq_object after.mq.entries) o → Among (map mq_object before.mq.entries) o
  mqs-there =
      kind-there marks 3 mq_bytes FitsMq before.mq.entries after.mq.entries after.mq.next
      (λ n x off. tracked (object_as (kinds.Named names.Mq) n) off x) (stand.sound.parts.named names.Mq).held.bound.numbered.numbers
      stand.places.later.mqs o kept

  psems-there : Among (map psem_object after.psem.entries) o → Among (map psem_object before.psem.entries) o
  psems-there =
      kind-there marks 4 psem_bytes FitsPsem before.psem.entries after.psem.entries after.psem.next
      (λ n x off. tracked (object_as (kinds.Named names.Psem) n) off x) (stand.sound.parts.named names.Psem).held.bound.numbered.numbers
      stand.places.later.psems o kept

  segments-there : Among (map pshm_object after.pshm.entries) o → Among (map pshm_object before.pshm.entries) o
  segments-there =
      kind-there marks 5 segment_bytes FitsSegment before.pshm.entries after.pshm.entries after.pshm.next
      (λ n x off. tracked (object_as (kinds.Named names.Pshm) n) off x) (stand.sound.parts.named names.Pshm).held.bound.numbered.numbers
      stand.places.later.segments o kept

  shms-there : Among (map shm_object after.shm.entries) o → Among (map shm_object before.shm.entries) o
  shms-there =
      kind-there marks 6 shm_bytes FitsShm before.shm.entries after.shm.entries after.shm.next
      (λ n x off. tracked (object_as kinds.Shm n) off x) stand.sound.parts.shm.held.bound.numbered.numbers stand.places.later.shms o kept

  pshms-there : Among (from_pshms (later_in after)) o → Among (from_pshms (later_in before)) o
  pshms-there at =
      let gs : PlainObjects = map pshm_object before.pshm.entries in
      let hs : PlainObjects = map shm_object before.shm.entries in
      elim (among-either o (map pshm_object after.pshm.entries) (map shm_object after.shm.entries) at) [
        | inl segment ↦ among-left o gs hs (segments-there segment)
        | inr shm ↦ among-right o gs hs (shms-there shm)
      ]

  later-there : Among (later_objects (later_in after)) o → Among (later_objects (later_in before)) o
  later-there at =
      let qs : PlainObjects = map mq_object before.mq.entries in
      let xs : PlainObjects = map psem_object before.psem.entries in
      let gs : PlainObjects = from_pshms (later_in before) in
      elim (among-either o (map mq_object after.mq.entries) (map psem_object after.psem.entries ++ from_pshms (later_in after)) at) [
        | inl mq ↦ among-left o qs (xs ++ gs) (mqs-there mq)
        | inr rest ↦ among-right o qs (xs ++ gs)
            (elim (among-either o (map psem_object after.psem.entries) (from_pshms (later_in after)) rest) [
              | inl psem ↦ among-left o xs gs (psems-there psem)
              | inr segment ↦ among-right o xs gs (pshms-there segment)
            ])
      ]

  things-there : Among (things own.marks after) o → Among (things own.marks before) o
  things-there at =
      let qs : PlainObjects = map (queue_object own.marks) before.msg.entries in
      let ss : PlainObjects = map set_object before.semset.entries in
      let ns : PlainObjects = later_objects (later_in before) in
      elim (among-either o (map (queue_object own.marks) after.msg.entries) (map set_object after.semset.entries ++ later_objects (later_in after)) at) [
        | inl queue ↦ among-left o qs (ss ++ ns) (queues-there queue)
        | inr rest ↦ among-right o qs (ss ++ ns)
            (elim (among-either o (map set_object after.semset.entries) (later_objects (later_in after)) rest) [
              | inl set ↦ among-left o ss ns (sets-there set)
              | inr later ↦ among-right o ss ns (later-there later)
            ])
      ]

  saved-there : (form : Format) → own.marks ≡ form.marks → (i : ℕ) → slice_get (saved_in own after) i ≡ Some o → Among (saved_in form before) o
  unfolding saved_in
  saved-there form alike zero at = absurd (always marks 0 _ o (omega arith) at kept)
  saved-there form alike (suc zero) at = absurd (always marks 1 _ o (omega arith) at kept)
  saved-there form alike (suc (suc zero)) at = absurd (always marks 2 _ o (omega arith) at kept)
  saved-there form alike (suc (suc (suc zero))) at = absurd (always marks 3 _ o (omega arith) at kept)
  saved-there form alike (suc (suc (suc (suc i)))) at =
      let there = subst (λ (b : Bool). Among (things b before) o) alike (things-there (i, at)) in
      (suc (suc (suc (suc there.0))), there.1)

-- each object that does not count as changed is among those that were saved in a form with the same marks
pub others-there : (own form : Format) → own.marks ≡ form.marks → (limits : Limits) (marks : List Object) (before after : State)
    → IsTracked marks before after → StandForStateIn own limits after (saved_in own after)
    → OthersAreThere (differs_in marks (saved_in own after)) (saved_in own after) (saved_in form before)
others-there own form alike limits marks before after tracked stand i o at off =
    let kept : is_changed marks (o.0 / 2 ^ 32) (o.0 % 2 ^ 32) ≡ false =
    sym (ap (λ (r : Option (ℕ × List ℕ)). unwrap_or (option_map (λ p. is_changed marks (p.0 / 2 ^ 32) (p.0 % 2 ^ 32)) r) false) at) ∙ off in
    saved-there own limits marks before after tracked stand o kept form alike i at

pub old-others-there : (limits : Limits) (marks : List Object) (before after : State) → IsTracked marks before after
    → StandForStateIn format limits after (saved after) → OthersAreThere (differs_in marks (saved after)) (saved after) (saved_in format_one before)
old-others-there = others-there format format_one refl
