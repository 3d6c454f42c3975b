-- What is reserved, and what stands ready for it in the parts of the state.
use Rattle.std.proofs.Common.{◌≡◌, ◌<◌, ◌≤◌, ◌^◌, ℕ, ℤ, Bool, true, false, List, Option, Some, None, length, refl, ap, ◌∙◌, arith}
use Rattle.std.specs.Prelude.{option_map, is_some, nat_le, nat_lt, IfSome}
use Rattle.std.proofs.lemmas.Bool.Decides.{nat_tests}
use Rattle.ipc_base.specs.Table.{keys_of, IsRising}
use Rattle.ipc_base.proofs.CallerLemmas.{rising-bounds}
use Rattle.shm_segment.specs.Segment.{Segment}
use Rattle.ipc_state.specs.Held.{Ready, ready_of}
use Rattle.ipc_state.specs.Bound.{ObjectsOf, number_of}
use Rattle.ipc_state.specs.Directory.{ArePositive}
use Rattle.ipc_state.specs.Numbered.{is_full, last_number}
use Rattle.ipc_state.specs.Tables.{HeldObjects}
use Rattle.ipc_state.proofs.Directories.{named-positive}
use Rattle.ipc_state.proofs.EntryKeys.{Bounds}
use Rattle.ipc_state.proofs.Numbering.{neither}
use Rattle.ipc_state.specs.Held.Ready.{Nothing, Process, MsgQueue, Semset, Shm, Mq, Psem, Pshm, Zeros}

-- no part has anything
pub record NoneReady (p : Bool) (a : Option ℤ) (b : Option (ℤ × ℕ)) (s : Option (ℤ × Segment)) (c d e : Option (List ℕ)) (z : Option Segment) : Type 0 where
  pub process : p ≡ false
  pub msg_queue : a ≡ None
  pub semset : b ≡ None
  pub shm : s ≡ None
  pub mq : c ≡ None
  pub psem : d ≡ None
  pub pshm : e ≡ None
  pub zeros : z ≡ None

abbrev pub HasReady : Ready → Bool → Option ℤ → Option (ℤ × ℕ) → Option (ℤ × Segment) → Option (List ℕ) → Option (List ℕ) → Option (List ℕ)
    → Option Segment → Type 0
HasReady Nothing p a b s c d e z = NoneReady p a b s c d e z
HasReady Process p a b s c d e z = p ≡ true
HasReady (MsgQueue key) p a b s c d e z = a ≡ Some key
HasReady (Semset key nsems) p a b s c d e z = b ≡ Some (key, nsems)
HasReady (Shm key zeros) p a b s c d e z = s ≡ Some (key, zeros)
HasReady (Mq name) p a b s c d e z = c ≡ Some name
HasReady (Psem name) p a b s c d e z = d ≡ Some name
HasReady (Pshm name) p a b s c d e z = e ≡ Some name
HasReady (Zeros zeros) p a b s c d e z = z ≡ Some zeros

pub ready-there : (p : Bool) (a : Option ℤ) (b : Option (ℤ × ℕ)) (s : Option (ℤ × Segment)) (c d e : Option (List ℕ)) (z : Option Segment)
    → HasReady (ready_of p a b s c d e z) p a b s c d e z
ready-there true _ _ _ _ _ _ _ = refl
ready-there false (Some _) _ _ _ _ _ _ = refl
ready-there false None (Some _) _ _ _ _ _ = refl
ready-there false None None (Some _) _ _ _ _ = refl
ready-there false None None None (Some _) _ _ _ = refl
ready-there false None None None None (Some _) _ _ = refl
ready-there false None None None None None (Some _) _ = refl
ready-there false None None None None None None (Some _) = refl
ready-there false None None None None None None None =
    record { process = refl; msg_queue = refl; semset = refl; shm = refl; mq = refl; psem = refl; pshm = refl; zeros = refl }

-- under this key nothing stands, the numbers are in order, and one more may come
abbrev pub MayCome : {B X : Type 0} → Bounds B → ℕ → ObjectsOf B X → B → Type 0
MayCome b most o key = (number_of b.same b.none o key ≡ None) × ((IsRising 1 (keys_of o.entries) o.next) × (is_full most o ≡ false))

-- so what is ready under this key may be added
pub record Comes {B X : Type 0} (b : Bounds B) (h : HeldObjects B X) : Type 0 where
  pub ready : is_some h.ready ≡ true
  pub unused : IfSome h.ready (λ r. number_of b.same b.none h.objects r.0 ≡ None)
  pub positive : ArePositive h.objects.entries
  pub number : (0 < h.objects.next) × (h.objects.next < 2 ^ 31)

pub comes : {B X : Type 0} (b : Bounds B) (h : HeldObjects B X) (key : B) (most : ℕ) → option_map (λ r. r.0) h.ready ≡ Some key
    → MayCome b most h.objects key → Comes b h
comes {B} {X} b h key most mine may =
    let o = h.objects in
    let both = neither (nat_le most (length o.entries)) (nat_lt last_number o.next) may.1.1 in
    let least = rising-bounds 1 (keys_of o.entries) o.next may.1.0 in
    let left : o.next ≤ last_number = grind (arith, nat_tests) in
    record {
      ready = (by_ready h.ready mine).0;
      unused = (by_ready h.ready mine).1;
      positive = named-positive o.entries o.next may.1.0;
      number = (omega arith, omega arith);
    }
  where
    by_ready : (r : Option (B × X)) → option_map (λ (s : B × X). s.0) r ≡ Some key
        → (is_some r ≡ true) × IfSome r (λ s. number_of b.same b.none h.objects s.0 ≡ None)
    by_ready None is = cc
    by_ready (Some s) is = let same : s.0 ≡ key = cc in (refl, rw same may.0)

-- what is made of the one that is ready, of this key
pub come : {B X Y : Type 0} (ready : Option (B × X)) (key : B) (made : B × X → Y) (new want : Y) → option_map (λ r. r.0) ready ≡ Some key
    → ((x : X) → ready ≡ Some (key, x) → made (key, x) ≡ want) → IfSome ready (λ r. new ≡ made r) → new ≡ want
come {B} {X} ready key made new want mine is put = by_ready ready refl mine put
  where
    by_ready : (r : Option (B × X)) → ready ≡ r → option_map (λ (s : B × X). s.0) r ≡ Some key → IfSome r (λ s. new ≡ made s) → new ≡ want
    by_ready None at mine put = cc
    by_ready (Some s) at mine put =
        let same : s.0 ≡ key = cc in
        put ∙ (ap (λ (k : B). made (k, s.1)) same ∙ is s.1 (at ∙ ap (λ (k : B). Some (k, s.1)) same))

-- what is ready has a key, as it is seen with its key
pub asked-key : {X Y : Type 0} (f : X → Y) (ready : Option (ℤ × X)) (key : ℤ) (y : Y) → option_map {U = ℤ × Y} (λ r. (r.0, f r.1)) ready ≡ Some (key, y)
    → option_map (λ r. r.0) ready ≡ Some key
asked-key f None key y is = cc
asked-key {X} {Y} f (Some r) key y is = ap (option_map {U = ℤ} (λ (a : ℤ × Y). a.0)) is
