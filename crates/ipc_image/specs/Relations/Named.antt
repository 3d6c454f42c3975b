-- A named semaphore, and a segment, is known by the bytes of its object.
use Rattle.std.proofs.Common.{◌≡◌, ◌≤◌, ℕ, true, nat_eq, List, [], ◌++◌, length, refl, sym, ap}
use Rattle.std.specs.Prelude.{⊤}
use Rattle.std.proofs.lemmas.Bool.{and_from, and_parts, eq-eqb, eqb-true}
use Rattle.std.proofs.lemmas.List.{take_at, drop_at}
use Rattle.posix_sem.specs.Semaphore.{sem_value_max}
use Rattle.shm_segment.specs.Segment.{Segment}
use Rattle.ipc_perm.specs.declared.perm.Perm.{Perm}
use Rattle.ipc_state.specs.Named.{NamedEntry, is_own}
use Rattle.ipc_image.specs.Saved.{psem_shape, psem_tree, psem_bytes, FitsNamed, FitsPsem}
use Rattle.ipc_image.specs.Saved.{segment_shape, segment_tree, segment_bytes, FitsSegment}
use Rattle.ipc_image.specs.SavedParts.{own_perm, psem_from, segment_from}
use Rattle.ipc_image.specs.Shape.{Shape, Tree, bytes_in}
use Rattle.ipc_image.specs.Relations.Shapes.{plain_one}
use Rattle.ipc_image.specs.Relations.Trees.{one_if_back}

-- who may use it, by the owner and the mode
pub own_known : (perm : Perm) → is_own perm ≡ true → own_perm perm.uid perm.gid perm.mode ≡ perm
own_known perm own =
    let both = and_parts (nat_eq perm.cuid perm.uid) (nat_eq perm.cgid perm.gid) own in
    let user = sym (eqb-true perm.cuid perm.uid both.0) in
    let group = sym (eqb-true perm.cgid perm.gid both.1) in
    λ i. record perm { cuid = user i; cgid = group i }

pub own-own : (uid gid mode : ℕ) → is_own (own_perm uid gid mode) ≡ true
own-own uid gid mode = and_from (nat_eq uid uid) (nat_eq gid gid) (eq-eqb uid uid refl) (eq-eqb gid gid refl)

-- two of a kind, each of which its tree gives back
named_one : {X : Type 0} (s : Shape) (tree_of : NamedEntry X → Tree s) (FitsObject : X → Type 0)
    (from : Tree s → NamedEntry X) → ((e : NamedEntry X) → is_own e.perm ≡ true → from (tree_of e) ≡ e)
    → (e f : NamedEntry X) → FitsNamed s tree_of FitsObject e → FitsNamed s tree_of FitsObject f
    → bytes_in s tree_of e ≡ bytes_in s tree_of f → e ≡ f
named_one {X} s tree_of FitsObject from known e f fit also same =
    let Fits : NamedEntry X → Type 0 = FitsNamed s tree_of FitsObject in
    let trees = one_if_back tree_of from Fits (λ g fits. known g fits.own) in
    (plain_one s tree_of Fits (λ g fits. fits.tree) trees e f [] [] fit also (ap (λ (l : List ℕ). l ++ []) same)).0

-- two semaphores
pub psem_one : (e f : NamedEntry ℕ) → FitsPsem e → FitsPsem f → psem_bytes e ≡ psem_bytes f → e ≡ f
psem_one =
    named_one psem_shape psem_tree (λ value. value ≤ sem_value_max) psem_from
    (λ e own. ap (λ (perm : Perm). record e { perm = perm }) (own_known e.perm own))

-- a segment by its numbers, and its name and its bytes
segment_known : (e : NamedEntry Segment) → is_own e.perm ≡ true → segment_from (segment_tree e) ≡ e
segment_known e own =
    let name = take_at e.bound e.object.bytes (length e.bound) refl in
    let perm = own_known e.perm own in
    let bytes = drop_at e.bound e.object.bytes (length e.bound) refl in
    λ i. record { bound = name i; perm = perm i; object = record { bytes = bytes i } }

-- two segments
pub segment_one : (e f : NamedEntry Segment) → FitsSegment e → FitsSegment f → segment_bytes e ≡ segment_bytes f
    → e ≡ f
segment_one = named_one segment_shape segment_tree (λ x. ⊤) segment_from segment_known
