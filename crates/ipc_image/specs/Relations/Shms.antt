-- A System V segment is known by the bytes of its object.
use Rattle.std.proofs.Common.{◌≡◌, ◌<◌, ℕ, Bool, true, false, List, [], ◌++◌, ap, arith}
use Rattle.std.specs.Prelude.{nat_le, ◌%◌}
use Rattle.std.specs.Int.{w32}
use Rattle.std.proofs.lemmas.Bool.Decides.{nat_tests}
use Rattle.std.proofs.lemmas.Int.{to_z-of_z}
use Rattle.shm_segment.specs.SysSegment.{SysSegment}
use Rattle.ipc_state.specs.Keyed.{KeyedEntry}
use Rattle.ipc_image.specs.Saved.{mode_with, shm_shape, shm_tree, shm_bytes, FitsShm}
use Rattle.ipc_image.specs.SavedParts.{shm_from}
use Rattle.ipc_image.specs.Relations.Shapes.{plain_one}
use Rattle.ipc_image.specs.Relations.Trees.{one_if_back}

-- a mode and the mark, by the number that tells of both
pub mode_known : (mode : ℕ) (is_marked : Bool) → mode < 512
    → (mode_with mode is_marked % 512 ≡ mode) × (nat_le 512 (mode_with mode is_marked) ≡ is_marked)
mode_known mode true less = (omega (arith, less), grind (arith, nat_tests, less))
mode_known mode false less = (omega (arith, less), grind (arith, nat_tests, less))

-- a segment by its numbers and its bytes
shm_known : (e : KeyedEntry SysSegment) → FitsShm e → shm_from (shm_tree e) ≡ e
shm_known e fit =
    let mode = mode_known e.perm.mode e.object.is_marked fit.mode in
    let key = to_z-of_z w32 e.bound fit.key in
    λ i. record {
      bound = key i;
      perm = record e.perm { mode = mode.0 i };
      object = record e.object { is_marked = mode.1 i };
    }

-- two segments
pub shm_one : (e f : KeyedEntry SysSegment) → FitsShm e → FitsShm f → shm_bytes e ≡ shm_bytes f → e ≡ f
shm_one e f fit also same =
    let trees = one_if_back shm_tree shm_from FitsShm shm_known in
    (plain_one shm_shape shm_tree FitsShm (λ g fits. fits.tree) trees e f [] [] fit also
    (ap (λ (l : List ℕ). l ++ []) same)).0
