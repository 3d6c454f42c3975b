-- System V segments as objects: what was read is one.
use Rattle.std.proofs.Common.{◌≡◌, ◌<◌, ◌^◌, ℕ, ℤ, Bool, true, false, List, [], ◌∷◌, ◌++◌, get_or, length, refl, sym, ap, subst, ◌∙◌, arith}
use Rattle.std.specs.Prelude.{nat_le, ◌%◌, FitsSigned}
use Rattle.std.specs.Int.{w32, cast_signed, cast_unsigned}
use Rattle.std.proofs.lemmas.Bool.Decides.{nat_tests}
use Rattle.std.proofs.lemmas.Int.{of_z-to_z}
use Rattle.ipc_base.specs.Numbers.{fields_bytes, FitFields}
use Rattle.ipc_base.proofs.CallerLemmas.{fields_one, numbers_are}
use Rattle.ipc_perm.specs.declared.perm.Perm.{Perm}
use Rattle.shm_segment.specs.SysSegment.{SysSegment, stat_of}
use Rattle.shm_segment.specs.declared.sys_segment.ShmStat.{ShmStat}
use Rattle.ipc_state.specs.Keyed.{KeyedEntry}
use Rattle.ipc_image.specs.Saved.{mode_with, shm_sizes, shm_numbers, shm_bytes, FitsShm}
use Rattle.ipc_image.specs.SavedParts.{shm_perm, shm_stat}

-- a number that tells of a mode and the mark
mode_told : (n : ℕ) → n < 1024 → mode_with (n % 512) (nat_le 512 n) ≡ n
mode_told n less = by_mark (nat_le 512 n) refl
  where
    by_mark : (b : Bool) → nat_le 512 n ≡ b → mode_with (n % 512) b ≡ n
    by_mark true is = grind (arith, nat_tests, less)
    by_mark false is = grind (arith, nat_tests, less)

pub mode-less : (mode : ℕ) (is_marked : Bool) → mode < 512 → mode_with mode is_marked < 1024
mode-less mode true less = omega (arith, less)
mode-less mode false less = omega (arith, less)

-- a segment by what it tells of itself, and its bytes
abbrev made : ShmStat → List ℕ → SysSegment
made s bytes =
    record {
      memory = record { bytes = bytes };
      atime = s.atime.0;
      dtime = s.dtime.0;
      ctime = s.ctime.0;
      cpid = s.cpid;
      lpid = s.lpid;
      is_marked = s.is_marked;
    }

module _ (bytes ns text : List ℕ) (fit : FitFields shm_sizes ns) (found : bytes ≡ fields_bytes shm_sizes ns ++ text) where
  -- what these bytes are the object of has these numbers and these bytes
  pub shm-parts : (e : KeyedEntry SysSegment) → FitsShm e → bytes ≡ shm_bytes e → (ns ≡ shm_numbers e) × (text ≡ e.object.memory.bytes)
  shm-parts e fits same = fields_one shm_sizes ns (shm_numbers e) text e.object.memory.bytes fit fits.tree.0 (sym found ∙ same)

  -- what was read is one
  pub shm-read : (key : ℤ) (perm : Perm) (x : SysSegment) → length text ≡ get_or ns 11 0 → get_or ns 5 0 < 1024
      → FitsSigned w32 key → key ≡ cast_signed w32 (get_or ns 0 0) → perm ≡ shm_perm ns → x.memory.bytes ≡ text
      → stat_of x ≡ record (shm_stat ns) { size = length text }
      → FitsShm (record { bound = key; perm = perm; object = x }) × (bytes ≡ shm_bytes (record { bound = key; perm = perm; object = x }))
  shm-read key perm x long less fits is perms own told =
      let below : get_or ns 0 0 < 2 ^ 32 = (subst (FitFields shm_sizes) (numbers_are shm_sizes ns fit) fit).0 in
      let spelled : cast_unsigned w32 key ≡ get_or ns 0 0 = ap (cast_unsigned w32) is ∙ of_z-to_z w32 (get_or ns 0 0) below in
      let y : SysSegment = made (shm_stat ns) text in
      let object : y ≡ x =
      ap (λ (l : List ℕ). made (shm_stat ns) l) (sym own) ∙ ap (λ (s : ShmStat). made s x.memory.bytes) (sym told) in
      let whole : KeyedEntry SysSegment = record { bound = key; perm = shm_perm ns; object = y } in
      let mode = mode_told (get_or ns 5 0) less in
      let same : ns ≡ shm_numbers whole =
      numbers_are shm_sizes ns fit
      ∙ (λ i. sym spelled i ∷ get_or ns 1 0 ∷ get_or ns 2 0 ∷ get_or ns 3 0 ∷ get_or ns 4 0 ∷ sym mode i ∷ get_or ns 6 0 ∷ get_or ns 7 0 ∷ get_or ns 8 0
      ∷ get_or ns 9 0 ∷ get_or ns 10 0 ∷ sym long i ∷ []) in
      let Is : KeyedEntry SysSegment → Type 0 = λ e. FitsShm e × (bytes ≡ shm_bytes e) in
      let all : Is whole = (
        record { key = fits; mode = omega arith; tree = (subst (FitFields shm_sizes) same fit, refl) },
        found ∙ ap (λ (l : List ℕ). fields_bytes shm_sizes l ++ text) same,
      ) in
      subst Is (λ i. record { bound = key; perm = sym perms i; object = object i }) all
