use Rattle.std.proofs.Common.{◌≡◌, ◌<◌, ℕ, ℤ, List, FitsSigned, get_or, length, rules, sym, ap, subst, ◌∙◌, arith}
use Rattle.std.specs.Int.{w32}
use Rattle.std.proofs.lemmas.Int.{to_z-of_z}
use Rattle.shm_segment.specs.SysSegment.{SysSegment}
use Rattle.shm_segment.specs.declared.sys_segment.ShmStat.{ShmStat}
use Rattle.ipc_perm.specs.declared.perm.Perm.{Perm}
use Rattle.ipc_state.specs.Keyed.{KeyedEntry}
use Rattle.ipc_image.specs.Saved.{shm_numbers, shm_bytes, FitsShm}
use Rattle.ipc_image.proofs.ShmObjects.{mode-less, shm-parts, shm-read}
use Rattle.ipc_image.proofs.shm.KeyedEntrySysSegmentStored.read.Goals as goal
use Rattle.ipc_image.proofs.shm.KeyedEntrySysSegmentStored.read.Goals.{then-text-numbers-via-then-text-numbers}
use Rattle.ipc_image.proofs.shm.KeyedEntrySysSegmentStored.read.Goals.{then-text-numbers-via-else-text-numbers+then-numbers-from}

pub returns-in_err-numbers-clause-damaged : goal.returns-in_err-numbers-clause-damaged
returns-in_err-numbers-clause-damaged c is e fits same =
    let none = rw c.in_err-numbers.ensures.ok_part at c.take_fields.ensures.none in
    none (shm_numbers e) e.object.memory.bytes fits.tree.0 same

pub returns-then-text-numbers-clause-damaged : goal.returns-then-text-numbers-clause-damaged
returns-then-text-numbers-clause-damaged c is e fits same =
    let found = rw c.in_ok-numbers.ensures.ok_part at c.take_fields.ensures.some in
    let both = shm-parts c.args.bytes.now c.in_ok-numbers.numbers c.in_ok-numbers.text.now found.0 found.1 e fits same in
    absurd (elim c.then-text-numbers.branch [
      | then-text-numbers-via-then-text-numbers w ↦ omega (
        arith,
        w.if-text-numbers.true,
        ap (λ (l : List ℕ). get_or l 11 0) both.0,
        ap length both.1,
      )
      | then-text-numbers-via-else-text-numbers+then-numbers-from w ↦ omega (
        arith,
        w.if-numbers-from.true,
        w.from.ensures,
        ap (λ (l : List ℕ). get_or l 5 0) both.0,
        mode-less e.perm.mode e.object.is_marked fits.mode,
      )
    ])

pub returns-clause-ok : goal.returns-clause-ok
returns-clause-ok c =
    let ns : List ℕ = c.in_ok-numbers.numbers in
    let text : List ℕ = c.in_ok-numbers.text.now in
    let found = rw c.in_ok-numbers.ensures.ok_part at c.take_fields.ensures.some in
    let key : ℤ = c.cast_signed.result in
    let perm : Perm = c.perm_in.result in
    let x : SysSegment = c.in_ok-restored.field-0 in
    let fits : FitsSigned w32 key = search rules in
    let long : length text ≡ get_or ns 11 0 = omega (arith, c.if-text-numbers.false) in
    let less : get_or ns 5 0 < 1024 = omega (arith, c.if-numbers-from.false, c.from.ensures) in
    let told = c.in_ok-restored.ensures.stat ∙ ap (λ (s : ShmStat). record s { size = length text }) c.stat_in.ensures in
    subst (λ (k : ℤ). let e : KeyedEntry SysSegment = record { bound = k; perm = perm; object = x } in FitsShm e × (c.args.bytes.now ≡ shm_bytes e))
    (sym (to_z-of_z w32 key fits))
    (shm-read c.args.bytes.now ns text found.0 found.1 key perm x long less fits c.cast_signed.ensures c.perm_in.ensures
    c.in_ok-restored.ensures.bytes told)
