use Rattle.std.proofs.Common.{◌≡◌, ◌∙◌, ◌<◌, ◌^◌, ℕ, List, [], ◌++◌, true, get_or, length, sym, ap, subst, nat_eq, arith}
use Rattle.std.proofs.lemmas.List.{append-nil, length-append, nil_from_length}
use Rattle.std.proofs.lemmas.Bool.{eqb-true}
use Rattle.ipc_base.specs.Numbers.{fields_bytes, FitFields}
use Rattle.ipc_base.proofs.CallerLemmas.{fields_one, listed, numbers_are}
use Rattle.ipc_state.specs.State.{State}
use Rattle.ipc_image.specs.declared.format.Format.{Format}
use Rattle.ipc_image.specs.Format.{IsFormat}
use Rattle.ipc_image.specs.Relations.Restored.{next_shm_bytes}
use Rattle.ipc_image.specs.Saved.{clock_sizes, clock_numbers, clock_bytes}
use Rattle.ipc_image.proofs.RestoredParts.{all-fit, clock-parts, first-fit, first_numbers, first_sizes, shm-length}
use Rattle.ipc_image.proofs.clock.read_clock.Goals as goal

-- too few bytes for the numbers that every version has
pub returns-in_err-numbers-clause-none : goal.returns-in_err-numbers-clause-none
returns-in_err-numbers-clause-none c =
    rw c.from_residual.ensures (λ s fit is. c.in_err-numbers.ensures.none (first_numbers s) (next_shm_bytes c.args.form s.shm.next) (first-fit s fit)
    (is ∙ clock-parts c.args.form c.requires.known s))

-- the numbers are those of the state, and what is left is the next number of System V segments
both : (form : Format) → IsFormat form → (ns rest bytes : List ℕ) (s : State) → FitFields first_sizes ns → bytes ≡ fields_bytes first_sizes ns ++ rest
    → FitFields clock_sizes (clock_numbers s) → bytes ≡ clock_bytes form s → (ns ≡ first_numbers s) × (rest ≡ next_shm_bytes form s.shm.next)
both form known ns rest bytes s has found fit is =
    fields_one first_sizes ns (first_numbers s) rest (next_shm_bytes form s.shm.next) has (first-fit s fit) (sym found ∙ is ∙ clock-parts form known s)

pub returns-in_err-next_shm-clause-none : goal.returns-in_err-next_shm-clause-none
returns-in_err-next_shm-clause-none c =
    let found = c.in_ok-numbers.ensures.some in
    rw c.from_residual-in_err-next_shm.ensures (λ s fit is.
    let same = both c.args.form c.requires.known c.in_ok-numbers.numbers c.in_ok-numbers.rest.now c.args.bytes.now s found.0 found.1 fit is in
    c.in_err-next_shm.ensures.none s.shm.next [] fit.1.1.1.1.1.1.1.0 (same.1 ∙ sym (append-nil (next_shm_bytes c.args.form s.shm.next))))

listed_is : (ns : List ℕ) (s : State) → s.clock ≡ get_or ns 0 0 → s.processes.next ≡ get_or ns 1 0 → s.msg.next ≡ get_or ns 2 0
    → s.semset.next ≡ get_or ns 3 0 → s.mq.next ≡ get_or ns 4 0 → s.psem.next ≡ get_or ns 5 0 → s.pshm.next ≡ get_or ns 6 0
    → listed 7 0 ns ≡ first_numbers s
listed_is ns s a b c d e f g = cc

pub returns-then-not-is_empty-clause-none : goal.returns-then-not-is_empty-clause-none
returns-then-not-is_empty-clause-none c s fit is =
    let form : Format = c.args.form in
    let found = c.in_ok-numbers.ensures.some in
    let left : List ℕ = c.in_ok-next_shm.rest.now in
    let same = both form c.requires.known c.in_ok-numbers.numbers c.in_ok-numbers.rest.now c.args.bytes.now s found.0 found.1 fit is in
    let few : length left ≡ 0 =
    omega (
      arith,
      ap length (sym c.in_ok-next_shm.ensures.some.1 ∙ same.1),
      length-append (next_shm_bytes form c.in_ok-next_shm.next_shm) left,
      shm-length form c.requires.known c.in_ok-next_shm.next_shm s.shm.next,
    ) in
    let none : nat_eq (length left) 0 ≡ true = ap (λ (n : ℕ). nat_eq n 0) few in
    let no = c.if-not-is_empty.true in
    let test = c.is_empty.ensures in
    cc

pub returns-clause-some : goal.returns-clause-some
returns-clause-some c s clock pid queue set mq sem segment shm =
    let form : Format = c.args.form in
    let ns : List ℕ = c.in_ok-numbers.numbers in
    let left : List ℕ = c.in_ok-next_shm.rest.now in
    let found = c.in_ok-numbers.ensures.some in
    let same : ns ≡ first_numbers s = numbers_are first_sizes ns found.0 ∙ listed_is ns s clock pid queue set mq sem segment in
    let empty : left ≡ [] = nil_from_length left (eqb-true (length left) 0 (sym c.if-not-is_empty.ensures)) in
    let rest : c.in_ok-numbers.rest.now ≡ next_shm_bytes form s.shm.next =
    c.in_ok-next_shm.ensures.some.1 ∙ ap (λ (l : List ℕ). next_shm_bytes form c.in_ok-next_shm.next_shm ++ l) empty
    ∙ append-nil (next_shm_bytes form c.in_ok-next_shm.next_shm) ∙ ap (next_shm_bytes form) (sym shm) in
    let below : s.shm.next < 2 ^ 32 = omega (arith, shm, c.in_ok-next_shm.ensures.some.0) in (
      all-fit s (subst (FitFields first_sizes) same found.0) below,
      found.1 ∙ (λ i. fields_bytes first_sizes (same i) ++ rest i) ∙ sym (clock-parts form c.requires.known s),
    )
