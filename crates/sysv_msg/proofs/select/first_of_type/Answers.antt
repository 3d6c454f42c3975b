use Rattle.std.proofs.Common.{◌≡◌, ◌==◌, ◌||◌, ℤ, pos, FitsSigned, w64, of_z, Bool, false, not, if◌then◌else◌, get_or, ap, sym, ◌∙◌}
use Rattle.std.specs.Prelude.{position}
use Rattle.std.specs.Ordering.{int_eq}
use Rattle.std.proofs.lemmas.Int.{to_z-of_z}
use Rattle.sysv_msg.specs.Ranks.{rank_of}
use Rattle.ipc_arrivals.proofs.CallerLemmas.{position_same}
use Rattle.sysv_msg.proofs.Ranks.{other_type, rank_tests}
use Rattle.sysv_msg.proofs.select.first_of_type.Goals as goal

-- of a type that is not 0, and with `except` as it is, the test is this one
test : (t : ℤ) (except e same : Bool) → int_eq t (pos 0) ≡ false → except ≡ e
    → (int_eq t (pos 0) || (if except then not same else same)) ≡ (if e then not same else same)
test t except e same zero is = ap (λ b. b || (if except then not same else same)) zero ∙ ap (λ b. if b then not same else same) is

pub returns-then-except : goal.returns-then-except
returns-then-except c =
    let t = c.args.mtype in
    let fits : FitsSigned w64 t = c.ranges.mtype in
    let ms = c.args.messages.now.items in
    let zero = other_type t (pos 0) (λ same. c.if-mtype-eq0.false (ap (of_z w64) same)) in
    c.first_but.ensures ∙ ap (λ n. position (λ m. not (rank_of m.mtype == n)) ms) (simp to_z-of_z at c.rank_of.ensures)
    ∙ position_same (λ m. not (rank_of m.mtype == rank_of t)) (λ m. int_eq t (pos 0) || (if c.args.except then not (int_eq m.mtype t) else int_eq m.mtype t)) ms
    (λ k d h. ap not (rank_tests (get_or ms k d).mtype t (get_or ms k d).typed fits) ∙ sym (test t c.args.except _ _ zero c.if-except.true))

pub returns-else-except : goal.returns-else-except
returns-else-except c =
    let t = c.args.mtype in
    let fits : FitsSigned w64 t = c.ranges.mtype in
    let ms = c.args.messages.now.items in
    let zero = other_type t (pos 0) (λ same. c.if-mtype-eq0.false (ap (of_z w64) same)) in
    c.first_of.ensures ∙ ap (λ n. position (λ m. rank_of m.mtype == n) ms) (simp to_z-of_z at c.rank_of-else-except.ensures)
    ∙ position_same (λ m. rank_of m.mtype == rank_of t) (λ m. int_eq t (pos 0) || (if c.args.except then not (int_eq m.mtype t) else int_eq m.mtype t)) ms
    (λ k d h. rank_tests (get_or ms k d).mtype t (get_or ms k d).typed fits ∙ sym (test t c.args.except _ _ zero c.if-except.false))
