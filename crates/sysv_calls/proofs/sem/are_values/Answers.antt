use Rattle.std.proofs.Common.{◌≡◌, ◌∙◌, ◌≤◌, ◌<◌, ◌∷◌, [], ℕ, List, Bool, true, false, length, take, get_or, ap, sym, refl, arith}
use Rattle.std.specs.Prelude.{nat_le, unwrap_or, Option}
use Rattle.std.specs.List.{list_all}
use Rattle.std.proofs.lemmas.Bool.{le-leb}
use Rattle.std.proofs.lemmas.Bool.Decides.{nat_tests}
use Rattle.std.proofs.lemmas.List.{take_more, take_all}
use Rattle.std.proofs.lemmas.List.Folds.{list_all_at, list_all-append}
use Rattle.std.proofs.lemmas.Option.{unwrap_or-slice_get}
use Rattle.ipc_wire.specs.Values.{bytes_of, numbers_in}
use Rattle.sysv_sem.specs.Operation.{most_value}
use Rattle.sysv_calls.proofs.sem.are_values.Goals.{After-at}
use Rattle.sysv_calls.proofs.sem.are_values.Goals as goal

too_big : (v : ℕ) → most_value < v → nat_le v most_value ≡ false
too_big v h = grind (arith, nat_tests)

abbrev fits : ℕ → Bool
fits v = nat_le v most_value

-- the number that was looked at, and its place
looked : (c : After-at) → get_or (numbers_in (bytes_of c.args.values.now)) c.loop-place.place 0 ≡ c.at.result
looked c =
    sym (unwrap_or-slice_get (numbers_in (bytes_of c.args.values.now)) c.loop-place.place 0) ∙ ap (λ (o : Option ℕ). unwrap_or o 0) c.at.ensures

inside : (c : After-at) → c.loop-place.place < length (numbers_in (bytes_of c.args.values.now))
inside c = omega (arith, c.loop-place-test.true, c.len-place-end.ensures)

pub loop-place-init : goal.loop-place-init
loop-place-init c = refl

pub returns-then-at-gt-MOST_VALUE : goal.returns-then-at-gt-MOST_VALUE
returns-then-at-gt-MOST_VALUE c =
    let a = (goal.at.returns-then-at-gt-MOST_VALUE c).After-at in
    sym (list_all_at fits (numbers_in (bytes_of c.args.values.now)) c.loop-place.place 0 (inside a)
    (ap fits (looked a) ∙ too_big c.at.result c.if-at-gt-MOST_VALUE.true))

pub loop-place-preserved : goal.loop-place-preserved
loop-place-preserved c =
    let a = (goal.at.loop-place-preserved c).After-at in
    let numbers : List ℕ = numbers_in (bytes_of c.args.values.now) in
    let at = c.loop-place.place in
    let few : c.at.result ≤ most_value = omega (arith, c.if-at-gt-MOST_VALUE.false) in
    let one : fits (get_or numbers at 0) ≡ true = ap fits (looked a) ∙ le-leb c.at.result most_value few in
    ap (list_all fits) (take_more numbers at 0 (inside a)) ∙ list_all-append fits (take at numbers) (get_or numbers at 0 ∷ [])
    ∙ rw c.loop-place.invariant (rw one refl)

pub returns : goal.returns
returns c =
    let numbers : List ℕ = numbers_in (bytes_of c.args.values.now) in
    let all : length numbers ≤ c.loop-place.place = omega (arith, c.loop-place-test.false, c.len-place-end.ensures) in
    sym (ap (list_all fits) (sym (take_all c.loop-place.place numbers all)) ∙ c.loop-place.invariant)
