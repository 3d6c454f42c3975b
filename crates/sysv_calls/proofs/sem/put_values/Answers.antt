use Rattle.std.proofs.Common.{◌≡◌, ◌∙◌, ◌++◌, ◌∷◌, [], ◌<◌, ◌≤◌, ℕ, List, length, take, get_or, ap, sym, subst, refl, arith}
use Rattle.std.specs.Prelude.{unwrap_or, Option}
use Rattle.std.proofs.lemmas.List.{take_more, take_more_set, take_all}
use Rattle.std.proofs.lemmas.Option.{unwrap_or-slice_get}
use Rattle.ipc_wire.specs.Values.{bytes_of, numbers_in}
use Rattle.sysv_calls.proofs.sem.put_values.Goals as goal

pub loop-place-init : goal.loop-place-init
loop-place-init c = record { inside = omega arith; put = refl }

pub loop-place-preserved : goal.loop-place-preserved
loop-place-preserved c =
    let numbers : List ℕ = numbers_in (bytes_of c.args.values.now) in
    let at = c.loop-place.place in
    let is : get_or numbers at 0 ≡ c.at.result =
    sym (unwrap_or-slice_get numbers at 0) ∙ ap (λ (o : Option ℕ). unwrap_or o 0) c.at.ensures in
    let before : at < length numbers = omega (arith, c.loop-place-test.true, c.len-place-end.ensures) in
    let room : at < length c.loop-place.all = omega (arith, c.loop-place.auto.all, before, c.requires) in
    record {
      inside = omega (arith, c.loop-place-test.true, c.len-place-end.ensures);
      put = take_more_set c.loop-place.all at c.at.result room
          ∙ ap (λ (l : List ℕ). l ++ c.at.result ∷ []) c.loop-place.invariant.put
          ∙ sym (take_more numbers at 0 before ∙ ap (λ (v : ℕ). take at numbers ++ v ∷ []) is);
    }

pub returns : goal.returns
returns c =
    let numbers : List ℕ = numbers_in (bytes_of c.args.values.now) in
    let all : c.loop-place.place ≡ length numbers = omega (arith, c.loop-place.invariant.inside, c.loop-place-test.false, c.len-place-end.ensures) in
    let whole : length numbers ≤ length numbers = omega arith in
    subst (λ (n : ℕ). take n c.loop-place.all ≡ take n numbers) all c.loop-place.invariant.put
    ∙ take_all (length numbers) numbers whole
