use Rattle.std.proofs.Common.{◌≡◌, ◌∙◌, ℕ, true, List, [], ◌∷◌, ◌++◌, take, drop, get_or, sym, ap, subst, arith}
use Rattle.ipc_base.specs.Numbers.{fields_bytes, FitFields}
use Rattle.ipc_base.proofs.CallerLemmas.{fields_one, numbers_are}
use Rattle.ipc_image.specs.Saved.{message_sizes}
use Rattle.ipc_image.specs.Relations.Marked.{untaken}
use Rattle.ipc_image.proofs.Slices.{agree, differ}
use Rattle.ipc_image.proofs.marked_queue.take_untaken.Goals as goal

-- too few bytes for the numbers
pub returns-in_err-numbers-clause-none : goal.returns-in_err-numbers-clause-none
returns-in_err-numbers-clause-none c =
    rw c.from_residual.ensures (λ mtype len rest m l. c.in_err-numbers.ensures.none (untaken mtype len) rest
    (m, (omega arith, (omega arith, (omega arith, (omega arith, (l, tt)))))))

-- a mark is not 0
pub returns-then-ne-clause-none : goal.returns-then-ne-clause-none
returns-then-ne-clause-none c mtype len rest m l is =
    let ns : List ℕ = c.in_ok-numbers.numbers in
    let found = c.in_ok-numbers.ensures.some in
    let same = (fields_one (message_sizes true) ns (untaken mtype len) c.in_ok-numbers.rest.now rest found.0
    (m, (omega arith, (omega arith, (omega arith, (omega arith, (l, tt)))))) (sym found.1 ∙ is)).0 in
    differ (take 4 (drop 1 ns)) (0 ∷ 0 ∷ 0 ∷ 0 ∷ []) c.ne.result c.ne.ensures c.if-ne.true (ap (λ (l : List ℕ). take 4 (drop 1 l)) same)

-- each is 0
pub returns-clause-some : goal.returns-clause-some
returns-clause-some c =
    let ns : List ℕ = c.in_ok-numbers.numbers in
    let sizes = message_sizes true in
    let found = c.in_ok-numbers.ensures.some in
    let all = numbers_are sizes ns found.0 in
    let four = ap (λ (l : List ℕ). take 4 (drop 1 l)) (sym all) ∙ agree (take 4 (drop 1 ns)) (0 ∷ 0 ∷ 0 ∷ 0 ∷ []) c.ne.result c.ne.ensures c.if-ne.false in
    let same : ns ≡ untaken (get_or ns 0 0) (get_or ns 5 0) = all ∙ ap (λ (l : List ℕ). get_or ns 0 0 ∷ (l ++ (get_or ns 5 0 ∷ []))) four in
    (subst (FitFields sizes) same found.0, found.1 ∙ ap (λ (l : List ℕ). fields_bytes sizes l ++ c.in_ok-numbers.rest.now) same)
