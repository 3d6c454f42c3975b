use Rattle.std.proofs.Common.{◌≡◌, ℕ, Bool, true, false, ◌∙◌, ◌<◌, ◌≤◌, ◌^◌, cond, get_or, length-take-le, take, List, [], ◌∷◌, length, map}
use Rattle.std.proofs.Common.{ap, arith, refl, rules}
use Rattle.std.specs.Prelude.{sum_by, if◌then◌else◌}
use Rattle.std.proofs.lemmas.List.{take_all}
use Rattle.std.proofs.lemmas.List.Sums.{sum_by-cons, sum_by-le, sum_by_more}
use Rattle.posix_mq.specs.Queue.{Queue as Mq}
use Rattle.ipc_state.specs.Named.{NamedEntry}
use Rattle.ipc_state.specs.declared.numbered.Item.{Item}
use Rattle.ipc_state.specs.Tables.{item_row}
use Rattle.posix_calls.specs.Mq.{is_own}
use Rattle.posix_calls.specs.Registrations.{own}
use Rattle.posix_calls.proofs.mq.registrations.Goals.{After-from-count}
use Rattle.posix_calls.proofs.mq.registrations.Goals as goal

abbrev of_item : ℕ → Item (NamedEntry Mq) → ℕ
of_item pid e = own pid e.value.object.registration

-- items and their rows have the same registrations
of-rows : (pid : ℕ) (items : List (Item (NamedEntry Mq)))
    → sum_by (of_item pid) items ≡ sum_by (λ (e : ℕ × NamedEntry Mq). own pid e.1.object.registration) (map item_row items)
of-rows pid [] = refl
of-rows pid (x ∷ xs) =
    let of_row : ℕ × NamedEntry Mq → ℕ = λ e. own pid e.1.object.registration in
    omega (arith, sum_by-cons (of_item pid) x xs, sum_by-cons of_row (item_row x) (map item_row xs), of-rows pid xs)

-- one is counted, or none
counted : (c : After-from-count) → c.from-count.result ≡ of_item c.args.pid.0 c.item-item.result
counted c =
    let byte : c.from-count.result ≡ cond c.is_own-is_one.result 1 0 = search rules in
    byte ∙ ap (λ (b : Bool). cond b 1 0) (c.is_own-is_one.ensures ∙ ap (is_own c.args.pid.0) c.registration.ensures)

pub overflow_add-count : goal.overflow_add-count
overflow_add-count c =
    let g = (goal.at.overflow_add-count c).After-from-count in
    let items = c.mqs-item-items.result.now in
    let i = c.loop-item.item-index in
    let long : length items < 2 ^ 64 = search rules in
    let few = sum_by-le (of_item c.args.pid.0) 1 (take i items) (λ k d j. one (is_own c.args.pid.0 (get_or (take i items) k d).value.object.registration)) in
    let before : i < length items = c.loop-item-test.true in
    let byte : c.from-count.result ≤ 1 = omega (arith, counted g, one (is_own c.args.pid.0 c.item-item.result.value.object.registration)) in
    omega (arith, c.loop-item.invariant, few, long, before, byte, length-take-le i items (omega (arith, before)))
  where
    one : (b : Bool) → (if b then 1 else 0) ≤ 1
    one true = omega arith
    one false = omega arith

pub loop-item-preserved : goal.loop-item-preserved
loop-item-preserved c =
    let g = (goal.at.loop-item-preserved c).After-from-count in
    let items = c.mqs-item-items.result.now in
    omega (
      arith,
      c.loop-item.invariant,
      counted g,
      ap (of_item c.args.pid.0) c.item-item.is,
      sum_by_more (of_item c.args.pid.0) items c.loop-item.item-index c.item-item.result c.loop-item-test.true,
    )

pub returns : goal.returns
returns c =
    let items = c.mqs-item-items.result.now in
    let all : take c.loop-item.item-index items ≡ items = take_all c.loop-item.item-index items c.loop-item-test.false in
    c.loop-item.invariant ∙ (ap (sum_by (of_item c.args.pid.0)) all ∙ (of-rows c.args.pid.0 items
    ∙ ap (sum_by (λ (e : ℕ × NamedEntry Mq). own c.args.pid.0 e.1.object.registration)) c.mqs-item-items.ensures))
