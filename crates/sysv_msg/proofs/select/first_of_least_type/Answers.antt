use Rattle.std.proofs.Common.{FitsSigned, w64, pos, sym, ◌∙◌, rules}
use Rattle.std.proofs.lemmas.Int.{to_z-of_z}
use Rattle.sysv_msg.proofs.Picks.{least_position, least_none}
use Rattle.sysv_msg.proofs.select.first_of_least_type.Goals as goal

pub returns-then-is_at_most : goal.returns-then-is_at_most
returns-then-is_at_most c =
    let fits : FitsSigned w64 c.in_ok-least.least = search rules in
    let test = simp to_z-of_z at c.is_at_most.ensures in
    let found = simp to_z-of_z at c.first_equal.ensures in
    found ∙ least_position c.args.messages.now.items (pos c.args.most) c.in_ok-least.least c.in_ok-least.ensures.least
    c.in_ok-least.ensures.found (sym test ∙ c.if-is_at_most.true)

pub returns-else-is_at_most : goal.returns-else-is_at_most
returns-else-is_at_most c =
    let fits : FitsSigned w64 c.in_ok-least.least = search rules in
    let test = simp to_z-of_z at c.is_at_most.ensures in
    sym (least_none c.args.messages.now.items (pos c.args.most) c.in_ok-least.least c.in_ok-least.ensures.least (sym test ∙ c.if-is_at_most.false))
