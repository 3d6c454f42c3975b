use Rattle.std.proofs.Common.{◌≡◌, ◌≤◌, ◌-ℤ◌, to_z, of_z, FitsSigned, rules, arith, sym, ap, subst, ◌∙◌}
use Rattle.std.specs.Int.{w16}
use Rattle.std.specs.FinMap.{from_sorted, get, put, len, get-from_sorted}
use Rattle.sem_undo.specs.Undo.{Key, key_cmp, adjustment, with_adjustment, IsKept, most_rows}
use Rattle.sem_undo.specs.Rows.{entries_of, AreRows}
use Rattle.sem_undo.proofs.Tables.{where-rows, put-rows, removed-undo, put-undo, inner, difference, count-rows}
use Rattle.sem_undo.proofs.undo.SemUndo.subtract.Goals as goal

pub invariant_of-self : goal.invariant_of-self
invariant_of-self c = (
  subst AreRows (sym c.remove_row.ensures.rows) (where-rows _ _ c.self.invariant.0),
  subst (λ n. most_rows ≤ n) (sym c.remove_row.ensures.capacity) c.self.invariant.1,
)

pub returns-then-adjustment-eq0 : goal.returns-then-adjustment-eq0
returns-then-adjustment-eq0 c =
    let key : Key = (c.args.set.0, c.args.num) in
    let a = adjustment c.args.self.now key -ℤ c.args.sem_op in
    let fit : FitsSigned w16 c.get.result = search rules in
    let same = difference c.get.result _ c.args.sem_op c.get.ensures.adjustment fit c.ranges.sem_op c.requires.range in
    ap (λ es. from_sorted {R = key_cmp} es) c.remove_row.ensures.rows
    ∙ removed-undo key a (entries_of c.self.inside.rows.items) c.self.invariant.0 (sym same ∙ ap (to_z w16) c.if-adjustment-eq0.true)
    ∙ ap (λ t. with_adjustment t key a) c.self.view_is

pub put_row-requires-clause-room : goal.put_row-requires-clause-room
put_row-requires-clause-room c none =
    let key : Key = (c.args.set.0, c.args.num) in
    let some = c.requires.few (ap (λ t. get t key) (sym c.self.view_is)
    ∙ get-from_sorted key_cmp (entries_of c.self.inside.rows.items) key c.self.invariant.0.rising ∙ none) in
    let count = count-rows c.self.inside.rows.items c.self.invariant.0 in
    omega (arith, some, count, ap len c.self.view_is, c.self.invariant.1)

put-es : (c : goal.After-put_row) → entries_of c.put_row.new.rows.items ≡ put key_cmp (c.args.set.0, c.args.num)
    (adjustment c.args.self.now (c.args.set.0, c.args.num) -ℤ c.args.sem_op) (entries_of c.self.inside.rows.items)
put-es c =
    let key : Key = (c.args.set.0, c.args.num) in
    let fit : FitsSigned w16 c.get.result = search rules in
    c.put_row.ensures.rows ∙ ap (λ z. put key_cmp key z (entries_of c.self.inside.rows.items))
    (difference c.get.result _ c.args.sem_op c.get.ensures.adjustment fit c.ranges.sem_op c.requires.range)

kept : (c : goal.After-put_row) → IsKept (adjustment c.args.self.now (c.args.set.0, c.args.num) -ℤ c.args.sem_op)
kept c =
    let fit : FitsSigned w16 c.get.result = search rules in (
      λ e. c.if-adjustment-eq0.false (ap (of_z w16) (inner c.get.result _ c.args.sem_op c.get.ensures.adjustment fit c.ranges.sem_op ∙ e)),
      c.requires.range,
    )

pub invariant_of-self-2 : goal.invariant_of-self-2
invariant_of-self-2 c =
    let capacity = subst (λ n. most_rows ≤ n) (sym c.put_row.ensures.capacity) c.self.invariant.1 in
    (subst AreRows (sym (put-es c)) (put-rows _ _ _ (kept c) c.self.invariant.0), capacity)

pub returns : goal.returns
returns c =
    let key : Key = (c.args.set.0, c.args.num) in
    let a = adjustment c.args.self.now key -ℤ c.args.sem_op in
    ap (λ xs. from_sorted {R = key_cmp} xs) (put-es c) ∙ put-undo key a (entries_of c.self.inside.rows.items) c.self.invariant.0 (kept c).0
    ∙ ap (λ t. with_adjustment t key a) c.self.view_is
