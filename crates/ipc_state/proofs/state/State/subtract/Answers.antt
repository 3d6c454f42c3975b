use Rattle.std.proofs.Common.{◌≡◌, ◌<◌, ℕ, ◌-ℤ◌, List, Some, None, true, rules, FitsSigned, sym, ap, subst, ◌∙◌}
use Rattle.std.specs.Prelude.{nat_eq, Option, unwrap_or}
use Rattle.std.specs.FinMap as fin
use Rattle.std.specs.Int.{w16}
use Rattle.std.proofs.lemmas.Int.{to_z-of_z}
use Rattle.ipc_base.specs.Table.{value_at, with_value}
use Rattle.sem_undo.specs.Undo.{Undo, adjustment, subtracted, is_adjustment, most_rows}
use Rattle.ipc_state.specs.contracts.state.State.{the_view}
use Rattle.ipc_state.specs.declared.numbered.Numbered.{Numbered as Table}
use Rattle.ipc_state.specs.Held.{Held}
use Rattle.ipc_state.specs.Numbered.{Numbered}
use Rattle.ipc_state.specs.State.{undo_of, with_undo}
use Rattle.ipc_state.specs.Tables.{numbered_of}
use Rattle.ipc_state.proofs.Inside.{with_undo_in}
use Rattle.ipc_state.proofs.Places.{with-none}
use Rattle.ipc_state.proofs.state.State.subtract.Goals.{In-Some}
use Rattle.ipc_state.proofs.state.State.subtract.Goals as goal

pub returns-in_default : goal.returns-in_default
returns-in_default c =
    let old = c.args.self.now in
    let t = c.self.inside in
    let pid = c.args.pid.0 in
    let none : value_at nat_eq (numbered_of t.undo).entries pid ≡ None = sym (c.in_default.ensures).value in
    let with : (x : Undo) → with_value nat_eq old.state.undo pid x ≡ old.state.undo =
    λ x. with-none old.state.undo pid x (ap (λ (m : Held). value_at nat_eq m.state.undo pid) (sym c.self.view_is) ∙ none) in
    let viewed : Table Undo → Held = λ (o : Table Undo). the_view (record t { undo = o }) in
    ap viewed c.get_mut.follows.holds-at-none ∙ c.self.view_is
    ∙ ap (λ (us : List (ℕ × Undo)). record old { state = record old.state { undo = us } })
    (sym (with (subtracted (undo_of old.state pid) (c.args.set.0, c.args.num) c.args.sem_op)))

-- the adjustments that are lent are those of the process
lent : (c : In-Some) → undo_of c.args.self.now.state c.args.pid.0 ≡ c.in-Some.undo.now
lent c =
    let was : value_at nat_eq (numbered_of c.self.inside.undo).entries c.args.pid.0 ≡ Some c.in-Some.undo.now = sym (c.in-Some.ensures).value in
    ap (λ (m : Held). undo_of m.state c.args.pid.0) (sym c.self.view_is) ∙ ap (λ (r : Option Undo). unwrap_or r fin.empty) was

pub subtract-requires-clause-few : goal.subtract-requires-clause-few
subtract-requires-clause-few c =
    subst (λ (u : Undo). fin.get u (c.args.set.0, c.args.num) ≡ None → fin.len u < most_rows) (lent c) c.requires.few

pub subtract-requires-clause-range : goal.subtract-requires-clause-range
subtract-requires-clause-range c =
    let fit : FitsSigned w16 c.args.sem_op = search rules in
    rw (to_z-of_z w16 c.args.sem_op fit) (subst (λ (u : Undo). is_adjustment (adjustment u (c.args.set.0, c.args.num) -ℤ c.args.sem_op) ≡ true) (lent c)
    c.requires.range)

pub returns : goal.returns
returns c =
    let g = (goal.at.returns c).In-Some in
    let old = c.args.self.now in
    let t = c.self.inside in
    let pid = c.args.pid.0 in
    let fit : FitsSigned w16 c.args.sem_op = search rules in
    let puts = c.get_mut.follows.holds c.subtract.new.self in
    let new : c.subtract.new.self ≡ subtracted (undo_of old.state pid) (c.args.set.0, c.args.num) c.args.sem_op =
    c.subtract.ensures ∙ (λ i. subtracted (sym (lent g) i) (c.args.set.0, c.args.num) (to_z-of_z w16 c.args.sem_op fit i)) in
    let entries : (numbered_of (c.get_mut.follows.lender c.subtract.new.self)).entries
    ≡ with_value nat_eq (numbered_of t.undo).entries pid (subtracted (undo_of old.state pid) (c.args.set.0, c.args.num) c.args.sem_op) =
    ap (λ (o : Numbered Undo). o.entries) puts.numbered ∙ ap (λ (x : Undo). with_value nat_eq (numbered_of t.undo).entries pid x) new in
    (λ i. with_undo_in t (entries i) (puts.place i))
    ∙ ap (λ (m : Held). record m { state = with_undo m.state pid (subtracted (undo_of old.state pid) (c.args.set.0, c.args.num) c.args.sem_op) }) c.self.view_is
