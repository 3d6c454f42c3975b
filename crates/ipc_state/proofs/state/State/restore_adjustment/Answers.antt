use Rattle.std.proofs.Common.{◌≡◌, ℕ, List, Some, None, sym, ap, ◌∙◌}
use Rattle.std.specs.Prelude.{nat_eq}
use Rattle.std.specs.FinMap as fin
use Rattle.std.proofs.lemmas.Result.{on_err_weaker, on_ok_weaker}
use Rattle.ipc_base.specs.Table.{value_at, with_value}
use Rattle.ipc_base.proofs.CallerLemmas.{own}
use Rattle.sem_undo.specs.Undo.{Undo, key_of}
use Rattle.ipc_state.specs.contracts.state.State.{the_view}
use Rattle.ipc_state.specs.declared.numbered.Numbered.{Numbered as Table}
use Rattle.ipc_state.specs.declared.state.State.TheInside.{Inside}
use Rattle.ipc_state.specs.Held.{Held}
use Rattle.ipc_state.specs.Lends.{HasPut}
use Rattle.ipc_state.specs.Numbered.{Numbered}
use Rattle.ipc_state.specs.State.{undo_of}
use Rattle.ipc_state.specs.Tables.{numbered_of}
use Rattle.ipc_state.proofs.Inside.{with_undo_in}
use Rattle.ipc_state.proofs.Places.{with-none}
use Rattle.ipc_state.proofs.state.State.restore_adjustment.Goals as goal

pub returns-in_default-clause-state : goal.returns-in_default-clause-state
returns-in_default-clause-state c kept =
    let old = c.args.self.now.state in
    let t = c.self.inside in
    let none : value_at nat_eq (numbered_of t.undo).entries c.args.pid.0 ≡ None = sym (c.in_default.ensures).value in
    let same : (numbered_of c.get_mut.follows.lender-at-none).entries ≡ (numbered_of t.undo).entries =
    ap (λ (o : Table Undo). (numbered_of o).entries) c.get_mut.follows.holds-at-none in
    let with : (x : Undo) → with_value nat_eq old.undo c.args.pid.0 x ≡ old.undo =
    λ x. with-none old.undo c.args.pid.0 x (ap (λ (m : Held). value_at nat_eq m.state.undo c.args.pid.0) (sym c.self.view_is) ∙ none) in
    ap (λ (us : List (ℕ × Undo)). record (the_view t).state { undo = us }) same
    ∙ ap (λ (m : Held). m.state) c.self.view_is
    ∙ ap (λ (us : List (ℕ × Undo)). record old { undo = us }) (sym (with (fin.insert (undo_of old c.args.pid.0) (key_of c.args.row) c.args.row.adjustment)))

pub returns-in_default-clause-dropped : goal.returns-in_default-clause-dropped
returns-in_default-clause-dropped c none =
    let viewed : Table Undo → Held = λ (o : Table Undo). the_view (record c.self.inside { undo = o }) in
    ap viewed c.get_mut.follows.holds-at-none ∙ c.self.view_is

-- the same adjustments in the place of those that were lent leave all as it was
kept-all : (t : Inside) (pid : ℕ) (u x : Undo) (new : Table Undo) → value_at nat_eq (numbered_of t.undo).entries pid ≡ Some u
    → HasPut t.undo pid x new → x ≡ u → the_view (record t { undo = new }) ≡ the_view t
kept-all t pid u x new was puts same =
    let back : (numbered_of new).entries ≡ (numbered_of t.undo).entries =
    ap (λ (o : Numbered Undo). o.entries) puts.numbered
    ∙ ap (λ (y : Undo). with_value nat_eq (numbered_of t.undo).entries pid y) same ∙ own (numbered_of t.undo).entries pid u was in
    λ i. with_undo_in t (back i) (puts.place i)

pub returns-clause-dropped : goal.returns-clause-dropped
returns-clause-dropped c =
    let new = c.restore.new.self in
    on_ok_weaker c.restore.result
    (λ drops none. kept-all c.self.inside c.args.pid.0 c.in-Some.undo.now new (c.get_mut.follows.lender new) (sym (c.in-Some.ensures).value)
    (c.get_mut.follows.holds new) (drops none) ∙ c.self.view_is)
    c.restore.ensures.dropped

pub returns-clause-err : goal.returns-clause-err
returns-clause-err c =
    let new = c.restore.new.self in
    on_err_weaker c.restore.result
    (λ same. kept-all c.self.inside c.args.pid.0 c.in-Some.undo.now new (c.get_mut.follows.lender new) (sym (c.in-Some.ensures).value)
    (c.get_mut.follows.holds new) same ∙ c.self.view_is)
    c.restore.ensures.err
