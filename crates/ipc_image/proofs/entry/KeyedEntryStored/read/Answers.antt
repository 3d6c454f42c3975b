use Rattle.std.proofs.Common.{◌≡◌, ◌∙◌, ℤ, sym, ap, subst}
use Rattle.std.specs.Prelude.{Err}
use Rattle.std.specs.Int.{w32}
use Rattle.std.proofs.lemmas.Int.{to_z-of_z}
use Rattle.ipc_state.specs.Keyed.{KeyedEntry}
use Rattle.ipc_image.specs.Saved.{head_numbers, entry_bytes, FitsEntry}
use Rattle.ipc_image.proofs.Entries.{after-numbers, entry-read}
use Rattle.ipc_image.proofs.entry.KeyedEntryStored.read.Goals as goal

pub returns-in_err-head-clause-damaged : goal.returns-in_err-head-clause-damaged
returns-in_err-head-clause-damaged g c is e fit =
    let none = rw c.in_err-head.ensures.ok_part at c.take_head.ensures.none in
    none (head_numbers e.bound e.perm) _ fit.head

pub returns-in_err-read_parts-clause-damaged : goal.returns-in_err-read_parts-clause-damaged
returns-in_err-read_parts-clause-damaged g c is e fit same =
    let t = g.T.Kind in
    let why = rw is at c.from_residual-in_err-read_parts.ensures in
    let head = rw c.in_ok-head.ensures.ok_part at c.take_head.ensures.some in
    let own = c.in_ok-object.ensures.ok in
    c.in_err-read_parts.ensures.damaged (ap (λ e. Err e) (sym why.1)) (t.parts e.object) fit.count fit.parts
    (after-numbers t.sizes t.numbers t.part_bytes t.FitsPart t.parts e fit c.args.bytes.now same
    (head_numbers c.in_ok-head.head.bound c.in_ok-head.head.perm) c.in_ok-head.rest.now head.2 head.1
    own.0 c.in_ok-object.rest.now own.2 own.1)

pub returns-clause-ok : goal.returns-clause-ok
returns-clause-ok g c =
    let t = g.T.Kind in
    let head = rw c.in_ok-head.ensures.ok_part at c.take_head.ensures.some in
    let own = c.in_ok-object.ensures.ok in
    let read = c.in_ok-read_parts.ensures.ok in
    let x = c.read_parts.new.self in
    let is : x ≡ t.from own.0 read.0 = read.4 own.0 own.3 in
    let known = g.met.T.Kind.known own.0 read.0 own.1 in
    let key : ℤ = c.in_ok-head.head.bound in
    subst (λ (k : ℤ). let e : KeyedEntry g.row.T.Denot = record { bound = k; perm = c.in_ok-head.head.perm; object = x } in
    FitsEntry t.sizes t.numbers t.FitsPart t.parts e × (c.args.bytes.now ≡ entry_bytes t.sizes t.numbers t.part_bytes t.parts e))
    (sym (to_z-of_z w32 key head.0))
    (entry-read t.sizes t.numbers t.part_bytes t.FitsPart t.parts key c.in_ok-head.head.perm x own.0 read.0 c.args.bytes.now
    c.in_ok-head.rest.now c.in_ok-object.rest.now head.0 head.1 head.2 own.1 own.2 (ap t.numbers is ∙ known.0) read.1 read.2 read.3
    (ap t.parts is ∙ known.1))
