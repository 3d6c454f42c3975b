use Rattle.std.proofs.Common.{◌≡◌, ◌^◌, sym, ap, ◌∙◌, rules}
use Rattle.std.specs.Prelude.{nat_eq}
use Rattle.ipc_base.specs.Table.{without}
use Rattle.ipc_base.proofs.CallerLemmas.{remove_at_place, rising-without, without_nowhere}
use Rattle.ipc_hub.specs.Relations.Rows.{row, rows}
use Rattle.ipc_hub.proofs.Rows.{process_of, found-first, found-at, missing-first, missing-at}
use Rattle.ipc_hub.proofs.connections.Connections.remove.Goals as goal

pub returns-in_err-place-clause-process : goal.returns-in_err-place-clause-process
returns-in_err-place-clause-process c =
    rw (c.from_residual.ensures, ← c.self.view_is) (ap process_of
    (sym (missing-at c.self.inside.items.items c.deref.result.now c.args.conn c.deref.ensures.value (sym c.place_of.ensures ∙ c.in_err-place.was))))

pub returns-in_err-place-clause-left : goal.returns-in_err-place-clause-left
returns-in_err-place-clause-left c =
    rw (← c.self.view_is) (sym (without_nowhere row nat_eq c.args.conn c.self.inside.items.items
    (missing-first c.self.inside.items.items c.deref.result.now c.args.conn c.deref.ensures.value (sym c.place_of.ensures ∙ c.in_err-place.was))))

pub invariant_of-self : goal.invariant_of-self
invariant_of-self c =
    let left : rows c.remove-connection.new.self.items ≡ without nat_eq (rows c.self.inside.items.items) c.args.conn =
    search (rules, found-first, remove_at_place) in
    rw left (rising-without 0 (rows c.self.inside.items.items) (2 ^ 32) c.args.conn c.self.invariant)

pub returns-clause-process : goal.returns-clause-process
returns-clause-process c = search (rules, found-at, process_of)

pub returns-clause-left : goal.returns-clause-left
returns-clause-left c = search (rules, found-first, remove_at_place)
