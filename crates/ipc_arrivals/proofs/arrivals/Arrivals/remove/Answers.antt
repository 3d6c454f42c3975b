use Rattle.std.proofs.Common.{◌<◌, ap, length, sym, ◌∙◌, subst, arith}
use Rattle.std.specs.Prelude.{IsSome, None, slice_get}
use Rattle.std.specs.List.{remove}
use Rattle.slab.specs.Slab.{Updates, get}
use Rattle.ipc_arrivals.specs.Arrivals.{AreKept, Arrived, Row, Rows, values_at}
use Rattle.ipc_arrivals.proofs.Kept.{holds-value, kept-remove, length-values, value-at, values-remove}
use Rattle.ipc_arrivals.proofs.arrivals.Arrivals.remove.Goals as goal

any : Row
any = record { rank = 0; slot = 0 }

pub remove-slot-requires : goal.remove-slot-requires
remove-slot-requires g c =
    omega (
      arith,
      c.requires,
      ap (λ (a : Arrived _). length a.items) c.self.view_is,
      length-values g.T.Ranked.rank c.self.inside.slots c.self.inside.index.rows c.self.invariant.0,
    )

pub remove-requires : goal.remove-requires
remove-requires g c =
    let i = c.self.inside in
    let within : c.args.at < length i.index.rows =
    omega (arith, c.requires, ap (λ (a : Arrived _). length a.items) c.self.view_is, length-values g.T.Ranked.rank i.slots i.index.rows c.self.invariant.0) in
    subst (λ k. IsSome (get i.slots k)) (sym (c.remove-slot.ensures.slot any))
    (holds-value g.T.Ranked.rank i.slots i.index.rows c.self.invariant.0 c.args.at any within)

pub invariant_of-self : goal.invariant_of-self
invariant_of-self g c =
    let i = c.self.inside in
    let within : c.args.at < length i.index.rows =
    omega (arith, c.requires, ap (λ (a : Arrived _). length a.items) c.self.view_is, length-values g.T.Ranked.rank i.slots i.index.rows c.self.invariant.0) in
    let out = subst (λ k. Updates i.slots c.remove.new.self k None) (c.remove-slot.ensures.slot any) c.remove.ensures.updates in (
      subst (AreKept g.T.Ranked.rank c.remove.new.self) (sym (ap (λ (r : Rows). r.rows) c.remove-slot.ensures.rows))
          (kept-remove g.T.Ranked.rank i.slots i.index.rows c.self.invariant.0 c.remove.new.self c.args.at any within out c.remove.ensures.len),
      omega (arith, ap (λ (r : Rows). r.places) c.remove-slot.ensures.rows, c.remove.ensures.capacity, c.self.invariant.1),
    )

pub returns-clause-value : goal.returns-clause-value
returns-clause-value g c =
    let i = c.self.inside in
    let within : c.args.at < length i.index.rows =
    omega (arith, c.requires, ap (λ (a : Arrived _). length a.items) c.self.view_is, length-values g.T.Ranked.rank i.slots i.index.rows c.self.invariant.0) in
    ap (λ (a : Arrived _). slice_get a.items c.args.at) (sym c.self.view_is)
    ∙ value-at g.T.Ranked.rank i.slots i.index.rows c.self.invariant.0 c.args.at any within
    ∙ ap (get i.slots) (sym (c.remove-slot.ensures.slot any))
    ∙ c.remove.ensures.value

pub returns-clause-rest : goal.returns-clause-rest
returns-clause-rest g c =
    let i = c.self.inside in
    let within : c.args.at < length i.index.rows =
    omega (arith, c.requires, ap (λ (a : Arrived _). length a.items) c.self.view_is, length-values g.T.Ranked.rank i.slots i.index.rows c.self.invariant.0) in
    let out = subst (λ k. Updates i.slots c.remove.new.self k None) (c.remove-slot.ensures.slot any) c.remove.ensures.updates in
    let items = ap (values_at c.remove.new.self) (ap (λ (r : Rows). r.rows) c.remove-slot.ensures.rows)
    ∙ values-remove g.T.Ranked.rank i.slots i.index.rows c.self.invariant.0 c.remove.new.self c.args.at any within out c.remove.ensures.len
    ∙ ap (λ (a : Arrived _). remove a.items c.args.at) c.self.view_is in
    let places = ap (λ (r : Rows). r.places) c.remove-slot.ensures.rows ∙ ap (λ (a : Arrived _). a.places) c.self.view_is in
    ap (λ is. record { items = is; places = c.remove-slot.new.self.places }) items
    ∙ ap (λ n. record { items = remove c.args.self.now.items c.args.at; places = n }) places
