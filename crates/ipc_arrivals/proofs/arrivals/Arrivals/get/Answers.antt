use Rattle.std.proofs.Common.{◌<◌, ap, length, sym, ◌∙◌, subst, arith}
use Rattle.std.specs.Prelude.{IsSome, slice_get}
use Rattle.slab.specs.Slab.{get}
use Rattle.ipc_arrivals.specs.Arrivals.{Arrived, Row}
use Rattle.ipc_arrivals.proofs.Kept.{holds-value, length-values, value-at}
use Rattle.ipc_arrivals.proofs.arrivals.Arrivals.get.Goals as goal

any : Row
any = record { rank = 0; slot = 0 }

pub slot-requires : goal.slot-requires
slot-requires g c =
    omega (
      arith,
      c.requires,
      ap (λ (a : Arrived _). length a.items) c.self.view_is,
      length-values g.T.Ranked.rank c.self.inside.slots c.self.inside.index.rows c.self.invariant.0,
    )

pub index-requires : goal.index-requires
index-requires g c =
    let i = c.self.inside in
    let within : c.args.at < length i.index.rows =
    omega (arith, c.requires, ap (λ (a : Arrived _). length a.items) c.self.view_is, length-values g.T.Ranked.rank i.slots i.index.rows c.self.invariant.0) in
    subst (λ k. IsSome (get i.slots k)) (sym (c.slot.ensures any)) (holds-value g.T.Ranked.rank i.slots i.index.rows c.self.invariant.0 c.args.at any within)

pub returns : goal.returns
returns g c =
    let i = c.self.inside in
    let within : c.args.at < length i.index.rows =
    omega (arith, c.requires, ap (λ (a : Arrived _). length a.items) c.self.view_is, length-values g.T.Ranked.rank i.slots i.index.rows c.self.invariant.0) in
    ap (λ (a : Arrived _). slice_get a.items c.args.at) (sym c.self.view_is)
    ∙ value-at g.T.Ranked.rank i.slots i.index.rows c.self.invariant.0 c.args.at any within
    ∙ ap (get i.slots) (sym (c.slot.ensures any))
    ∙ c.index.ensures
