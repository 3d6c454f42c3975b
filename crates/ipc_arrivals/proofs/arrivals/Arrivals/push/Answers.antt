use Rattle.std.proofs.Common.{◌++◌, ◌∷◌, [], ap, length, sym, ◌∙◌, subst, arith}
use Rattle.ipc_arrivals.specs.Arrivals.{AreKept, Arrived, Rows, values_at}
use Rattle.ipc_arrivals.proofs.Kept.{kept-push, length-values, vacant, values-push}
use Rattle.ipc_arrivals.proofs.arrivals.Arrivals.push.Goals as goal

pub insert_reserved-slot-requires : goal.insert_reserved-slot-requires
insert_reserved-slot-requires g c =
    omega (
      arith,
      c.requires,
      ap (λ (a : Arrived _). length a.items) c.self.view_is,
      ap (λ (a : Arrived _). a.places) c.self.view_is,
      length-values g.T.Ranked.rank c.self.inside.slots c.self.inside.index.rows c.self.invariant.0,
      c.self.invariant.0.count,
      c.self.invariant.1,
    )

pub push-requires-clause-room : goal.push-requires-clause-room
push-requires-clause-room g c =
    omega (
      arith,
      c.requires,
      ap (λ (a : Arrived _). length a.items) c.self.view_is,
      ap (λ (a : Arrived _). a.places) c.self.view_is,
      length-values g.T.Ranked.rank c.self.inside.slots c.self.inside.index.rows c.self.invariant.0,
    )

pub push-requires-clause-slot : goal.push-requires-clause-slot
push-requires-clause-slot g c = let p = c.insert_reserved-slot.ensures in omega (arith, p.key_in_range, p.capacity, c.self.invariant.1)

pub push-requires-clause-vacant : goal.push-requires-clause-vacant
push-requires-clause-vacant g c =
    let p = c.insert_reserved-slot in
    vacant g.T.Ranked.rank c.self.inside.slots c.self.inside.index.rows c.self.invariant.0 p.result p.ensures.was_vacant

pub invariant_of-self : goal.invariant_of-self
invariant_of-self g c =
    let rank = g.T.Ranked.rank in
    let i = c.self.inside in
    let p = c.insert_reserved-slot in
    let rows = ap (λ (r : Rows). r.rows) c.push.ensures ∙ ap (λ n. i.index.rows ++ (record { rank = n; slot = p.result }) ∷ []) c.rank-rank.ensures in (
      subst (AreKept rank p.new.self) (sym rows)
          (kept-push rank i.slots i.index.rows c.self.invariant.0 p.new.self c.args.value p.result p.ensures.was_vacant p.ensures.updates p.ensures.len),
      omega (arith, ap (λ (r : Rows). r.places) c.push.ensures, p.ensures.capacity, c.self.invariant.1),
    )

pub returns : goal.returns
returns g c =
    let rank = g.T.Ranked.rank in
    let i = c.self.inside in
    let p = c.insert_reserved-slot in
    let rows = ap (λ (r : Rows). r.rows) c.push.ensures ∙ ap (λ n. i.index.rows ++ (record { rank = n; slot = p.result }) ∷ []) c.rank-rank.ensures in
    let items = ap (values_at p.new.self) rows
    ∙ values-push rank i.slots i.index.rows c.self.invariant.0 p.new.self c.args.value p.result p.ensures.was_vacant p.ensures.updates p.ensures.len
    ∙ ap (λ (a : Arrived _). a.items ++ c.args.value ∷ []) c.self.view_is in
    let places = ap (λ (r : Rows). r.places) c.push.ensures ∙ ap (λ (a : Arrived _). a.places) c.self.view_is in
    ap (λ is. record { items = is; places = c.push.new.self.places }) items
    ∙ ap (λ n. record { items = c.args.self.now.items ++ c.args.value ∷ []; places = n }) places
