use Rattle.std.proofs.Common.{Contains, ap, map, sym, ◌∙◌, subst}
use Rattle.std.specs.Prelude.{slice_get}
use Rattle.std.specs.List.Sorted.{IsPermutation}
use Rattle.std.proofs.lemmas.List.Sorted.{IsPermutation-sym, IsPermutation-trans}
use Rattle.ipc_arrivals.specs.Arrivals.{Arrived}
use Rattle.ipc_arrivals.proofs.Kept.{ranks-values}
use Rattle.ipc_arrivals.proofs.Permutations.{one_order}
use Rattle.ipc_arrivals.proofs.Ranks.{if_some, rank-found}
use Rattle.ipc_arrivals.proofs.arrivals.Arrivals.rank_at.Goals as goal

pub returns-clause-rank : goal.returns-clause-rank
returns-clause-rank g c ranks up same =
    let r = c.rank_at.ensures in
    let types = map (λ row. row.rank) c.self.inside.index.rows in
    let is = ap (λ (a : Arrived _). map g.T.Ranked.rank a.items) (sym c.self.view_is)
    ∙ ranks-values g.T.Ranked.rank c.self.inside.slots c.self.inside.index.rows c.self.invariant.0 in
    let own = subst (λ ns. IsPermutation ns ranks) is same in
    let one = one_order r.0 ranks r.1 up (IsPermutation-trans r.0 types ranks (IsPermutation-sym types r.0 r.2) own) in
    r.3 ∙ ap (λ ns. slice_get ns c.args.at) one

pub returns-clause-found : goal.returns-clause-found
returns-clause-found g c =
    let r = c.rank_at.ensures in
    let rows = c.self.inside.index.rows in
    let is = sym (ranks-values g.T.Ranked.rank c.self.inside.slots rows c.self.invariant.0)
    ∙ ap (λ (a : Arrived _). map g.T.Ranked.rank a.items) c.self.view_is in
    if_some c.rank_at.result (Contains (map g.T.Ranked.rank c.args.self.now.items))
    (λ x found. subst (λ ns. Contains ns x) is (rank-found rows r.0 r.1 r.2 c.args.at x (sym r.3 ∙ found)))
