use Rattle.std.proofs.Common.{◌≡◌, ℕ, ◌+◌, ◌<◌, List, ◌∷◌, map, drop, length, get_or, sym, ap, subst, ◌∙◌}
use Rattle.std.proofs.lemmas.List.{drop_all, drop_more}
use Rattle.ipc_engine.specs.declared.event.Outcome.{Outcome}
use Rattle.ipc_engine.specs.Event.{PlainOutcome}
use Rattle.ipc_engine.specs.View.{plain_outcome}
use Rattle.ipc_hub.specs.Relations.Rows.{Table}
use Rattle.ipc_hub.specs.Relations.Delivery.{HaveSpace, put_all}
use Rattle.ipc_hub.proofs.Keeping.{put-apart, put-next, seen-same}
use Rattle.ipc_hub.proofs.connections.Connections.deliver.Goals as goal

-- the replies that are left begin with this one
left : (os : List Outcome) (i : ℕ) (o : Outcome) → i < length os → o ≡ get_or os i o
    → map plain_outcome (drop i os) ≡ plain_outcome o ∷ map plain_outcome (drop (i + 1) os)
left os i o within is =
    ap (map plain_outcome) (drop_more os i o within)
    ∙ ap (λ (p : Outcome). plain_outcome p ∷ map plain_outcome (drop (i + 1) os)) (sym is)

-- and they have room
has : (os : List Outcome) (i : ℕ) (o : Outcome) (table : Table) → i < length os → o ≡ get_or os i o
    → HaveSpace (map plain_outcome (drop i os)) table → HaveSpace (plain_outcome o ∷ map plain_outcome (drop (i + 1) os)) table
has os i o table within is space = subst (λ (ps : List PlainOutcome). HaveSpace ps table) (left os i o within is) space

pub put-requires-clause-space : goal.put-requires-clause-space
put-requires-clause-space c =
    (has c.args.outcomes.now c.loop-outcome.outcome-index c.outcome-item.result c.loop-outcome.self c.loop-outcome-test.true c.outcome-item.is
    c.loop-outcome.invariant.space).1

pub loop-outcome-preserved : goal.loop-outcome-preserved
loop-outcome-preserved c =
    let os = c.args.outcomes.now in
    let i = c.loop-outcome.outcome-index in
    let o = c.outcome-item.result in
    let table = c.loop-outcome.self in
    let rest = map plain_outcome (drop (i + 1) os) in
    rw c.put.ensures (record {
      apart = put-apart (plain_outcome o) table c.loop-outcome.invariant.apart;
      space = (has os i o table c.loop-outcome-test.true c.outcome-item.is c.loop-outcome.invariant.space).2;
      all = put-next (plain_outcome o) rest table
          ∙ ap (λ (ps : List PlainOutcome). put_all ps table) (sym (left os i o c.loop-outcome-test.true c.outcome-item.is)) ∙ c.loop-outcome.invariant.all;
    })

pub returns : goal.returns
returns c =
    let now = c.loop-outcome.self in
    sym (seen-same now)
    ∙ ap (λ (os : List Outcome). put_all (map plain_outcome os) now) (sym (drop_all c.loop-outcome.outcome-index c.args.outcomes.now c.loop-outcome-test.false))
    ∙ c.loop-outcome.invariant.all
