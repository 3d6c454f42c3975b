-- One sector more is given back.
use Rattle.std.proofs.Common.{ℕ, ◌-◌, false, List, take, get_or, set, ap, sym, subst}
use Rattle.std.proofs.lemmas.List.{take_more}
use Rattle.ipc_heap.specs.declared.uses.Use.{Use}
use Rattle.ipc_heap.specs.Relations.Uses.{AreGiven, HasTop}
use Rattle.ipc_heap.proofs.Sectors.{given-push, top-given}
use Rattle.ipc_heap.proofs.uses.Uses.give_back.Goals as goal

pub loop-sector-preserved : goal.loop-sector-preserved
loop-sector-preserved c =
    let uses : List Use = c.loop-sector.self-inside.uses.items in
    let s : ℕ = get_or c.args.sectors.now c.loop-sector.sector-index 0 in
    let was : Use = c.index_mut.result.now in
    let given : Use → List Use = λ u. set uses (s - c.args.first) (record { saved = u.saved; next = false }) in
    let inside = c.requires c.loop-sector.sector-index 0 c.loop-sector-test.true in
    record {
      given = subst (λ (l : List ℕ). AreGiven c.args.first c.args.self.now l (given was))
          (sym (take_more c.args.sectors.now c.loop-sector.sector-index 0 c.loop-sector-test.true))
          (given-push c.args.first c.args.self.now uses (given was)
          (take c.loop-sector.sector-index c.args.sectors.now) s was c.loop-sector.invariant.given inside.0 inside.1 (ap given c.index_mut.ensures.value));
      top = subst (λ (l : List Use). HasTop l c.loop-sector.self-inside.top) (sym (ap given c.index_mut.ensures.value))
          (top-given uses c.loop-sector.self-inside.top (s - c.args.first) was c.loop-sector.invariant.top);
    }
