-- Each write adds a sector of the table, and touches no other.
use Rattle.std.proofs.Common.{◌≡◌, ℕ, ◌+◌, ◌<◌, List, ◌++◌, ◌∷◌, [], length, get_or, take, sym, ap, subst, ◌∙◌, arith}
use Rattle.std.specs.Prelude.{Contains, slice_set}
use Rattle.std.proofs.lemmas.List.{take_more, take_all, get_or_past, length-take-le}
use Rattle.std.proofs.lemmas.List.Elements.{Contains-get_or}
use Rattle.ipc_disk.proofs.CallerLemmas.{IsSameDisk-then, IsSameDisk-call, LeavesAlone-writes}
use Rattle.ipc_heap.specs.Relations.Table.{IsTableSector}
use Rattle.ipc_heap.proofs.Writes.{StandsIn, TableSector, wrote-none, wrote-more, stands-push, next-apart, table-stands}
use Rattle.ipc_heap.proofs.table.write_table.Goals as goal
use Rattle.ipc_heap.proofs.table.write_table.Goals.{then-j-count, else-j-count}

pub loop-j-init : goal.loop-j-init
loop-j-init g c = record {
  wrote = wrote-none g.D.SectorDisk.size g.D.SectorDisk.medium g.D.SectorDisk.counts _ c.args.disk.now (g.met.D.SectorDisk.in_range c.args.disk.now)
      (λ image left. g.met.D.SectorDisk.only_now c.args.disk.now image left);
  stands = λ honest k less. absurd (omega (arith, less));
}

pub loop-j-preserved : goal.loop-j-preserved
loop-j-preserved g c =
    let words = g.T.Table.words c.args.table.now in
    let ss = g.T.Table.sectors c.args.table.now in
    let j = c.loop-j.j in
    let less : j < length ss = omega (arith, c.requires.all, c.div_ceil-count.ensures, c.len.ensures, c.loop-j-test.true) in
    let at : c.sector.result ≡ get_or ss j 0 = c.sector.ensures in
    let next : c.if-j-count.next ≡ get_or ss (j + 1) 0 = elim c.if-j-count.branch [
      | then-j-count w ↦ w.next-is ∙ w.sector-next.ensures
      | else-j-count w ↦ w.next-is ∙ sym (get_or_past ss (j + 1) 0 (omega (arith, c.requires.all, c.div_ceil-count.ensures, c.len.ensures, w.if-j-count.false)))
    ] in
    let here : TableSector words ss j c.table_sector-sector.result =
    subst (λ (n : ℕ). IsTableSector words j n c.table_sector-sector.result) next c.table_sector-sector.ensures in
    record {
      wrote = wrote-more (g.met.D.SectorDisk.in_range c.args.disk.now) c.loop-j.invariant.wrote c.write.new.self
          (λ out. out (subst (Contains ss) (sym at) (Contains-get_or ss j 0 less))) c.write.ensures.medium c.write.ensures.call.sectors
          c.in_ok-write.ensures.call.ok;
      stands = λ honest.
          let mid = (c.loop-j.invariant.wrote.others honest).honest in
          let old = g.D.SectorDisk.medium c.loop-j.disk in
          let long : length old.contents ≡ g.D.SectorDisk.size c.args.disk.now =
          (g.met.D.SectorDisk.shaped c.loop-j.disk old.contents mid.reads).count ∙ c.loop-j.invariant.wrote.same.sectors in
          let set : (g.D.SectorDisk.medium c.write.new.self).contents ≡ slice_set old.contents (get_or ss j 0) c.table_sector-sector.result =
          c.in_ok-write.ensures.written mid ∙ ap (λ (n : ℕ). slice_set old.contents n c.table_sector-sector.result) at in
          let within : get_or ss j 0 < length old.contents = omega (arith, long, c.requires.within j 0 less) in
          let front : length (take j ss) ≡ j = length-take-le j ss (omega (arith, less)) in
          subst (λ (l : List ℕ). StandsIn (TableSector words ss) l (g.D.SectorDisk.medium c.write.new.self).contents) (sym (take_more ss j 0 less))
          (subst (StandsIn (TableSector words ss) (take j ss ++ get_or ss j 0 ∷ [])) (sym set)
          (stands-push (TableSector words ss) (take j ss) (get_or ss j 0) c.table_sector-sector.result old.contents (next-apart ss j c.requires.once less)
          within (subst (λ (n : ℕ). TableSector words ss n c.table_sector-sector.result) (sym front) here) (c.loop-j.invariant.stands honest)));
    }

pub returns-in_err-write-clause-others : goal.returns-in_err-write-clause-others
returns-in_err-write-clause-others g c = λ honest.
    let ss = g.T.Table.sectors c.args.table.now in
    let less : c.loop-j.j < length ss = omega (arith, c.requires.all, c.div_ceil-count.ensures, c.len.ensures, c.loop-j-test.true) in
    LeavesAlone-writes (λ i. Contains ss i → ⊥) _ _ _ c.sector.result c.table_sector-sector.result (c.loop-j.invariant.wrote.others honest)
    (λ out. out (subst (Contains ss) (sym c.sector.ensures) (Contains-get_or ss c.loop-j.j 0 less))) c.write.ensures.medium

pub returns-in_err-write-clause-same : goal.returns-in_err-write-clause-same
returns-in_err-write-clause-same g c = IsSameDisk-then c.loop-j.invariant.wrote.same (IsSameDisk-call c.write.ensures.call c.write.ensures.medium.time)

pub returns-clause-written : goal.returns-clause-written
returns-clause-written g c = λ honest.
    let words = g.T.Table.words c.args.table.now in
    let ss = g.T.Table.sectors c.args.table.now in
    let all : take c.loop-j.j ss ≡ ss =
    take_all c.loop-j.j ss (omega (arith, c.requires.all, c.div_ceil-count.ensures, c.len.ensures, c.loop-j-test.false)) in
    table-stands words ss (g.D.SectorDisk.medium c.loop-j.disk).contents c.requires.all
    (subst (λ (l : List ℕ). StandsIn (TableSector words ss) l (g.D.SectorDisk.medium c.loop-j.disk).contents) all (c.loop-j.invariant.stands honest))
