use Rattle.std.proofs.Common.{sym, ap, subst}
use Rattle.std.specs.Prelude.{Err}
use Rattle.ipc_store.specs.View.{StoreView}
use Rattle.ipc_script.specs.declared.fault.ScriptFault.TheVariants.{Device}
use Rattle.ipc_script.specs.Relations.Lasts.{FailsWithin}
use Rattle.ipc_script.specs.Relations.Lines.{plain_line}
use Rattle.ipc_script.specs.Relations.Simulation.{LineStops}
use Rattle.ipc_script.specs.Relations.Matches.{MatchesFailed}
use Rattle.ipc_script.proofs.Halting.{halts-in}
use Rattle.ipc_script.proofs.WrittenText.{grown_more, part_none}
use Rattle.ipc_script.proofs.script.run_line.Goals as goal

pub returns-in-Err-Device-clause-line : goal.returns-in-Err-Device-clause-line
returns-in-Err-Device-clause-line g c = λ limits r b.
    let before = g.W.Write.contents c.args.writer.now in
    let then = g.W.Write.contents c.serve_line.new.writer in
    let med = g.D.SectorDisk.medium in
    let line = plain_line c.args.line in
    let stops : LineStops med limits c.args.number r line c.args.hub.now c.serve_line.new.hub before then Device =
    rw c.in-Err-Device.field-0-is at (c.in-Err-Device.ensures.line limits r b) in (
      subst (λ (s : StoreView g.row.D.Denot). FailsWithin med limits c.args.number r line c.args.hub.now.store s) (sym c.last_words.ensures.store) stops.0,
      grown_more before then _ stops.1 c.last_words.ensures.grows,
    )

pub returns-in-Err-Device-clause-halted : goal.returns-in-Err-Device-clause-halted
returns-in-Err-Device-clause-halted g c is has limits r b =
    let halts = c.in-Err-Device.ensures.halted (ap (λ e. Err e) c.in-Err-Device.field-0-is) has limits r b in
    let confirmed = ap (λ s. s.confirmed) c.last_words.ensures.store in
    let failed = subst (λ os. MatchesFailed limits c.serve_line.new.hub os halts.now) (sym c.deref_mut.ensures.value) halts.failed in
    rw confirmed (halts-in limits r (plain_line c.args.line) c.serve_line.new.hub _ _ _ _ halts (c.last_words.ensures.says limits halts.now failed))

pub returns-in_default-clause-halted : goal.returns-in_default-clause-halted
returns-in_default-clause-halted g c is has limits r b =
    let halts = c.in_default.ensures.halted is has limits r b in
    halts-in limits r (plain_line c.args.line) c.serve_line.new.hub _ _ _ _ halts (part_none _ _)
