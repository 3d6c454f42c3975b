use Rattle.std.proofs.Common.{length, refl, sym, ap, subst, Err, arith}
use Rattle.ipc_hub.specs.Clients.{no_clients}
use Rattle.ipc_script.specs.declared.fault.ScriptFault.{ScriptFault}
use Rattle.ipc_script.specs.Script.{MayStop}
use Rattle.ipc_script.specs.Relations.Input.{IsReadFault}
use Rattle.ipc_script.proofs.Lasting.{leaves-same}
use Rattle.ipc_script.proofs.NumbersSpent.{not-the-readers}
use Rattle.ipc_script.proofs.ScriptLines.{script_done, not_read}
use Rattle.ipc_script.proofs.script.run_script.Goals as goal

pub returns-in-Err : goal.returns-in-Err
returns-in-Err g c =
    let machine = c.args.store.machine in
    let is = not_read (g.R.Read.remaining c.args.reader.now) (g.R.Read.remaining c.read_script.new.reader) (g.W.Write.contents c.args.writer.now)
    c.in-Err.fault c.in-Err.ensures.faults (λ is. c.in-Err.ensures.too_long (ap (λ (e : ScriptFault). Err e) is)) in (
      is.0,
      is.1,
      λ events _ _. is.2 machine.limits (no_clients machine.state events),
      λ _ _. not-the-readers _ _ c.in-Err.fault c.in-Err.ensures.faults,
      λ events _ _. leaves-same g.D.SectorDisk.medium g.met.D.SectorDisk.only_now machine.limits (no_clients machine.state events) is.0 _ c.args.store _
          c.in-Err.fault c.close.ensures.disk refl (λ device. subst IsReadFault device c.in-Err.ensures.faults),
    )

pub returns-in-Ok : goal.returns-in-Ok
returns-in-Ok g c =
    let machine = c.args.store.machine in (
      c.in-Ok.script.items,
      c.in-Ok.ensures.whole,
      λ events count may. script_done machine.limits (no_clients machine.state events) c.deref.result.now c.in-Ok.script.items _ _ c.run_lines.result.0
          c.deref.ensures.value c.in-Ok.ensures.bounded
          (c.run_lines.ensures.runs machine.limits (no_clients machine.state events) (c.new.ensures.matches events count) refl
          (subst (λ s. MayStop (g.D.SectorDisk.medium s.disk) c.deref.result.now) (sym c.new.ensures.store)
          (subst (MayStop (g.D.SectorDisk.medium c.args.store.disk)) (sym c.deref.ensures.value) may))),
      λ young may. rw c.new.ensures.store at (c.run_lines.ensures.disk)
          (record { running = young.running; left = omega (arith, young.numbers, c.in-Ok.ensures.bounded, ap length c.deref.ensures.value) })
          (subst (MayStop (g.D.SectorDisk.medium c.args.store.disk)) (sym c.deref.ensures.value) may),
      λ events count may.
          let left = c.run_lines.ensures.leaves machine.limits (no_clients machine.state events) (c.new.ensures.matches events count) refl
          (subst (λ s. MayStop (g.D.SectorDisk.medium s.disk) c.deref.result.now) (sym c.new.ensures.store)
          (subst (MayStop (g.D.SectorDisk.medium c.args.store.disk)) (sym c.deref.ensures.value) may)) in
          rw (c.new.ensures.store, c.deref.ensures.value) at left,
    )
