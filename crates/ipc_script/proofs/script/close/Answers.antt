use Rattle.std.proofs.Common.{◌≡◌, map, refl, sym, ap, ◌∙◌}
use Rattle.std.specs.Prelude.{nat_eq, position}
use Rattle.ipc_base.proofs.CallerLemmas.{remove_at_place, without_nowhere}
use Rattle.ipc_script.specs.declared.report.Opened.{Opened}
use Rattle.ipc_hub.specs.Relations.Faults.{Refuses}
use Rattle.ipc_script.proofs.HubAndClients.{connected, is_known, is_unknown, is_its_fault}
use Rattle.std.specs.Prelude.{⊤}
use Rattle.ipc_script.specs.Relations.Faults.{of_serve_error}
use Rattle.ipc_script.proofs.FaultCases.{by_fault, fault-is}
use Rattle.ipc_script.proofs.Halting.{matches-failed, refuses-fails}
use Rattle.ipc_script.specs.declared.fault.ScriptFault.TheVariants.{Device}
use Rattle.ipc_script.proofs.OpenConnections.{by_number, close_in}
use Rattle.ipc_script.proofs.Lasting.{takes-refused}
use Rattle.ipc_script.proofs.script.close.Goals as goal

pub returns-in-Some-clause-ok : goal.returns-in-Some-clause-ok
returns-in-Some-clause-ok g c limits r b =
    let os = c.args.opened.now.items in
    let med = g.D.SectorDisk.medium in
    let place = ap (position (λ (o : Opened). nat_eq o.conn c.args.conn)) (sym c.deref.ensures.value) ∙ sym c.place_of.ensures.ok ∙ c.in-Some.is in
    close_in med limits c.args.hub.now c.hangup.new.self os c.remove.new.self.items r c.args.conn c.args.moment.0 b
    (is_known c.args.hub.now c.args.conn c.hangup.result _ c.in-Ok.is c.hangup.ensures.stopped
    c.hangup.ensures.unknown) c.in-Ok.ensures.ok
    (ap (map by_number) c.remove.ensures.items ∙ remove_at_place by_number nat_eq c.args.conn os c.in-Some.place c.remove.result place)

pub returns-in_default-clause-ok : goal.returns-in_default-clause-ok
returns-in_default-clause-ok g c limits r b =
    let os = c.args.opened.now.items in
    let nowhere = ap (position (λ (o : Opened). nat_eq o.conn c.args.conn)) (sym c.deref.ensures.value) ∙ sym c.place_of.ensures.ok
    ∙ c.in_default.is in
    close_in g.D.SectorDisk.medium limits c.args.hub.now c.hangup.new.self os os r c.args.conn c.args.moment.0 b
    (is_known c.args.hub.now c.args.conn c.hangup.result _ c.in-Ok.is c.hangup.ensures.stopped c.hangup.ensures.unknown) c.in-Ok.ensures.ok
    (sym (without_nowhere by_number nat_eq c.args.conn os nowhere))

pub returns-in-Err-clause-unknown : goal.returns-in-Err-clause-unknown
returns-in-Err-clause-unknown g c =
    let hub = c.args.hub.now in
    rw c.fault_of.ensures (is_unknown (Refuses g.D.SectorDisk.medium g.D.SectorDisk.counts hub c.hangup.new.self c.args.conn) _ c.in-Err.error
    c.args.number (λ none limits r b. sym (connected limits hub.store.confirmed hub.hub r.hub c.args.conn b.run.matches.hub) ∙ none.1)
    c.in-Err.ensures.refused)

pub returns-in-Err-clause-err : goal.returns-in-Err-clause-err
returns-in-Err-clause-err g c =
    rw c.fault_of.ensures (by_fault ⊤ ⊤ ⊤ ⊤ _ _ (of_serve_error c.in-Err.error c.args.number) (λ t. t) (λ t. t) (λ is. (is.0, is.2))
    (is_its_fault (Refuses g.D.SectorDisk.medium g.D.SectorDisk.counts c.args.hub.now c.hangup.new.self c.args.conn) ⊤ ⊤ ⊤
    (c.hangup.new.self ≡ c.args.hub.now) c.in-Err.error c.args.number (λ r. r.2) (λ _. tt) (λ _. tt) tt c.in-Err.ensures.refused))

pub returns-in-Err-clause-takes : goal.returns-in-Err-clause-takes
returns-in-Err-clause-takes g c =
    takes-refused g.D.SectorDisk.medium g.met.D.SectorDisk.only_now g.D.SectorDisk.counts c.args.hub.now c.hangup.new.self c.args.conn c.in-Err.error
    c.in-Err.ensures.refused

pub returns-in-Err-clause-halted : goal.returns-in-Err-clause-halted
returns-in-Err-clause-halted g c is has limits r i =
    let device : of_serve_error c.in-Err.error c.args.number ≡ Device = sym c.fault_of.ensures ∙ fault-is _ _ Device refl is in
    matches-failed g.D.SectorDisk.medium limits c.args.hub.now c.hangup.new.self c.args.opened.now.items r
    (refuses-fails g.D.SectorDisk.medium g.D.SectorDisk.counts 3 c.args.hub.now c.hangup.new.self has c.args.conn c.in-Err.error c.args.number device
    c.in-Err.ensures.refused) i
