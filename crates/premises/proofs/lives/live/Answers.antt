use Rattle.std.proofs.Common.{◌≡◌, ◌+◌, ◌<◌, ◌^◌, ◌∙◌, [], ◌∷◌, length, ap, subst, arith}
use Rattle.std.proofs.lemmas.List.{length-map}
use Rattle.ipc_limits.specs.declared.limits.Limits.{Limits}
use Rattle.ipc_disk.specs.Memory.{memory_medium}
use Rattle.ipc_disk.specs.declared.memory.Slot.{Slot}
use Rattle.ipc_engine.specs.Event.{Restart}
use Rattle.ipc_store.proofs.CallerLemmas.{StandsFor-one}
use Rattle.ipc_hub.specs.Clients.{no_clients}
use Rattle.ipc_hub.specs.Relations.Matches.{StoredMatches}
use Rattle.premises.proofs.Living.{one-life}
use Rattle.premises.proofs.lives.live.Goals as goal

pub returns-in-Ok-open : goal.returns-in-Ok-open
returns-in-Ok-open c = λ past stands.
    let limits : Limits = past.limits in
    let disk = c.args.disk in
    let honest = c.disks_in_memory_are_honest.ensures.memory in
    let opened = c.in-Ok.store in
    let opens = c.in-Ok.ensures.ok (honest disk) in
    let image = (memory_medium disk).contents in
    let few : length image < 2 ^ 32 = omega (arith, disk.few, length-map disk.slots.items (λ (slot : Slot). slot.last)) in
    let same = (StandsFor-one opened.machine.limits limits opens.found.0 _ image few opens.found.1 (stands.stands image (honest disk).reads)).0 in
    let count : length (Restart ∷ []) ≡ opened.confirmed + opened.waiting =
    omega (arith, c.in-Ok.ensures.confirmed, opens.found.2.waits.count) in
    let matches = subst (λ (l : Limits). StoredMatches l c.new-hub.result (no_clients opened.machine.state (Restart ∷ []))) same
    (c.new-hub.ensures.matches (Restart ∷ []) count) in
    let left = c.close-2.result in
    let life =
    one-life memory_medium limits disk left opened c.in-Ok-open.store c.new-hub.result c.tick.new.self c.release.new.self c.args.moment.0
    opens c.new-hub.ensures.store matches c.in-Ok-tick.ensures.ok c.in-Ok-release.ensures.ok c.release.ensures.takes
    (honest c.release.new.self.store.disk) (c.close-2.ensures.disk ∙ ap (λ s. s.disk) c.close.ensures.store)
    (c.in-Ok-open.ensures.ok (honest left)) in
    (life.0, c.no_answer_is_taken_back.ensures.history past disk (life.0 ∷ []) c.in-Ok-open.store stands life.1)
