-- The clauses of the calls give the premises of the law.
use Rattle.std.proofs.Common.{◌≡◌, ◌+◌, ◌<◌, ◌^◌, ◌∙◌, [], ◌∷◌, length, ap, subst, arith}
use Rattle.std.proofs.lemmas.List.{length-map}
use Rattle.ipc_limits.specs.declared.limits.Limits.{Limits}
use Rattle.ipc_disk.specs.declared.memory.Slot.{Slot}
use Rattle.ipc_disk.specs.Medium.{IsHonest}
use Rattle.ipc_engine.specs.Event.{Restart}
use Rattle.ipc_store.specs.Histories.{new_past, reopened}
use Rattle.ipc_store.specs.Image.{own_limits}
use Rattle.ipc_store.specs.Lives.{StandsAfter}
use Rattle.ipc_store.proofs.CallerLemmas.{StandsFor-one}
use Rattle.ipc_hub.specs.Clients.{Clients, no_clients}
use Rattle.ipc_hub.specs.Lives.Serving.{New}
use Rattle.ipc_hub.specs.Relations.Matches.{StoredMatches}
use Rattle.premises.specs.declared.remembering.RememberingDisk.{RememberingDisk}
use Rattle.premises.specs.Remembered.{slot_of, slots_of, IsHonest-remembered}
use Rattle.premises.specs.Remembering.{remembering_medium}
use Rattle.premises.specs.Visits.{Goes}
use Rattle.premises.proofs.Visiting.{one-life-with-a-crash}
use Rattle.premises.proofs.lives.one_life_with_a_crash.Goals as goal

contents-fit : (disk : RememberingDisk) → length (remembering_medium disk).contents < 2 ^ 32
contents-fit disk = omega (
  arith,
  disk.few,
  length-map disk.slots.items slot_of,
  length-map (slots_of disk.slots.items) (λ (slot : Slot). slot.last),
)

honest : (disk : RememberingDisk) → IsHonest (remembering_medium disk)
honest disk = IsHonest-remembered _ _

pub returns-in-Ok-open-2 : goal.returns-in-Ok-open-2
returns-in-Ok-open-2 c =
    let limits : Limits = own_limits c.args.limits.now in
    let disk = c.format.new.disk in
    let stands = c.in-Ok.ensures.ok (honest c.args.disk) in
    let opened = c.in-Ok-open.store in
    let opens = c.in-Ok-open.ensures.ok (honest disk) in
    let image = (remembering_medium disk).contents in
    let same = (StandsFor-one opened.machine.limits limits opens.found.0 _ image (contents-fit disk) opens.found.1 (stands image (honest disk).reads)).0 in
    let count : length (Restart ∷ []) ≡ opened.confirmed + opened.waiting =
    omega (arith, c.in-Ok-open.ensures.confirmed, opens.found.2.waits.count) in
    let start : Clients = no_clients opened.machine.state (Restart ∷ []) in
    let matches = subst (λ (l : Limits). StoredMatches l c.new-hub.result start) same (c.new-hub.ensures.matches (Restart ∷ []) count) in
    let after : StandsAfter (new_past limits) (remembering_medium disk) = record { honest = honest disk; stands = stands } in
    let keeps = c.an_open_finds_what_stands_there.ensures.keeps (new_past limits) disk opened after opens in
    let goes : Goes remembering_medium limits opened c.new-hub.result start [] =
    record { serving = New c.new-hub.result c.new-hub.ensures.store matches; matches = matches } in
    let seen = c.in-Some.ensures limits opened start goes in
    let ends = c.in-Some-ask.ensures limits opened seen.0 seen.1.0 seen.1.2 in
    let left = c.in-Some-crashed.left in
    let life =
    one-life-with-a-crash remembering_medium limits opened disk c.close-disk.result left c.in-Ok-open-2.store c.ask.new.hub c.in-Some.seen.items seen.1.0
    (reopened (new_past limits)) c.moment-at.result opens keeps seen.1.1 ends (c.close-disk.ensures.disk ∙ ap (λ s. s.disk) c.close.ensures.store)
    c.moment-at.ensures (honest left) c.in-Some-crashed.ensures.images (c.in-Ok-open-2.ensures.ok (honest left)) in (
      life.0,
      life.1,
      c.no_answer_is_taken_back.ensures.history (new_past limits) disk (life.0 ∷ []) c.in-Ok-open-2.store after life.2,
    )
