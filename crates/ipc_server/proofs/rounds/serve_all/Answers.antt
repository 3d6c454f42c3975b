use Rattle.std.proofs.Common.{◌≡◌, ◌<◌, ℕ, Some, false, ◌∙◌}
use Rattle.std.proofs.lemmas.Result.{err_from_is_err_and, on_ok_weaker, IfErr-weaker}
use Rattle.ipc_server.specs.Runs.{RunsCalls}
use Rattle.ipc_server.specs.Rounds.{EndsRound}
use Rattle.ipc_server.specs.Rows.{IsServing, KeepsClients, clients_of}
use Rattle.ipc_server.specs.Streams.{AnswersEach, HearsEach}
use Rattle.ipc_server.specs.View.{ClientView, WasRead, client_of, is_gone}
use Rattle.ipc_server.proofs.Going.{goes-both, breaks-at, breaks-later, such-goes}
use Rattle.ipc_server.proofs.Parting.{goes-answered, hangs-goes, parts-goes}
use Rattle.ipc_server.proofs.Standing.{failed-left, keeps-both, left-each, own-kept, serving-kept, serving-noted, some-kept, stands-all, stands-both}
use Rattle.ipc_server.proofs.Streaming.{streams-all}
use Rattle.ipc_server.proofs.rounds.serve_all.Given.{Over}
use Rattle.ipc_server.proofs.rounds.serve_all.Goals as goal

-- ---- up to the first answers

pub returns-in_err-take_in_all-clause-breaks : goal.returns-in_err-take_in_all-clause-breaks
returns-in_err-take_in_all-clause-breaks g c =
    let q = err_from_is_err_and c.from_residual.result c.from_residual.ensures.1 in
    rw (q.1, q.2) c.in_err-take_in_all.ensures.breaks

pub returns-in_err-take_in_all-clause-serving : goal.returns-in_err-take_in_all-clause-serving
returns-in_err-take_in_all-clause-serving g c =
    serving-kept c.args.hub.now.hub c.take_in_all.new.hub.hub c.args.clients.now c.take_in_all.new.clients
    c.take_in_all.ensures.numbers c.take_in_all.ensures.keeps

pub returns-in_err-answer_all-clause-breaks : goal.returns-in_err-answer_all-clause-breaks
returns-in_err-answer_all-clause-breaks g c =
    let q = err_from_is_err_and c.from_residual-in_err-answer_all.result c.from_residual-in_err-answer_all.ensures.1 in
    rw (q.1, q.2) (breaks-at g.D.SectorDisk.medium g.D.SectorDisk.counts c.args.moment.0 c.args.hub.now c.take_in_all.new.hub c.answer_all.new.hub _
    (such-goes g.D.SectorDisk.medium c.args.moment.0 c.args.hub.now c.take_in_all.new.hub
    (HearsEach g.S.Read.remaining c.args.clients.now c.take_in_all.new.clients) c.in_ok-take_in_all.ensures.hears) c.in_err-answer_all.ensures.refused)

pub returns-in_err-answer_all-clause-serving : goal.returns-in_err-answer_all-clause-serving
returns-in_err-answer_all-clause-serving g c =
    serving-kept c.args.hub.now.hub c.answer_all.new.hub.hub c.args.clients.now c.answer_all.new.clients
    (c.answer_all.ensures.numbers ∙ c.take_in_all.ensures.numbers)
    (keeps-both c.args.clients.now c.take_in_all.new.clients c.answer_all.new.clients c.take_in_all.ensures.keeps c.answer_all.ensures.keeps)

-- ---- those that are gone

pub returns-in_err-part_with_gone-clause-breaks : goal.returns-in_err-part_with_gone-clause-breaks
returns-in_err-part_with_gone-clause-breaks g c =
    let q = err_from_is_err_and c.from_residual-in_err-part_with_gone.result c.from_residual-in_err-part_with_gone.ensures.1 in
    let med = g.D.SectorDisk.medium in
    rw (q.1, q.2) (breaks-later med g.D.SectorDisk.counts c.args.moment.0 c.args.hub.now c.answer_all.new.hub c.part_with_gone.new.hub _
    (goes-answered med c.args.moment.0 g.met.D.SectorDisk.only_now c.args.hub.now c.take_in_all.new.hub c.answer_all.new.hub
    c.in_ok-answer_all.ensures.answers.told
    (such-goes med c.args.moment.0 c.args.hub.now c.take_in_all.new.hub (HearsEach g.S.Read.remaining c.args.clients.now c.take_in_all.new.clients)
    c.in_ok-take_in_all.ensures.hears)
    c.in_ok-answer_all.ensures.answers.answers)
    c.in_err-part_with_gone.ensures.breaks)

pub returns-in_err-part_with_gone-clause-serving : goal.returns-in_err-part_with_gone-clause-serving
returns-in_err-part_with_gone-clause-serving g c is =
    c.part_with_gone.ensures.serving
    (serving-noted c.args.hub.now.hub c.take_in_all.new.hub.hub c.answer_all.new.hub.hub
    c.args.clients.now c.take_in_all.new.clients c.answer_all.new.clients c.note_ends.new.clients
    c.take_in_all.ensures.numbers c.take_in_all.ensures.keeps c.answer_all.ensures.numbers c.answer_all.ensures.keeps c.note_ends.ensures.keeps is)

-- ---- the last answers

-- the first answers are written
written : (g : Over) (c : goal.After-answer_all-2 g) → RunsCalls g.D.SectorDisk.medium c.args.moment.0 c.args.hub.now c.answer_all.new.hub
written g c =
    goes-answered g.D.SectorDisk.medium c.args.moment.0 g.met.D.SectorDisk.only_now c.args.hub.now c.take_in_all.new.hub c.answer_all.new.hub
    c.in_ok-answer_all.ensures.answers.told
    (such-goes g.D.SectorDisk.medium c.args.moment.0 c.args.hub.now c.take_in_all.new.hub
    (HearsEach g.S.Read.remaining c.args.clients.now c.take_in_all.new.clients) c.in_ok-take_in_all.ensures.hears)
    c.in_ok-answer_all.ensures.answers.answers

-- each client keeps its connection until those that are gone are noted
kept : (g : Over) (c : goal.After-answer_all-2 g) → KeepsClients c.args.clients.now c.note_ends.new.clients
kept g c =
    keeps-both c.args.clients.now c.take_in_all.new.clients c.note_ends.new.clients c.take_in_all.ensures.keeps
    (keeps-both c.take_in_all.new.clients c.answer_all.new.clients c.note_ends.new.clients c.answer_all.ensures.keeps c.note_ends.ensures.keeps)

noted_serves : (g : Over) (c : goal.After-answer_all-2 g) → IsServing c.args.hub.now.hub c.args.clients.now
    → IsServing c.answer_all.new.hub.hub c.note_ends.new.clients
noted_serves g c =
    serving-kept c.args.hub.now.hub c.answer_all.new.hub.hub c.args.clients.now c.note_ends.new.clients
    (c.answer_all.ensures.numbers ∙ c.take_in_all.ensures.numbers) (kept g c)

parted : (g : Over) (c : goal.After-answer_all-2 g) → IsServing c.args.hub.now.hub c.args.clients.now
    → IsServing c.part_with_gone.new.hub.hub c.part_with_gone.new.clients
parted g c is = c.part_with_gone.ensures.serving (noted_serves g c is)

-- the end of the round, once the last answers are written
ends : (g : Over) (c : goal.After-answer_all-2 g)
    → AnswersEach g.D.SectorDisk.medium g.S.Write.contents c.part_with_gone.new.hub c.answer_all-2.new.hub
    c.part_with_gone.new.clients c.answer_all-2.new.clients
    → EndsRound g.D.SectorDisk.medium c.args.moment.0 c.answer_all.new.hub c.answer_all-2.new.hub
ends g c answers = record {
  parted = c.part_with_gone.new.hub;
  hung_up = c.in_ok-part_with_gone.ensures.hangs_up.acts;
  hangs_up = c.in_ok-part_with_gone.ensures.hangs_up.hangs_up;
  told = answers.told;
  answers = answers.answers;
}

pub returns-clause-goes : goal.returns-clause-goes
returns-clause-goes g c =
    let med = g.D.SectorDisk.medium in
    on_ok_weaker c.answer_all-2.result (λ answers. goes-both med c.args.moment.0 _ _ _ (written g c)
    (parts-goes med c.args.moment.0 g.met.D.SectorDisk.only_now c.answer_all.new.hub c.answer_all-2.new.hub (ends g c answers)))
    c.answer_all-2.ensures.answers

pub returns-clause-streams : goal.returns-clause-streams
returns-clause-streams g c is =
    let own = is.connected.own in
    let old = c.args.clients.now in
    let read = c.take_in_all.new.clients in
    let noted = c.note_ends.new.clients in
    on_ok_weaker c.answer_all-2.result
    (λ answers. streams-all g.D.SectorDisk.medium c.args.moment.0 g.met.D.SectorDisk.only_now g.S.Read.remaining g.S.Write.contents
    c.args.hub.now c.take_in_all.new.hub c.answer_all.new.hub c.part_with_gone.new.hub c.answer_all-2.new.hub
    old read c.answer_all.new.clients noted c.part_with_gone.new.clients c.answer_all-2.new.clients
    c.in_ok-answer_all.ensures.answers c.in_ok-part_with_gone.ensures.hangs_up answers c.in_ok-take_in_all.ensures.hears
    (c.note_ends.ensures.sockets g.S.Write.contents) (c.part_with_gone.ensures.sockets g.S.Write.contents) own
    (own-kept old read c.take_in_all.ensures.keeps own) (noted_serves g c is) (parted g c is).connected.own
    (some-kept c.part_with_gone.new.clients c.answer_all-2.new.clients c.answer_all-2.ensures.keeps))
    c.answer_all-2.ensures.answers

pub returns-clause-breaks : goal.returns-clause-breaks
returns-clause-breaks g c =
    let med = g.D.SectorDisk.medium in
    IfErr-weaker c.answer_all-2.result _ _
    (λ e. breaks-at med g.D.SectorDisk.counts c.args.moment.0 c.args.hub.now c.part_with_gone.new.hub c.answer_all-2.new.hub e
    (goes-both med c.args.moment.0 _ _ _ (written g c)
    (hangs-goes med c.args.moment.0 g.met.D.SectorDisk.only_now c.answer_all.new.hub c.part_with_gone.new.hub
    c.in_ok-part_with_gone.ensures.hangs_up.acts c.in_ok-part_with_gone.ensures.hangs_up.hangs_up)))
    c.answer_all-2.ensures.refused

last : (g : Over) (c : goal.After-answer_all-2 g) → IsServing c.args.hub.now.hub c.args.clients.now
    → IsServing c.answer_all-2.new.hub.hub c.answer_all-2.new.clients
last g c is =
    serving-kept c.part_with_gone.new.hub.hub c.answer_all-2.new.hub.hub c.part_with_gone.new.clients c.answer_all-2.new.clients
    c.answer_all-2.ensures.numbers c.answer_all-2.ensures.keeps (parted g c is)

pub returns-clause-serving : goal.returns-clause-serving
returns-clause-serving g c is = last g c is

-- each client has one of the first numbers
within : (g : Over) (c : goal.After-answer_all-2 g) → IsServing c.args.hub.now.hub c.args.clients.now → (number : ℕ) (client : ClientView)
    → client_of (clients_of c.answer_all-2.new.clients) number ≡ Some client → number < c.part_with_gone.new.clients.capacity
within g c is = rw c.answer_all-2.ensures.keeps.capacity at (last g c is).within

pub returns-clause-read : goal.returns-clause-read
returns-clause-read g c is =
    let first = clients_of c.take_in_all.new.clients in
    let seen = clients_of c.answer_all.new.clients in
    let noted = clients_of c.note_ends.new.clients in
    let left = clients_of c.part_with_gone.new.clients in
    let room : c.part_with_gone.new.clients.capacity ≡ c.take_in_all.new.clients.capacity =
    c.part_with_gone.ensures.capacity ∙ c.note_ends.ensures.keeps.capacity ∙ c.answer_all.ensures.keeps.capacity in
    on_ok_weaker c.answer_all-2.result (λ _. left-each WasRead (λ client writing read. read) c.part_with_gone.new.clients.capacity
    first left (clients_of c.answer_all-2.new.clients) (rw room c.in_ok-take_in_all.ensures.read)
    (stands-both first seen left (stands-all first seen c.answer_all.ensures.stays)
    (stands-both seen noted left c.note_ends.ensures.stands c.part_with_gone.ensures.stands))
    c.in_ok-part_with_gone.ensures.left c.answer_all-2.ensures.stays (within g c is))
    c.answer_all-2.ensures.committed

pub returns-clause-written : goal.returns-clause-written
returns-clause-written g c is =
    on_ok_weaker c.answer_all-2.result (λ each number client there. each number client ((last g c is).within number client there) there)
    (c.answer_all-2.ensures.written (parted g c is).connected.own)

pub returns-clause-failed : goal.returns-clause-failed
returns-clause-failed g c is =
    on_ok_weaker c.answer_all-2.result (λ _ number bad. failed-left c.part_with_gone.new.clients.capacity (clients_of c.note_ends.new.clients)
    (clients_of c.part_with_gone.new.clients) (clients_of c.answer_all-2.new.clients)
    (rw c.part_with_gone.ensures.capacity c.note_ends.ensures.failed) c.part_with_gone.ensures.stands
    c.in_ok-part_with_gone.ensures.left c.answer_all-2.ensures.stays (within g c is) number ((kept g c).failed number bad))
    c.answer_all-2.ensures.committed

pub returns-clause-parted : goal.returns-clause-parted
returns-clause-parted g c is =
    on_ok_weaker c.answer_all-2.result (λ answers. (
      c.answer_all.new.hub,
      written g c,
      ends g c answers,
      left-each (λ v. is_gone c.answer_all.new.hub.hub v ≡ false) (λ client writing on. on) c.part_with_gone.new.clients.capacity
          (clients_of c.note_ends.new.clients) (clients_of c.part_with_gone.new.clients) (clients_of c.answer_all-2.new.clients)
          (rw c.part_with_gone.ensures.capacity c.note_ends.ensures.gone) c.part_with_gone.ensures.stands
          c.in_ok-part_with_gone.ensures.left c.answer_all-2.ensures.stays (within g c is),
    ))
    c.answer_all-2.ensures.answers
