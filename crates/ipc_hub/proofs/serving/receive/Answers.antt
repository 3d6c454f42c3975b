use Rattle.std.proofs.Common.{◌≡◌, ◌≤◌, ℕ, List, [], ◌++◌, take, length, true, false, Option, Some, sym, ap, ◌∙◌, subst, arith, rules}
use Rattle.std.proofs.lemmas.Bool.{eqb-true}
use Rattle.std.proofs.lemmas.List.{length-take-le}
use Rattle.std.specs.Prelude.{nat_eq}
use Rattle.std.specs.Option.{option_copied, option_copied_mut}
use Rattle.std.specs.Borrow.{MutBor}
use Rattle.ipc_base.specs.Table.{value_at, with_value, keys_of}
use Rattle.ipc_base.proofs.CallerLemmas.{each-at, keys_of-with_value}
use Rattle.ipc_disk.specs.Medium.{Medium}
use Rattle.ipc_wire.specs.Request.{PlainRequest}
use Rattle.ipc_wire.specs.Stream.{PlainFrame, first}
use Rattle.ipc_wire.specs.Stream.PlainFrame.{More, Whole, Fault}
use Rattle.ipc_wire.specs.View.{plain_request}
use Rattle.ipc_wire.proofs.CallerLemmas.{whole_alone, whole_last}
use Rattle.ipc_store.specs.View.{StoreView}
use Rattle.ipc_hub.specs.View.{ConnectionView}
use Rattle.ipc_hub.specs.Relations.Delivery.{owed_to}
use Rattle.ipc_hub.specs.Relations.Invariant.{IsSoundConnection, IsSoundIn, IsConnected}
use Rattle.ipc_hub.specs.Relations.Requests.{ComesTo, HasRoom, Received, taken_off}
use Rattle.ipc_hub.specs.declared.serving.FrameOutcome.{FrameOutcome}
use Rattle.ipc_hub.specs.declared.serving.FrameOutcome.TheVariants as asks
use Rattle.ipc_hub.specs.Relations.Rows.{Table, hub_view, stored_view, is_open_in}
use Rattle.ipc_hub.proofs.Rows.{same_value, same-value, process_of}
use Rattle.ipc_hub.proofs.Keeping.{change-invariant, connected-in, live-at}
use Rattle.ipc_hub.proofs.Receiving.{none-of, still-kept}
use Rattle.ipc_hub.proofs.serving.receive.Goals as goal

-- how many bytes a frame takes
abbrev used_of : PlainFrame → ℕ
used_of More = 0
used_of (Whole used request) = used
used_of (Fault serial) = 0

-- the session that was lent is that of the number
lent : (r : Option (MutBor ConnectionView)) (b : MutBor ConnectionView) (table : Table) (conn : ℕ) → r ≡ Some b
    → option_copied_mut r ≡ value_at nat_eq table conn → value_at nat_eq table conn ≡ Some b.now
lent r b table conn is found = sym (ap option_copied_mut (sym is) ∙ found)

pub fill-count-requires : goal.fill-count-requires
fill-count-requires g c =
    let before = c.args.connections.now in
    let b = c.unwrap-session-2.result in
    (each-at (IsSoundIn (hub_view c.args.store.now.machine before)) before c.args.conn b.now c.requires.room.ready.invariant.each
    (lent c.get_mut.result b before c.args.conn c.unwrap-session-2.ensures c.get_mut.ensures.found)).input

pub submit-requires-clause-connected : goal.submit-requires-clause-connected
submit-requires-clause-connected g c =
    let before = c.args.connections.now in
    let found : value_at nat_eq before c.args.conn ≡ Some c.unwrap-session.result.now = sym c.get.ensures ∙ ap option_copied c.unwrap-session.ensures in
    subst (IsConnected c.args.store.now.machine.state) (ap process_of found ∙ sym c.process.ensures)
    (connected-in (hub_view c.args.store.now.machine before) c.args.conn c.requires.room.ready.invariant)

pub ask-asked-requires-clause-connected : goal.ask-asked-requires-clause-connected
ask-asked-requires-clause-connected g c =
    let before = c.args.connections.now in
    let b = c.unwrap-session-2.result in
    subst (IsConnected c.args.store.now.machine.state)
    (ap process_of (lent c.get_mut.result b before c.args.conn c.unwrap-session-2.ensures c.get_mut.ensures.found)
    ∙ ap (λ (v : ConnectionView). v.process) (sym c.fill-count.ensures.view))
    (connected-in (hub_view c.args.store.now.machine before) c.args.conn c.requires.room.ready.invariant)

-- what the connection that goes on keeps
kept : {D : Type 0} (old : StoreView D) (before : Table) (conn : ℕ) (was : ConnectionView) → HasRoom (stored_view old before) conn
    → value_at nat_eq before conn ≡ Some was → IsSoundConnection old.machine.limits (owed_to old.machine.limits old.machine.state) was
kept old before conn was room found = each-at (IsSoundIn (hub_view old.machine before)) before conn was room.ready.invariant.each found

-- what a connection has received, by what came of it and how it stands in the table then
received : {D : Type 0} (medium : D → Medium) (old new : StoreView D) (before after : Table) (conn : ℕ) (was : ConnectionView) (bytes : List ℕ)
    (moment : ℕ) (asked : FrameOutcome) → HasRoom (stored_view old before) conn → is_open_in before conn ≡ true → value_at nat_eq before conn ≡ Some was
    → ComesTo medium old new was.process (first (was.input ++ bytes)) moment asked
    → ((used : ℕ) (request : PlainRequest) → first (was.input ++ bytes) ≡ Whole used request → used ≡ length (was.input ++ bytes))
    → after ≡ with_value nat_eq before conn (taken_off asked (record was { input = was.input ++ bytes }))
    → Received medium old new before after conn bytes moment asked
received medium old new before after conn was bytes moment asked room goes_on found came last table =
    let known = live-at before conn goes_on in
    let live : was.ended ≡ false = ap (λ (v : ConnectionView). v.ended) (same_value was known.0 (sym found ∙ known.1.0)) ∙ known.1.1 in
    let sound = kept old before conn was room found in
    let now : ConnectionView = taken_off asked (record was { input = was.input ++ bytes }) in
    let still = still-kept medium old new old.machine.limits (owed_to old.machine.limits old.machine.state) was (was.input ++ bytes) moment asked sound came in
    record {
      passed = room.passed;
      sound = room.sound;
      was = was;
      found = found;
      live = live;
      space = (rw found at room.space) live;
      partial = sound.input;
      last = last;
      comes = came;
      table = table;
      numbers = ap keys_of table ∙ keys_of-with_value nat_eq before conn now;
      still = rw table (change-invariant (hub_view old.machine before) conn was now room.ready.invariant found (λ pid mine. sym still.1 ∙ mine) still.0);
    }

-- a whole frame was served from the piece, of a connection that kept no bytes: it is as it was
off-piece : {D : Type 0} (medium : D → Medium) (old new : StoreView D) (was : ConnectionView) (used : ℕ) (request : PlainRequest) (moment : ℕ)
    (asked : FrameOutcome) (bytes : List ℕ) → was.input ≡ [] → ComesTo medium old new was.process (Whole used request) moment asked
    → was ≡ taken_off asked (record was { input = bytes })
off-piece medium old new was used request moment asks.More bytes none comes = absurd (let more = comes.0 in cc)
off-piece medium old new was used request moment asks.Served bytes none comes = ap (λ (l : List ℕ). record was { input = l }) none
off-piece medium old new was used request moment (asks.NoMemory n) bytes none comes = ap (λ (l : List ℕ). record was { input = l }) none
off-piece medium old new was used request moment (asks.Broken n) bytes none comes = ap (λ (l : List ℕ). record was { input = l }) none

pub returns-in-Whole-clause-received : goal.returns-in-Whole-clause-received
returns-in-Whole-clause-received g c =
    let old = c.args.store.now in
    let before = c.args.connections.now in
    let was : ConnectionView = c.unwrap-session.result.now in
    let piece : List ℕ = c.args.piece.now in
    let used : ℕ = c.in-Whole.used in
    let request : PlainRequest = plain_request c.in-Whole.request in
    let found : value_at nat_eq before c.args.conn ≡ Some was = sym c.get.ensures ∙ ap option_copied c.unwrap-session.ensures in
    let none : was.input ≡ [] = none-of was.input (ap length (sym c.input.ensures) ∙ eqb-true _ _ (sym c.is_empty.ensures ∙ c.if-is_empty.true)) in
    let front : first piece ≡ Whole used request = search rules in
    let alone : first (take used piece) ≡ Whole used request = whole_alone piece used request (λ i. omega (arith, c.type_inv.piece i)) front in
    let within : used ≤ length piece = search rules in
    let bytes : was.input ++ take used piece ≡ take used piece = ap (λ (l : List ℕ). l ++ take used piece) none in
    let whole : first (was.input ++ take used piece) ≡ Whole used request = ap first bytes ∙ alone in
    let said : ComesTo g.D.SectorDisk.medium old c.submit.new.store was.process (Whole used request) c.args.moment.0 c.submit.result =
    rw c.process.ensures at c.submit.ensures used in
    received g.D.SectorDisk.medium old c.submit.new.store before before c.args.conn was (take used piece) c.args.moment.0 c.submit.result
    c.requires.room c.requires.live found
    (subst (λ (f : PlainFrame). ComesTo g.D.SectorDisk.medium old c.submit.new.store was.process f c.args.moment.0 c.submit.result) (sym whole) said)
    (λ n r at. let same : Whole n r ≡ Whole used request = sym at ∙ whole in
    omega (arith, ap used_of same, ap length bytes, length-take-le used piece within))
    (sym (same-value before c.args.conn was found) ∙ ap (with_value nat_eq before c.args.conn)
    (off-piece g.D.SectorDisk.medium old c.submit.new.store was used request c.args.moment.0 c.submit.result (was.input ++ take used piece) none said))

pub returns-clause-received : goal.returns-clause-received
returns-clause-received g c =
    let old = c.args.store.now in
    let before = c.args.connections.now in
    let was : ConnectionView = c.unwrap-session-2.result.now in
    let found = lent c.get_mut.result c.unwrap-session-2.result before c.args.conn c.unwrap-session-2.ensures c.get_mut.ensures.found in
    let next : List ℕ = take c.fill-count.result c.args.piece.now in
    let filled = c.fill-count.ensures in
    let asked = c.ask-asked.ensures in
    let came : ComesTo g.D.SectorDisk.medium old c.ask-asked.new.store was.process (first (was.input ++ next)) c.args.moment.0 c.ask-asked.result =
    subst (λ (w : ConnectionView). ComesTo g.D.SectorDisk.medium old c.ask-asked.new.store w.process (first w.input) c.args.moment.0 c.ask-asked.result)
    filled.view asked.comes in
    let partial = (kept old before c.args.conn was c.requires.room found).input in
    received g.D.SectorDisk.medium old c.ask-asked.new.store before _ c.args.conn was next c.args.moment.0 c.ask-asked.result
    c.requires.room c.requires.live found came (λ used request at. whole_last was.input next used request partial filled.few at)
    (rw found at c.get_mut.follows.holds c.ask-asked.new.session
    ∙ ap (with_value nat_eq before c.args.conn) (asked.view ∙ ap (taken_off c.ask-asked.result) filled.view))
