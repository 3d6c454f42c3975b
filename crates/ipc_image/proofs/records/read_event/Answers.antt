use Rattle.std.proofs.Common.{◌≡◌, ◌<◌, ◌+◌, ◌∙◌, ℕ, Option, Some, length, ap, arith}
use Rattle.ipc_engine.specs.Event.{PlainEvent}
use Rattle.ipc_engine.specs.View.{plain_event}
use Rattle.ipc_image.specs.Records.{record_bytes}
use Rattle.ipc_image.proofs.Numbers.{AreBelow}
use Rattle.ipc_image.proofs.EventRecords.{Got, no_length, no_text, text_cut, record_found, length_record}
use Rattle.ipc_image.proofs.records.read_event.Goals as goal

found_pair : (n m : ℕ) (e f : PlainEvent) → n ≡ m → e ≡ f → ◌≡◌ {A = Option (ℕ × PlainEvent)} (Some (n, e)) (Some (m, f))
found_pair n m e f size same =
    ap (λ (k : ℕ). let found : Option (ℕ × PlainEvent) = Some (k, e) in found) size
    ∙ ap (λ (g : PlainEvent). let found : Option (ℕ × PlainEvent) = Some (m, g) in found) same

pub returns-in_err-length-clause-only : goal.returns-in_err-length-clause-only
returns-in_err-length-clause-only c e is =
    let short : length c.args.bytes.now < 4 = (rw c.new-cursor.ensures at c.in_err-length.ensures).0 in
    absurd (no_length c.args.bytes.now short e is)

pub returns-in_err-text-clause-only : goal.returns-in_err-text-clause-only
returns-in_err-text-clause-only c e is =
    let first : Got c.args.bytes.now c.u32.new.self c.in_ok-length.field-0 = rw c.new-cursor.ensures at c.in_ok-length.ensures in
    absurd (no_text c.args.bytes.now c.u32.new.self c.in_ok-length.field-0 first c.in_err-text.ensures.0 e is)

pub returns-in_err-event-clause-only : goal.returns-in_err-event-clause-only
returns-in_err-event-clause-only c e is =
    let first : Got c.args.bytes.now c.u32.new.self c.in_ok-length.field-0 = rw c.new-cursor.ensures at c.in_ok-length.ensures in
    let cut = text_cut c.args.bytes.now c.u32.new.self c.in_ok-text.text.now c.in_ok-length.field-0 first c.in_ok-text.ensures.1 e is in
    let none = c.in_err-event.ensures.only e cut.0 in
    absurd cc

pub returns-clause-some : goal.returns-clause-some
returns-clause-some c =
    let fits : AreBelow 256 c.args.bytes.now = λ i. omega (arith, c.type_inv.bytes i) in
    let first : Got c.args.bytes.now c.u32.new.self c.in_ok-length.field-0 = rw c.new-cursor.ensures at c.in_ok-length.ensures in
    record_found c.args.bytes.now c.u32.new.self c.in_ok-text.text.now c.bytes.new.self c.in_ok-length.field-0 fits first
    c.in_ok-text.ensures.0 c.in_ok-text.ensures.1 (plain_event c.in_ok-event.event) c.in_ok-event.ensures.some

pub returns-clause-only : goal.returns-clause-only
returns-clause-only c e is =
    let n : ℕ = c.in_ok-length.field-0 in
    let first : Got c.args.bytes.now c.u32.new.self n = rw c.new-cursor.ensures at c.in_ok-length.ensures in
    let cut = text_cut c.args.bytes.now c.u32.new.self c.in_ok-text.text.now n first c.in_ok-text.ensures.1 e is in
    let found = c.in_ok-event.ensures.only e cut.0 in
    let same : plain_event c.in_ok-event.event ≡ e = cc in
    let size : 4 + n ≡ length (record_bytes e) = omega (arith, cut.1, length_record e) in
    found_pair (4 + n) (length (record_bytes e)) (plain_event c.in_ok-event.event) e size same
