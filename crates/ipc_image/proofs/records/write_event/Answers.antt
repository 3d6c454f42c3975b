use Rattle.std.proofs.Common.{◌≡◌, ◌+◌, ◌≤◌, ◌++◌, ◌∙◌, List, [], ◌∷◌, ℕ, length, take, drop, ap, arith}
use Rattle.std.specs.Int.{w32, w64, to_be_bytes}
use Rattle.ipc_base.proofs.CallerLemmas.{puts_room, puts_both, puts_more}
use Rattle.ipc_engine.specs.Event.{PlainEvent}
use Rattle.ipc_engine.specs.View.{plain_event}
use Rattle.ipc_image.specs.Records.{kind_of, details, record_bytes}
use Rattle.ipc_image.proofs.EventRecords.{length_record}
use Rattle.ipc_image.proofs.records.write_event.Goals as goal

pub returns-clause-written : goal.returns-clause-written
unfolding record_bytes
returns-clause-written c =
    let e : PlainEvent = plain_event c.args.event.now in
    let at : ℕ = c.new-put.result in
    let old : List ℕ = c.args.out.now in
    let start : at ≡ 0 = c.new-put.ensures in
    let size : c.in-Ok.length ≡ 9 + length (details e) = omega (arith, c.in-Ok.ensures, c.record_len-whole.ensures.exact, length_record e) in
    let room : 13 + length (details e) ≤ length old = omega (arith, c.if-whole-out.false, c.record_len-whole.ensures.exact, length_record e) in
    let number : List ℕ = to_be_bytes w32 c.in-Ok.length in
    let kind : List ℕ = c.kind_of.result ∷ [] in
    let moment : List ℕ = to_be_bytes w64 c.moment.result.0 in
    let a = puts_room number at c.u32.new.self old c.u32.new.buffer c.u32.result c.u32.ensures (omega (arith, start, room)) in
    let b = puts_more number kind at c.u32.new.self c.u8.new.self old c.u32.new.buffer c.u8.new.buffer c.u8.result a
    c.u8.ensures (omega (arith, start, room)) in
    let m = puts_more (number ++ kind) moment at c.u8.new.self c.u64.new.self old c.u8.new.buffer c.u64.new.buffer c.u64.result b
    c.u64.ensures (omega (arith, start, room)) in
    let all : List ℕ = (number ++ kind) ++ moment in
    let d = puts_both all (details e) at c.u64.new.self c.put_details.new.put old c.u64.new.buffer c.put_details.new.out m c.put_details.ensures.bytes in
    let bytes : all ++ details e ≡ record_bytes e =
    ap (λ (n : ℕ). to_be_bytes w32 n ++ c.kind_of.result ∷ moment ++ details e) size
    ∙ ap (λ (n : ℕ). to_be_bytes w32 (9 + length (details e)) ++ n ∷ moment ++ details e) c.kind_of.ensures
    ∙ ap (λ (n : ℕ). to_be_bytes w32 (9 + length (details e)) ++ kind_of e ∷ to_be_bytes w64 n ++ details e) c.moment.ensures in
    let whole : 0 + length (record_bytes e) ≡ length (record_bytes e) = omega arith in
    d.2 ∙ ap (λ (n : ℕ). take n old ++ (all ++ details e) ++ drop (n + length (all ++ details e)) old) start
    ∙ ap (λ (x : List ℕ). x ++ drop (0 + length x) old) bytes
    ∙ ap (λ (n : ℕ). record_bytes e ++ drop n old) whole
