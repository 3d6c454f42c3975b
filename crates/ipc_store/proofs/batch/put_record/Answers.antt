use Rattle.std.proofs.Common.{◌≤◌, ◌++◌, ◌+◌, ◌-◌, length, take, drop, List, ℕ, ap, ◌∙◌, refl, arith}
use Rattle.byteorder.specs.Endian.{big_bytes}
use Rattle.ipc_engine.specs.View.{plain_event}
use Rattle.std.proofs.lemmas.Bool.{OnTrue_at}
use Rattle.std.proofs.lemmas.List.{append_assoc}
use Rattle.ipc_image.specs.Format.{longest_record}
use Rattle.ipc_image.specs.Records.{record_bytes}
use Rattle.ipc_store.proofs.Batches.{records_behind, record-length, record-goes}
use Rattle.ipc_store.proofs.batch.put_record.Goals as goal

pub returns-clause-least : goal.returns-clause-least
returns-clause-least c = omega (arith, record-length (plain_event c.args.event.now), c.record_len.ensures.exact)

pub returns-clause-most : goal.returns-clause-most
returns-clause-most c = omega (arith, c.requires.room, c.record_len.ensures.exact)

pub returns-clause-record : goal.returns-clause-record
returns-clause-record c =
    let most : length (record_bytes (plain_event c.args.event.now)) ≤ longest_record =
    omega (arith, c.record_len.ensures.exact, c.record_len.ensures.bounded) in
    let goes = record-goes (plain_event c.args.event.now) c.args.bytes.now c.args.len (omega (arith, c.requires.size, c.requires.room)) most in
    OnTrue_at (c.write_event.ensures.fits.1 goes) c.write_event.ensures.has

pub returns-clause-records : goal.returns-clause-records
returns-clause-records c =
    let rec : List ℕ = record_bytes (plain_event c.args.event.now) in
    let part : List ℕ = take (length c.args.bytes.now - c.args.len) (drop c.args.len c.args.bytes.now) in
    let post : List ℕ = drop (length c.args.bytes.now - c.args.len) (drop c.args.len c.args.bytes.now) in
    let most : length rec ≤ longest_record = omega (arith, c.record_len.ensures.exact, c.record_len.ensures.bounded) in
    let goes = record-goes (plain_event c.args.event.now) c.args.bytes.now c.args.len (omega (arith, c.requires.size, c.requires.room)) most in
    let written = OnTrue_at (c.write_event.ensures.fits.1 goes) c.write_event.ensures.written in
    rw c.record_len.ensures.exact
    (records_behind c.args.bytes.now (big_bytes 4 (c.args.len + c.record_len.result - 4)) c.write_u32.new.buf rec
    (drop (length rec) part ++ post) c.args.len c.requires.least (omega (arith, c.requires.size, c.requires.room)) refl
    (c.write_u32.ensures ∙ ap (λ (x : List ℕ). big_bytes 4 (c.args.len + c.record_len.result - 4) ++ drop 4 (take c.args.len c.args.bytes.now ++ x))
    (ap (λ (x : List ℕ). x ++ post) written ∙ append_assoc rec (drop (length rec) part) post)))
