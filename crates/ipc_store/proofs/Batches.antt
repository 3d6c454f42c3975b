-- The bytes of a batch in its buffer.
use Rattle.std.proofs.Common.{◌≡◌, ◌≤◌, ◌<◌, ◌+◌, ◌-◌, ◌^◌, ◌++◌, ℕ, List, ◌∷◌, length, take, drop, sym, ap, ◌∙◌, arith}
use Rattle.std.proofs.lemmas.List.{take-append-drop, take-take, length-take, length-drop, length-append, take_at, drop_at, append_assoc, drop-append-le}
use Rattle.byteorder.specs.Endian.{big_bytes}
use Rattle.std.specs.Int.{w32, w64, to_be_bytes}
use Rattle.ipc_wire.specs.Spelling.{opcode_of, fields_of, request_bytes}
use Rattle.ipc_engine.specs.Event.{PlainEvent, Connect, Call, Interrupt, Tick, Exit, Restart, moment_of}
use Rattle.ipc_image.specs.Format.{longest_record}
use Rattle.ipc_image.specs.Records.{record_bytes, details, text_of, HasDetails, HasRecord}
use Rattle.ipc_store.specs.Batch.{tick_record}
use Rattle.ipc_store.specs.Relations.Batch.{IsFilled}

-- what means something in the buffer are the length and the records
pub filled-length : (bytes : List ℕ) (len count : ℕ) → IsFilled bytes len count → 4 + length (drop 4 (take len bytes)) ≡ len
filled-length bytes len count filled =
    omega (arith, filled.size, filled.within, filled.least, length-take len bytes, length-drop 4 (take len bytes))

-- they are the bytes of the batch
pub filled-bytes : (bytes : List ℕ) (len count : ℕ) → IsFilled bytes len count
    → take len bytes ≡ big_bytes 4 (length (drop 4 (take len bytes))) ++ drop 4 (take len bytes)
filled-bytes bytes len count filled =
    let records : List ℕ = drop 4 (take len bytes) in
    let count_is : len - 4 ≡ length records = omega (arith, filled-length bytes len count filled) in
    let front : take 4 (take len bytes) ≡ big_bytes 4 (length records) =
    take-take 4 len bytes (omega (arith, filled.least)) ∙ filled.field ∙ ap (big_bytes 4) count_is in
    sym (take-append-drop 4 (take len bytes)) ∙ ap (λ (x : List ℕ). x ++ records) front

-- a buffer that was lent whole
pub lent : (n : ℕ) (new old : List ℕ) → length new ≡ n → take n (new ++ drop (length new) old) ≡ new
lent n new old is = take_at new (drop (length new) old) n is

-- a record put after a batch, and the new length before it
pub put_behind : (old front new rec rest : List ℕ) (len : ℕ) → 4 ≤ len → len ≤ length old → length front ≡ 4
    → new ≡ front ++ drop 4 (take len old ++ (rec ++ rest))
    → new ≡ (front ++ (drop 4 (take len old) ++ rec)) ++ rest
put_behind old front new rec rest len least within four is =
    let longer : 4 ≤ length (take len old) = omega (arith, length-take len old, least, within) in
    is ∙ ap (λ (x : List ℕ). front ++ x) (drop-append-le 4 (take len old) (rec ++ rest) longer)
    ∙ ap (λ (x : List ℕ). front ++ x) (sym (append_assoc (drop 4 (take len old)) rec rest))
    ∙ sym (append_assoc front (drop 4 (take len old) ++ rec) rest)

-- the records are those of before, and the new one
pub records_behind : (old front new rec rest : List ℕ) (len : ℕ) → 4 ≤ len → len ≤ length old → length front ≡ 4
    → new ≡ front ++ drop 4 (take len old ++ (rec ++ rest))
    → drop 4 (take (len + length rec) new) ≡ drop 4 (take len old) ++ rec
records_behind old front new rec rest len least within four is =
    let all : List ℕ = front ++ (drop 4 (take len old) ++ rec) in
    let size : length all ≡ len + length rec =
    omega (
      arith,
      four,
      length-append front (drop 4 (take len old) ++ rec),
      length-append (drop 4 (take len old)) rec,
      length-drop 4 (take len old),
      length-take len old,
      least,
      within,
    ) in
    ap (λ (x : List ℕ). drop 4 (take (len + length rec) x)) (put_behind old front new rec rest len least within four is)
    ∙ ap (drop 4) (take_at all rest (len + length rec) size) ∙ drop_at front (drop 4 (take len old) ++ rec) 4 four

-- a record has its length, its kind, its moment and its details
pub record-length : (e : PlainEvent) → length (record_bytes e) ≡ tick_record + length (details e)
unfolding record_bytes
record-length e = omega (arith, length-append (to_be_bytes w32 (9 + length (details e))) (text_of e), length-append (to_be_bytes w64 (moment_of e)) (details e))

-- the details of a call are the longest: a pid, a serial, an opcode and its fields
details-most : (e : PlainEvent) → HasDetails e → tick_record + length (details e) ≤ longest_record
details-most (Connect cred serial moment) has =
    omega (
      arith,
      length-append (to_be_bytes w32 serial) (to_be_bytes w32 cred.uid ++ to_be_bytes w32 cred.gid),
      length-append (to_be_bytes w32 cred.uid) (to_be_bytes w32 cred.gid),
    )
details-most (Call pid request moment) has =
    omega (
      arith,
      length-append (to_be_bytes w32 pid) (request_bytes request),
      length-append (to_be_bytes w32 request.serial) (opcode_of request.kind ∷ fields_of request.kind),
      has.1.short,
    )
details-most (Interrupt pid serial moment) has = omega (arith, length-append (to_be_bytes w32 pid) (to_be_bytes w32 serial))
details-most (Tick moment) has = omega arith
details-most (Exit pid moment) has = omega arith
details-most Restart has = omega arith

pub record-most : (e : PlainEvent) → HasRecord e → length (record_bytes e) ≤ longest_record
record-most e has = omega (arith, record-length e, details-most e has.details)

-- a record goes into the bytes from a place on, if there are as many as it has
pub record-goes : (e : PlainEvent) (bytes : List ℕ) (len : ℕ) → len + length (record_bytes e) ≤ length bytes → length (record_bytes e) ≤ longest_record
    → (length (record_bytes e) ≤ length (take (length bytes - len) (drop len bytes))) × (9 + length (details e) < 2 ^ 32)
record-goes e bytes len room most = (
  omega (arith, room, length-take (length bytes - len) (drop len bytes), length-drop len bytes),
  omega (arith, record-length e, most),
)
