-- A record is read where it was written, and what is read was written so.
use Rattle.std.proofs.Common.{◌≡◌, ℕ, ◌+◌, ◌≤◌, ◌<◌, ◌^◌, List, [], ◌∷◌, ◌++◌, length, take, drop, Option, Some, None}
use Rattle.std.proofs.Common.{refl, sym, ap, ◌∙◌, append_assoc, arith}
use Rattle.std.specs.Prelude.{IfSome, slice_index}
use Rattle.std.specs.Int.{w32, w64, from_be_bytes, to_be_bytes}
use Rattle.std.proofs.lemmas.List.{length-append, length-take-le, take_at, take-append-drop}
use Rattle.std.proofs.lemmas.Nat.{from_be_bytes-to_be_bytes_8}
use Rattle.ipc_base.specs.declared.identity.Cred.{Cred}
use Rattle.ipc_wire.specs.Request.{PlainRequest}
use Rattle.ipc_wire.specs.Spelling.{HasFrame, request_bytes}
use Rattle.ipc_engine.specs.Event.{PlainEvent, Connect, Call, Interrupt, Tick, Exit, Restart, moment_of}
use Rattle.ipc_image.specs.Format.{format}
use Rattle.ipc_image.specs.Records.{kind_of, details, text_of, record_bytes, HasDetails, BeginsWith}
use Rattle.ipc_image.specs.RecordParts.{IsText, IsOf}
use Rattle.ipc_base.proofs.CallerLemmas.{Got as GotOf, bytes-drop, number32_got, number32_known, number64_got}
use Rattle.ipc_image.proofs.Numbers.{AreBelow}

-- ---- a number at the front of some bytes

-- a number of four bytes was taken from the front, or one of eight
abbrev pub Got : List ℕ → List ℕ → ℕ → Type 0
Got old new n = GotOf w32 4 old new n

abbrev pub GotLong : List ℕ → List ℕ → ℕ → Type 0
GotLong old new n = GotOf w64 8 old new n

-- ---- the details of each kind

nothing : (xs : List ℕ) → length xs ≡ 0 → xs ≡ []
nothing [] is = refl
nothing (x ∷ xs) is = absurd (omega (arith, is))

pub connect_found : (moment : ℕ) (bytes one two three : List ℕ) (serial uid gid : ℕ) → AreBelow 256 bytes
    → Got bytes one serial → Got one two uid → Got two three gid
    → length three ≡ 0 → IsOf 1 moment bytes (Connect (record { uid = uid; gid = gid }) serial moment)
connect_found moment bytes one two three serial uid gid fits a b c empty =
    let first = number32_got bytes one serial fits a in
    let second = number32_got one two uid first.left b in
    let third = number32_got two three gid second.left c in
    record {
      has = (first.below, second.below, third.below);
      kind_is = refl;
      moment_is = refl;
      details_are =
          first.spelled ∙ ap (λ (x : List ℕ). to_be_bytes w32 serial ++ x) (second.spelled ∙ ap (λ (x : List ℕ). to_be_bytes w32 uid ++ x)
          (third.spelled ∙ ap (λ (x : List ℕ). to_be_bytes w32 gid ++ x) (nothing three empty)));
    }

same_connect : (cred : Cred) (uid gid serial other moment later : ℕ) → uid ≡ cred.uid → gid ≡ cred.gid → serial ≡ other → moment ≡ later
    → Connect (record { uid = uid; gid = gid }) serial moment ≡ Connect cred other later
same_connect cred uid gid serial other moment later p q r t =
    ap (λ (n : ℕ). Connect (record { uid = n; gid = gid }) serial moment) p
    ∙ ap (λ (n : ℕ). Connect (record { uid = cred.uid; gid = n }) serial moment) q
    ∙ ap (λ (n : ℕ). Connect cred n moment) r
    ∙ ap (λ (n : ℕ). Connect cred other n) t

pub connect_only : (moment : ℕ) (bytes one two three : List ℕ) (serial uid gid : ℕ) → Got bytes one serial → Got one two uid → Got two three gid
    → (e : PlainEvent) → IsOf 1 moment bytes e → Some (Connect (record { uid = uid; gid = gid }) serial moment) ≡ Some e
connect_only moment bytes one two three serial uid gid a b c (Connect cred s m) is =
    let first = number32_known s (to_be_bytes w32 cred.uid ++ to_be_bytes w32 cred.gid) bytes one serial is.has.0 is.details_are a in
    let second = number32_known cred.uid (to_be_bytes w32 cred.gid) one two uid is.has.1 first.1 b in
    let third = number32_known cred.gid [] two three gid is.has.2 second.1 c in
    ap (λ (e : PlainEvent). Some e) (same_connect cred uid gid serial s moment m second.0 third.0 first.0 is.moment_is)
connect_only moment bytes one two three serial uid gid a b c (Call pid request m) is = absurd (omega (arith, is.kind_is))
connect_only moment bytes one two three serial uid gid a b c (Interrupt pid s m) is = absurd (omega (arith, is.kind_is))
connect_only moment bytes one two three serial uid gid a b c (Tick m) is = absurd (omega (arith, is.kind_is))
connect_only moment bytes one two three serial uid gid a b c (Exit pid m) is = absurd (omega (arith, is.kind_is))
connect_only moment bytes one two three serial uid gid a b c Restart is = absurd (omega (arith, is.kind_is))

pub call_found : (moment : ℕ) (bytes rest : List ℕ) (pid : ℕ) (request : PlainRequest) → AreBelow 256 bytes → Got bytes rest pid
    → HasFrame request → rest ≡ request_bytes request → IsOf 2 moment bytes (Call pid request moment)
call_found moment bytes rest pid request fits a has is =
    let first = number32_got bytes rest pid fits a in
    record {
      has = (first.below, has);
      kind_is = refl;
      moment_is = refl;
      details_are = first.spelled ∙ ap (λ (x : List ℕ). to_be_bytes w32 pid ++ x) is;
    }

pub call_only : (moment : ℕ) (bytes rest : List ℕ) (pid : ℕ) (request : PlainRequest) → Got bytes rest pid
    → ((r : PlainRequest) → HasFrame r → rest ≡ request_bytes r → Some request ≡ Some r)
    → (e : PlainEvent) → IsOf 2 moment bytes e → Some (Call pid request moment) ≡ Some e
call_only moment bytes rest pid request a only (Call p r m) is =
    let first = number32_known p (request_bytes r) bytes rest pid is.has.0 is.details_are a in
    let same = only r is.has.1 first.1 in
    let one : request ≡ r = cc in
    ap (λ (n : ℕ). Some (Call n request moment)) first.0
    ∙ ap (λ (q : PlainRequest). Some (Call p q moment)) one ∙ ap (λ (n : ℕ). Some (Call p r n)) is.moment_is
call_only moment bytes rest pid request a only (Connect cred s m) is = absurd (omega (arith, is.kind_is))
call_only moment bytes rest pid request a only (Interrupt p s m) is = absurd (omega (arith, is.kind_is))
call_only moment bytes rest pid request a only (Tick m) is = absurd (omega (arith, is.kind_is))
call_only moment bytes rest pid request a only (Exit p m) is = absurd (omega (arith, is.kind_is))
call_only moment bytes rest pid request a only Restart is = absurd (omega (arith, is.kind_is))

pub interrupt_found : (moment : ℕ) (bytes one two : List ℕ) (pid serial : ℕ) → AreBelow 256 bytes → Got bytes one pid → Got one two serial
    → length two ≡ 0 → IsOf 3 moment bytes (Interrupt pid serial moment)
interrupt_found moment bytes one two pid serial fits a b empty =
    let first = number32_got bytes one pid fits a in
    let second = number32_got one two serial first.left b in
    record {
      has = (first.below, second.below);
      kind_is = refl;
      moment_is = refl;
      details_are =
          first.spelled ∙ ap (λ (x : List ℕ). to_be_bytes w32 pid ++ x)
          (second.spelled ∙ ap (λ (x : List ℕ). to_be_bytes w32 serial ++ x) (nothing two empty));
    }

pub interrupt_only : (moment : ℕ) (bytes one two : List ℕ) (pid serial : ℕ) → Got bytes one pid → Got one two serial
    → (e : PlainEvent) → IsOf 3 moment bytes e → Some (Interrupt pid serial moment) ≡ Some e
interrupt_only moment bytes one two pid serial a b (Interrupt p s m) is =
    let first = number32_known p (to_be_bytes w32 s) bytes one pid is.has.0 is.details_are a in
    let second = number32_known s [] one two serial is.has.1 first.1 b in
    ap (λ (n : ℕ). Some (Interrupt n serial moment)) first.0 ∙ ap (λ (n : ℕ). Some (Interrupt p n moment)) second.0
    ∙ ap (λ (n : ℕ). Some (Interrupt p s n)) is.moment_is
interrupt_only moment bytes one two pid serial a b (Connect cred s m) is = absurd (omega (arith, is.kind_is))
interrupt_only moment bytes one two pid serial a b (Call p request m) is = absurd (omega (arith, is.kind_is))
interrupt_only moment bytes one two pid serial a b (Tick m) is = absurd (omega (arith, is.kind_is))
interrupt_only moment bytes one two pid serial a b (Exit p m) is = absurd (omega (arith, is.kind_is))
interrupt_only moment bytes one two pid serial a b Restart is = absurd (omega (arith, is.kind_is))

-- ---- the kind and the moment

-- what holds of what was found, if something was
pub if_found : {X : Type 0} (o : Option X) (P Q : X → Type 0) → ((x : X) → P x → Q x) → IfSome o P → IfSome o Q
if_found None P Q more h = tt
if_found (Some x) P Q more h = more x h

-- a byte was taken from the front
abbrev pub GotByte : List ℕ → List ℕ → ℕ → Type 0
GotByte old new n = (1 ≤ length old) × (n ≡ slice_index (take 1 old) 0) × (new ≡ drop 1 old)

first_byte : (old : List ℕ) → 1 ≤ length old → old ≡ slice_index (take 1 old) 0 ∷ drop 1 old
first_byte [] some = absurd (omega (arith, some))
first_byte (x ∷ xs) some = refl

pub text_found : (text one two : List ℕ) (kind moment : ℕ) → AreBelow 256 text → GotByte text one kind → GotLong one two moment
    → (e : PlainEvent) → IsOf kind moment two e → IsText text e
text_found text one two kind moment fits a b e is =
    let number = number64_got one two moment (rw a.2 (bytes-drop 1 text fits)) b in
    let after : one ≡ to_be_bytes w64 moment ++ two = number.spelled in
    let whole : text ≡ kind ∷ to_be_bytes w64 moment ++ two =
    first_byte text a.0 ∙ ap (λ (x : List ℕ). slice_index (take 1 text) 0 ∷ x) (sym a.2 ∙ after)
    ∙ ap (λ (n : ℕ). n ∷ to_be_bytes w64 moment ++ two) (sym a.1) in
    record {
      has = record { moment = rw is.moment_is at number.below; details = is.has };
      text_is =
          whole ∙ ap (λ (n : ℕ). n ∷ to_be_bytes w64 moment ++ two) is.kind_is ∙ ap (λ (n : ℕ). kind_of e ∷ to_be_bytes w64 n ++ two) is.moment_is
          ∙ ap (λ (x : List ℕ). kind_of e ∷ to_be_bytes w64 (moment_of e) ++ x) is.details_are;
    }

pub text_only : (text one two : List ℕ) (kind moment : ℕ) → GotByte text one kind → GotLong one two moment
    → (e : PlainEvent) → IsText text e → IsOf kind moment two e
text_only text one two kind moment a b e is =
    let rest : one ≡ to_be_bytes w64 (moment_of e) ++ details e = a.2 ∙ ap (drop 1) is.text_is in
    record {
      has = is.has.details;
      kind_is = a.1 ∙ ap (λ (x : List ℕ). slice_index (take 1 x) 0) is.text_is;
      moment_is = b.1 ∙ ap (λ (x : List ℕ). from_be_bytes w64 (take 8 x)) rest ∙ from_be_bytes-to_be_bytes_8 (moment_of e) is.has.moment;
      details_are = b.2 ∙ ap (drop 8) rest;
    }

-- ---- a whole record

-- the details of an event that has a record are short
pub details_short : (e : PlainEvent) → HasDetails e → length (details e) ≤ 4 + format.request
details_short (Connect cred serial moment) has = omega arith
details_short (Call pid request moment) has = let short = has.1.short in omega (arith, short)
details_short (Interrupt pid serial moment) has = omega arith
details_short (Tick moment) has = omega arith
details_short (Exit pid moment) has = omega arith
details_short Restart has = omega arith

pub length_text : (e : PlainEvent) → length (text_of e) ≡ 9 + length (details e)
length_text e = omega arith

pub length_record : (e : PlainEvent) → length (record_bytes e) ≡ 13 + length (details e)
unfolding record_bytes
length_record e = omega arith

pub length_call : (pid : ℕ) (request : PlainRequest) (moment : ℕ) → 4 + length (request_bytes request) ≡ length (details (Call pid request moment))
length_call pid request moment = omega arith

-- the bytes are the length of the record, the record, and more
pub record Begun (bytes : List ℕ) (e : PlainEvent) : Type 0 where
  pub below : 9 + length (details e) < 2 ^ 32
  pub more : List ℕ
  pub spelled : bytes ≡ to_be_bytes w32 (9 + length (details e)) ++ (text_of e ++ more)

pub begun : (bytes : List ℕ) (e : PlainEvent) → BeginsWith bytes e → Begun bytes e
unfolding record_bytes
begun bytes e is =
    let size : ℕ = length (record_bytes e) in
    let short = details_short e is.has.details in
    record {
      below = omega (arith, short);
      more = drop size bytes;
      spelled =
          sym (take-append-drop size bytes) ∙ ap (λ (x : List ℕ). x ++ drop size bytes) is.front
          ∙ append_assoc (to_be_bytes w32 (9 + length (details e))) (text_of e) (drop size bytes);
    }

-- too few bytes for the length, or for what it counts
pub no_length : (bytes : List ℕ) → length bytes < 4 → (e : PlainEvent) → BeginsWith bytes e → ⊥
no_length bytes short e is =
    let b = begun bytes e is in
    let size = ap length b.spelled in
    omega (arith, size, short)

pub no_text : (bytes one : List ℕ) (n : ℕ) → Got bytes one n → length one < n → (e : PlainEvent) → BeginsWith bytes e → ⊥
no_text bytes one n a short e is =
    let b = begun bytes e is in
    let known = number32_known (9 + length (details e)) (text_of e ++ b.more) bytes one n b.below b.spelled a in
    omega (arith, short, known.0, ap length known.1, length-append (text_of e) b.more, length_text e)

-- the text that was cut is the event's
pub text_cut : (bytes one text : List ℕ) (n : ℕ) → Got bytes one n → text ≡ take n one → (e : PlainEvent) → BeginsWith bytes e
    → IsText text e × (n ≡ 9 + length (details e))
text_cut bytes one text n a cut e is =
    let b = begun bytes e is in
    let known = number32_known (9 + length (details e)) (text_of e ++ b.more) bytes one n b.below b.spelled a in
    let text_is : text ≡ text_of e =
    cut ∙ ap (λ (m : ℕ). take m one) known.0 ∙ ap (take (9 + length (details e))) known.1
    ∙ take_at (text_of e) b.more (9 + length (details e)) (length_text e) in
    (record { has = is.has; text_is = text_is }, known.0)

pub record_found : (bytes one text two : List ℕ) (n : ℕ) → AreBelow 256 bytes → Got bytes one n → n ≤ length one → text ≡ take n one
    → (e : PlainEvent) → IsText text e → BeginsWith bytes e × (4 + n ≡ length (record_bytes e))
unfolding record_bytes
record_found bytes one text two n fits a enough cut e is =
    let got = number32_got bytes one n fits a in
    let size : n ≡ 9 + length (details e) = sym (length-take-le n one enough) ∙ ap length (sym cut ∙ is.text_is) ∙ length_text e in
    let whole : bytes ≡ record_bytes e ++ drop n one =
    got.spelled ∙ ap (λ (x : List ℕ). to_be_bytes w32 n ++ x) (sym (take-append-drop n one))
    ∙ ap (λ (x : List ℕ). to_be_bytes w32 n ++ (x ++ drop n one)) (sym cut ∙ is.text_is)
    ∙ ap (λ (m : ℕ). to_be_bytes w32 m ++ (text_of e ++ drop n one)) size
    ∙ sym (append_assoc (to_be_bytes w32 (9 + length (details e))) (text_of e) (drop n one)) in
    let front = ap (take (length (record_bytes e))) whole ∙ take_at (record_bytes e) (drop n one) (length (record_bytes e)) refl in
    (record { has = is.has; front = front }, omega (arith, size))
