-- POSIX queues as objects: how many bytes each has, and that each of its numbers has its place.
use Rattle.std.proofs.Common.{◌≡◌, ◌<◌, ◌≤◌, ◌+◌, ◌*◌, ◌^◌, ℕ, Bool, true, false, List, [], ◌∷◌, ◌++◌, get_or, length, Option, Some, None}
use Rattle.std.proofs.Common.{refl, sym, ap, subst, ◌∙◌, arith}
use Rattle.std.specs.Prelude.{All, Ok, Err, nat_lt, ◌||◌, if◌then◌else◌}
use Rattle.std.specs.List.{flat_map}
use Rattle.std.specs.Result.{is_ok}
use Rattle.std.proofs.lemmas.Bool.{and_parts}
use Rattle.std.proofs.lemmas.Bool.Decides.{nat_tests}
use Rattle.std.proofs.lemmas.List.{append_assoc, length-append}
use Rattle.std.proofs.lemmas.List.Elements.{All-weaker}
use Rattle.std.proofs.lemmas.Nat.{mul-le}
use Rattle.ipc_base.specs.declared.errno.Errno.{Errno}
use Rattle.ipc_base.specs.declared.errno.Errno.TheVariants.{ENAMETOOLONG}
use Rattle.ipc_base.specs.declared.field.Size.TheVariants.{Four}
use Rattle.ipc_limits.specs.declared.limits.Limits.{Limits}
use Rattle.ipc_limits.specs.Limits.{ArePassed}
use Rattle.ipc_base.specs.Numbers.{fields_bytes, FitFields}
use Rattle.ipc_base.proofs.CallerLemmas.{fields_one, numbers_are}
use Rattle.ipc_limits.proofs.CallerLemmas.{passed-bounds}
use Rattle.ipc_keys.specs.declared.check.NameKind.{NameKind}
use Rattle.ipc_keys.specs.declared.check.NameKind.TheVariants as names
use Rattle.ipc_keys.specs.Names.{check_name, fault, is_none, most_bytes, unless}
use Rattle.posix_mq.specs.Queue.{PlainMessage as MqMessage}
use Rattle.posix_mq.specs.declared.queue.Registration.{Registration}
use Rattle.ipc_state.specs.Named.{NamedEntry, is_own}
use Rattle.posix_mq.specs.Queue.{Queue as Mq}
use Rattle.ipc_state.specs.Named.{is_named_so}
use Rattle.ipc_state.specs.Sound.{IsSoundMq, IsSoundMqMessage}
use Rattle.ipc_image.specs.Saved.{registration_numbers, mq_sizes, mq_numbers, mq_message_bytes, mq_bytes, FitsMqMessage, FitsMq}
use Rattle.ipc_image.specs.SavedParts.{own_perm, IsSmallMq}
use Rattle.ipc_image.specs.Relations.Mqs.{count_after}
use Rattle.ipc_image.specs.Relations.Named.{own-own}
use Rattle.ipc_image.specs.Relations.Shapes.{text_one}
use Rattle.ipc_image.proofs.Marks.{length-most}

-- ---- how many bytes

registration-long : (r : Option Registration) (n m : ℕ)
    → length (fields_bytes (Four ∷ Four ∷ Four ∷ Four ∷ Four ∷ Four ∷ []) (registration_numbers r ++ n ∷ m ∷ [])) ≡ 24
registration-long None n m = refl
registration-long (Some r) n m = refl

pub mq-long : (e : NamedEntry Mq) → length (mq_bytes e) ≡ 44 + length e.bound + length (flat_map mq_message_bytes e.object.messages)
mq-long e =
    let numbers : List ℕ = fields_bytes mq_sizes (mq_numbers e) in
    omega (
      arith,
      length-append (numbers ++ e.bound) (flat_map mq_message_bytes e.object.messages),
      length-append numbers e.bound,
      registration-long e.object.registration (length e.object.messages) (length e.bound),
    )

-- a name that an object may have is short
too-long : (f : Option Errno) (long : Bool) → long ≡ true → is_ok (unless f (if long then Err ENAMETOOLONG else Ok tt)) ≡ false
too-long None long is = rw is refl
too-long (Some e) long is = refl

pub formed-parts : {X : Type 0} (kind : NameKind) (e : ℕ × NamedEntry X) → is_named_so kind e ≡ true
    → ((is_none e.1.bound || is_ok (check_name kind e.1.bound)) ≡ true) × (is_own e.1.perm ≡ true)
formed-parts kind e formed = and_parts (is_none e.1.bound || is_ok (check_name kind e.1.bound)) (is_own e.1.perm) formed

pub name-short : {X : Type 0} (kind : NameKind) (e : ℕ × NamedEntry X) → is_named_so kind e ≡ true → length e.1.bound ≤ most_bytes kind
name-short {X} kind e formed = by_name e.1.bound (formed-parts kind e formed).0
  where
    by_name : (name : List ℕ) → is_none name || is_ok (check_name kind name) ≡ true → length name ≤ most_bytes kind
    by_name [] formed = omega arith
    by_name (b ∷ name) formed = by_length (nat_lt (most_bytes kind) (length (b ∷ name))) refl
      where
        by_length : (long : Bool) → nat_lt (most_bytes kind) (length (b ∷ name)) ≡ long → length (b ∷ name) ≤ most_bytes kind
        by_length true is = let refused = too-long (fault kind (b ∷ name)) (nat_lt (most_bytes kind) (length (b ∷ name))) is in cc
        by_length false is = grind (arith, nat_tests)

module _ (limits : Limits) (n : ℕ) (e : NamedEntry Mq) (sound : IsSoundMq limits e.object) (formed : is_named_so names.Mq (n, e) ≡ true) where
  -- by what it may hold, and by what any may
  pub mq-own : length (mq_bytes e) ≤ 299 + e.object.maxmsg * (8 + e.object.msgsize)
  mq-own =
      let q : Mq = e.object in
      let each : All (λ m. length (mq_message_bytes m) ≤ 8 + q.msgsize) q.messages =
      All-weaker (IsSoundMqMessage q.msgsize) (λ m. length (mq_message_bytes m) ≤ 8 + q.msgsize) (λ m good. omega (arith, good.short)) q.messages
      sound.messages in
      omega (
        arith,
        mq-long e,
        name-short names.Mq (n, e) formed,
        length-most mq_message_bytes (8 + q.msgsize) q.messages each,
        mul-le (length q.messages) (8 + q.msgsize) q.maxmsg (8 + q.msgsize) sound.count (omega arith),
      )

  pub mq-short : length (mq_bytes e) ≤ 299 + limits.maxmsg * (8 + limits.msgsize)
  mq-short =
      omega (
        arith,
        mq-own,
        mul-le e.object.maxmsg (8 + e.object.msgsize) limits.maxmsg (8 + limits.msgsize) sound.maxmsg.1 (omega (arith, sound.msgsize.1)),
      )

pub mq-small : (limits : Limits) → ArePassed limits → (q : Mq) → IsSoundMq limits q → IsSmallMq q
mq-small limits passed q sound =
    let b = passed-bounds limits passed in
    record {
      count = omega (arith, sound.count, sound.maxmsg.1, b.maxmsg);
      texts = All-weaker (IsSoundMqMessage q.msgsize) (λ m. length m.text < 2 ^ 32)
          (λ m good. omega (arith, good.short, sound.msgsize.1, b.msgsize)) q.messages sound.messages;
    }

-- ---- each number has its place

abbrev Low : MqMessage → Type 0
Low m = m.priority < 2 ^ 32

abbrev Short : MqMessage → Type 0
Short m = length m.text < 2 ^ 32

-- the numbers of a registration, and the two after them, one by one
pub numbers-spelled : (r : Option Registration) (n m : ℕ) → let ns : List ℕ = registration_numbers r in
    ns ++ n ∷ m ∷ [] ≡ get_or ns 0 0 ∷ get_or ns 1 0 ∷ get_or ns 2 0 ∷ get_or ns 3 0 ∷ n ∷ m ∷ []
numbers-spelled None n m = refl
numbers-spelled (Some r) n m = refl

pub registration-at : (r : Option Registration) (n m : ℕ) → let ns : List ℕ = registration_numbers r ++ n ∷ m ∷ [] in
    registration_numbers r ≡ get_or ns 0 0 ∷ get_or ns 1 0 ∷ get_or ns 2 0 ∷ get_or ns 3 0 ∷ []
registration-at None n m = refl
registration-at (Some r) n m = refl

-- ---- read

-- the numbers at the front of some bytes, and the bytes after them
module _ (bytes ns after : List ℕ) (fit : FitFields mq_sizes ns) (front : bytes ≡ fields_bytes mq_sizes ns ++ after) where
  -- where a queue stands there, they are its numbers, and its name follows
  module _ (e : NamedEntry Mq) (fits : FitsMq e) (same : bytes ≡ mq_bytes e) where
    abbrev texts : List ℕ
    texts = flat_map mq_message_bytes e.object.messages

    both : (ns ≡ mq_numbers e) × (after ≡ e.bound ++ texts)
    both =
        fields_one mq_sizes ns (mq_numbers e) after (e.bound ++ texts) fit fits.tree.0
        (sym front ∙ same ∙ append_assoc (fields_bytes mq_sizes (mq_numbers e)) e.bound texts)

    at : (i : ℕ) → get_or ns i 0 ≡ get_or (mq_numbers e) i 0
    at i = ap (λ (l : List ℕ). get_or l i 0) both.0

    pub is-cut : length after < get_or ns 10 0 → ⊥
    is-cut short = omega (arith, short, at 10, fits.tree.1, ap length both.1, length-append e.bound texts)

    pub is-registered : registration_numbers e.object.registration ≡ get_or ns 5 0 ∷ get_or ns 6 0 ∷ get_or ns 7 0 ∷ get_or ns 8 0 ∷ []
    is-registered =
        registration-at e.object.registration (length e.object.messages) (length e.bound)
        ∙ ap (λ (l : List ℕ). get_or l 5 0 ∷ get_or l 6 0 ∷ get_or l 7 0 ∷ get_or l 8 0 ∷ []) (sym both.0)

    pub is-counted : length e.object.messages ≡ get_or ns 9 0
    is-counted = sym (at 9 ∙ count_after e.object.registration (length e.object.messages) (length e.bound))

    pub is-left : (name rest : List ℕ) → after ≡ name ++ rest → length name ≡ get_or ns 10 0 → rest ≡ texts
    is-left name rest is long = (text_one name e.bound rest texts (long ∙ at 10 ∙ sym fits.tree.1) (sym is ∙ both.1)).1

  -- what was read
  module _ (name rest : List ℕ) (r : Option Registration) (ms : List MqMessage) (cut : after ≡ name ++ rest) (named : length name ≡ get_or ns 10 0)
      (registered : registration_numbers r ≡ get_or ns 5 0 ∷ get_or ns 6 0 ∷ get_or ns 7 0 ∷ get_or ns 8 0 ∷ []) (count : length ms ≡ get_or ns 9 0) where
    abbrev made : NamedEntry Mq
    made =
        record {
          bound = name;
          perm = own_perm (get_or ns 0 0) (get_or ns 1 0) (get_or ns 2 0);
          object = record { messages = ms; maxmsg = get_or ns 3 0; msgsize = get_or ns 4 0; registration = r };
        }

    numbers : ns ≡ mq_numbers made
    numbers =
        let head : List ℕ → List ℕ = λ l. get_or ns 0 0 ∷ get_or ns 1 0 ∷ get_or ns 2 0 ∷ get_or ns 3 0 ∷ get_or ns 4 0 ∷ l in
        numbers_are mq_sizes ns fit ∙ ap (λ (l : List ℕ). head (l ++ get_or ns 9 0 ∷ get_or ns 10 0 ∷ [])) (sym registered)
        ∙ (λ i. head (registration_numbers r ++ sym count i ∷ sym named i ∷ []))

    pub mq-read : All FitsMqMessage ms → rest ≡ flat_map mq_message_bytes ms → FitsMq made × (bytes ≡ mq_bytes made)
    mq-read fits read = (
      record {
        own = own-own (get_or ns 0 0) (get_or ns 1 0) (get_or ns 2 0);
        tree = (subst (FitFields mq_sizes) numbers fit, named ∙ ap (λ (l : List ℕ). get_or l 10 0) numbers);
        object = fits;
      },
      front ∙ ap (λ (l : List ℕ). fields_bytes mq_sizes ns ++ l) (cut ∙ ap (λ (l : List ℕ). name ++ l) read)
          ∙ ap (λ (l : List ℕ). fields_bytes mq_sizes l ++ (name ++ flat_map mq_message_bytes ms)) numbers
          ∙ sym (append_assoc (fields_bytes mq_sizes (mq_numbers made)) name (flat_map mq_message_bytes ms)),
    )
