-- What a sector that is a superblock holds, and what makes one of it.
use Rattle.std.proofs.Common.{◌≡◌, ℕ, zero, suc, ◌+◌, ◌*◌, ◌-◌, ◌≤◌, ◌<◌, ◌^◌, Bool, true, false, eqb, leb, ◌&&◌, cond}
use Rattle.std.proofs.Common.{List, [], ◌∷◌, ◌++◌, length, take, drop, get_or}
use Rattle.std.proofs.Common.{inl, inr, refl, sym, ap, ◌∙◌, arith}
use Rattle.std.specs.Prelude.{All, Option, Some, None, not, position, replicate, nat_le}
use Rattle.std.specs.List.{starts_with, position_or_len}
use Rattle.std.proofs.lemmas.Bool.{cases_lt, lt-ltb, ltb-false, ltb-true, leb-true, le-leb, le-ltb, eqb-true, eq-eqb}
use Rattle.std.proofs.lemmas.Bool.Decides.{Decides-eqb, eqb_tells}
use Rattle.std.proofs.lemmas.Slice.Eq.{slice_eq-Decides}
use Rattle.std.specs.Int.{w32, from_be_bytes, to_be_bytes}
use Rattle.std.proofs.Math.Seq.{drop-append-add}
use Rattle.std.proofs.lemmas.List.{take_at, take-take, drop-take, get_or-drop, get_or-take, length-append}
use Rattle.std.proofs.lemmas.List.Elements.{All-append, All-cons, All-nil}
use Rattle.std.proofs.lemmas.List.Folds.{position_or_len_push}
use Rattle.std.proofs.lemmas.List.Sums.{fails_before_first, position_or_len_is}
use Rattle.std.proofs.lemmas.Option.{none-some, same_Some}
use Rattle.std.proofs.lemmas.Nat.{from_be_bytes-to_be_bytes_4}
use Rattle.ipc_base.specs.declared.field.Size.TheVariants.{Four}
use Rattle.ipc_base.specs.Numbers.{FitFields}
use Rattle.ipc_limits.specs.declared.limits.Limits.{Limits}
use Rattle.ipc_limits.specs.Limits.{ArePassed, AreWithin, greatest_limits, is_within, tests}
use Rattle.ipc_limits.proofs.CallerLemmas.{passed-bounds, within-greater}
use Rattle.ipc_image.specs.declared.format.Format.{Format}
use Rattle.ipc_image.specs.Format.{IsFormat, IsOpened, format, format_one}
use Rattle.ipc_image.specs.Sizes.{area_in, first_fault, most_area, need_in}
use Rattle.ipc_image.specs.Superblock.{magic, limit_fields, superblock_fields, named_length, named_bytes, superblock_bytes}
use Rattle.ipc_image.specs.Superblock.{IsFormatted, number_in, version_in, sectors_in, journal_in, limit_in, features_in, is_of, named_form}
use Rattle.ipc_image.specs.Superblock.{AreOf, IsSuperblockIn}
use Rattle.ipc_image.specs.Relations.Superblocks.{limits_in}
use Rattle.ipc_image.proofs.AtLeast.{each}
use Rattle.ipc_image.proofs.Formats.{by-form, one-form, opened-is}
use Rattle.ipc_image.proofs.Numbers.{spelled}

-- each limit has its four bytes
limits-fit : (l : Limits) → ArePassed l → FitFields (replicate 22 Four) (limit_fields l)
limits-fit l passed = let b = passed-bounds l passed in search arith

-- each of some numbers has them
each_fits : (k : ℕ) (ns : List ℕ) → FitFields (replicate k Four) ns → (i : ℕ) → get_or ns i 0 < 2 ^ 32
each_fits zero [] fit i = omega arith
each_fits zero (n ∷ ns) fit i = absurd fit
each_fits (suc k) [] fit i = absurd fit
each_fits (suc k) (n ∷ ns) fit zero = fit.0
each_fits (suc k) (n ∷ ns) fit (suc i) = each_fits k ns fit.1 i

-- one of them stands after those before it
spelled-at : (ns : List ℕ) (k : ℕ) → k < length ns → take 4 (drop (4 * k) (spelled ns)) ≡ to_be_bytes w32 (get_or ns k 0)
spelled-at [] k within = absurd (omega arith)
spelled-at (n ∷ ns) zero within = take_at (to_be_bytes w32 n) (spelled ns) 4 refl
spelled-at (n ∷ ns) (suc k) within =
    let next : 4 * suc k ≡ 4 + 4 * k = omega arith in
    ap (λ (m : ℕ). take 4 (drop m (spelled (n ∷ ns)))) next
    ∙ ap (take 4) (drop-append-add (to_be_bytes w32 n) (spelled ns) (4 * k)) ∙ spelled-at ns k (omega arith)

both-true : (a b : Bool) → (a && b) ≡ true → (a ≡ true) × (b ≡ true)
both-true true b h = (refl, h)
both-true false b h = cc

-- a sector that begins as a superblock does
pub formatted : (sector : List ℕ) (starts : Bool) → starts ≡ starts_with eqb sector magic → starts ≡ true → IsFormatted sector
formatted sector starts tested begun = sym ((slice_eq-Decides Decides-eqb magic (take 8 sector) starts tested).0 begun)

pub not_formatted : (sector : List ℕ) (starts : Bool) → starts ≡ starts_with eqb sector magic → starts ≡ false → IsFormatted sector → ⊥
not_formatted sector starts tested other formatted =
    let begun : starts ≡ true = (slice_eq-Decides Decides-eqb magic (take 8 sector) starts tested).1 (sym formatted) in
    cc

module _ (form : Format) (known : IsFormat form) (sectors : ℕ) (limits : Limits) (sector : List ℕ)
    (is : IsSuperblockIn form sectors limits sector) where
  abbrev fields : List ℕ
  fields = superblock_fields form sectors limits

  -- how a superblock begins
  pub begins : IsFormatted sector
  unfolding named_bytes
  begins = sym (take-take 8 (named_length form) sector (omega arith)) ∙ ap (take 8) is.named

  count : length fields ≡ 7 + form.limits
  count = by-form (λ f. length (superblock_fields f sectors limits) ≡ 7 + f.limits) refl refl (λ j its. refl) form known

  -- it has these numbers
  has_number : (k : ℕ) → k < 7 + form.limits → get_or fields k 0 < 2 ^ 32 → number_in k sector ≡ get_or fields k 0
  unfolding named_bytes
  has_number k within below =
      let at : ℕ = 8 + 4 * k in
      let rest : ℕ = named_length form - at in
      let all : at + rest ≡ named_length form = omega (arith, within) in
      let after : take rest (drop at sector) ≡ drop at (named_bytes form sectors limits) =
      sym (drop-take at rest sector) ∙ ap (λ (n : ℕ). drop at (take n sector)) all ∙ ap (drop at) is.named in
      let own : take 4 (drop at sector) ≡ to_be_bytes w32 (get_or fields k 0) =
      sym (take-take 4 rest (drop at sector) (omega (arith, within))) ∙ ap (take 4) after
      ∙ ap (take 4) (drop-append-add magic (spelled fields) (4 * k)) ∙ spelled-at fields k (omega (arith, within, count)) in
      ap (from_be_bytes w32) own ∙ from_be_bytes-to_be_bytes_4 (get_or fields k 0) below

  pub has_version : version_in sector ≡ form.version
  has_version = has_number 0 (omega arith) (by-form (λ f. f.version < 2 ^ 32) (omega arith) (omega arith) (λ j its. omega arith) form known)

  pub has_sectors : sectors < 2 ^ 32 → sectors_in sector ≡ sectors
  has_sectors below = has_number 1 (omega arith) below

  pub has_journal : journal_in sector ≡ form.journal
  has_journal = has_number 3 (omega arith) (by-form (λ f. f.journal < 2 ^ 32) (omega arith) (omega arith) (λ j its. omega (arith, its)) form known)

  -- it is of its form
  pub is-of : is_of form sector ≡ true
  is-of = rw (eq-eqb (version_in sector) form.version has_version) (eq-eqb (features_in form sector) 0 is.features)

  limit-is : (k : ℕ) → k < 22 → limit_in form k sector ≡ get_or (limit_fields limits) k 0
  limit-is k within =
      let below : get_or (limit_fields limits) k 0 < 2 ^ 32 = each_fits 22 (limit_fields limits) (limits-fit limits is.of.passed) k in
      elim (cases_lt k form.limits) [
        | inl lt ↦
            let own : get_or fields (7 + k) 0 ≡ get_or (limit_fields limits) k 0 =
            sym (get_or-drop 7 fields k 0) ∙ get_or-take form.limits (limit_fields limits) k 0 lt in
            rw (lt-ltb k form.limits lt) (has_number (7 + k) (omega (arith, lt)) (omega (arith, own, below)) ∙ own)
        | inr le ↦
            let one = is.of.others (k - form.limits) 0 (omega (arith, le, within, rest)) in
            let back : form.limits + (k - form.limits) ≡ k = omega (arith, le) in
            rw (le-ltb k form.limits le)
            (sym one ∙ get_or-drop form.limits (limit_fields limits) (k - form.limits) 0 ∙ ap (λ (n : ℕ). get_or (limit_fields limits) n 0) back)
      ]
    where
      rest : length (drop form.limits (limit_fields limits)) ≡ 22 - form.limits
      rest = by-form (λ f. length (drop f.limits (limit_fields limits)) ≡ 22 - f.limits) refl refl (λ j its. refl) form known

  -- and names these limits
  pub has_limits : limits_in form sector ≡ limits
  has_limits =
      λ i. record {
        version = sym is.of.version i;
        journal = sym is.of.journal i;
        processes = limit-is 0 (omega arith) i;
        msgmni = limit-is 1 (omega arith) i;
        msgmax = limit-is 2 (omega arith) i;
        msgmnb = limit-is 3 (omega arith) i;
        semmni = limit-is 4 (omega arith) i;
        semmsl = limit-is 5 (omega arith) i;
        semmns = limit-is 6 (omega arith) i;
        semopm = limit-is 7 (omega arith) i;
        queues = limit-is 8 (omega arith) i;
        maxmsg = limit-is 9 (omega arith) i;
        msgsize = limit-is 10 (omega arith) i;
        named_semaphores = limit-is 11 (omega arith) i;
        segments = limit-is 12 (omega arith) i;
        segment_bytes = limit-is 13 (omega arith) i;
        call_bytes = limit-is 14 (omega arith) i;
        descriptors = limit-is 15 (omega arith) i;
        shmmni = limit-is 16 (omega arith) i;
        shmmax = limit-is 17 (omega arith) i;
        shmall = limit-is 18 (omega arith) i;
        msgqlen = limit-is 19 (omega arith) i;
        semume = limit-is 20 (omega arith) i;
        queue_bytes = limit-is 21 (omega arith) i;
      }

-- a sector of a version names no features that it has not
pub no-features : (form : Format) (sector : List ℕ) → is_of form sector ≡ true → features_in form sector ≡ 0
no-features form sector of =
    eqb-true (features_in form sector) 0 (both-true (eqb (version_in sector) form.version) (eqb (features_in form sector) 0) of).1

-- limits within the greatest values of a version passed the check of any
pub within_passed : (form : Format) → IsFormat form → (limits : Limits) → AreWithin form.most limits → ArePassed limits
within_passed form known limits =
    within-greater form.most greatest_limits limits (by-form (λ f. ArePassed f.most) refl refl (λ j its. refl) form known)

-- of the limits that a version lacks none but 1 is within them
one-within : (value : ℕ) → is_within value 1 ≡ true → value ≡ 1
one-within value h =
    let both = both-true (leb 1 value) (leb value 1) h in
    omega (arith, leb-true 1 value both.0, leb-true value 1 both.1)

three-ones : (a b c : ℕ) → a ≡ 1 → b ≡ 1 → c ≡ 1 → All (λ n. n ≡ 1) (a ∷ b ∷ c ∷ [])
three-ones a b c p q r = let One : ℕ → Type 0 = λ n. n ≡ 1 in All-cons One a (b ∷ c ∷ []) p (All-cons One b (c ∷ []) q (All-cons One c [] r (All-nil One)))

others-one : (form : Format) → IsFormat form → (limits : Limits) → AreWithin form.most limits → All (λ n. n ≡ 1) (drop form.limits (limit_fields limits))
others-one form known limits =
    let One : ℕ → Type 0 = λ n. n ≡ 1 in
    let last : (most : Limits) → most.msgqlen ≡ 1 → most.semume ≡ 1 → most.queue_bytes ≡ 1 → AreWithin most limits → All One (drop 19 (limit_fields limits)) =
    λ most p q r within. let all = each (tests most limits) within in
    three-ones limits.msgqlen limits.semume limits.queue_bytes
    (one-within limits.msgqlen (ap (is_within limits.msgqlen) (sym p) ∙ all 19 (omega arith)))
    (one-within limits.semume (ap (is_within limits.semume) (sym q) ∙ all 20 (omega arith)))
    (one-within limits.queue_bytes (ap (is_within limits.queue_bytes) (sym r) ∙ all 21 (omega arith))) in
    by-form (λ f. AreWithin f.most limits → All One (drop f.limits (limit_fields limits)))
    (λ within. let all = each (tests format_one.most limits) within in
    All-append One (limits.shmmni ∷ limits.shmmax ∷ limits.shmall ∷ []) (drop 19 (limit_fields limits))
    (three-ones limits.shmmni limits.shmmax limits.shmall (one-within limits.shmmni (all 16 (omega arith)))
    (one-within limits.shmmax (both-true (is_within limits.shmmax 1) (leb limits.shmmax limits.shmall) (all 17 (omega arith))).0)
    (one-within limits.shmall (all 18 (omega arith)))) (last format_one.most refl refl refl within))
    (λ within. last format.most refl refl refl within)
    (λ j its within. All-nil One) form known

-- those of a form are its limits
pub are-of : (form : Format) → IsFormat form → (limits : Limits) → limits.version ≡ form.version → limits.journal ≡ form.journal
    → AreWithin form.most limits → area_in form limits ≤ most_area → AreOf form limits
are-of form known limits version journal within area =
    record {
      passed = within_passed form known limits within;
      version = version;
      journal = journal;
      within = within;
      area = area;
      others = others-one form known limits within;
    }

-- what was written begins with the bytes that are compared
pub written-front : (form : Format) → IsFormat form → (sectors : ℕ) (limits : Limits)
    → take (named_length form) (superblock_bytes form sectors limits) ≡ named_bytes form sectors limits
unfolding named_bytes
written-front form known sectors limits =
    by-form (λ f. take (named_length f) (superblock_bytes f sectors limits) ≡ named_bytes f sectors limits) refl refl (λ j its. refl) form known

-- what was written is a superblock
pub written : (form : Format) → IsFormat form → (sectors : ℕ) (limits : Limits) → AreOf form limits → need_in form limits ≤ sectors
    → IsSuperblockIn form sectors limits (superblock_bytes form sectors limits)
unfolding named_bytes
written form known sectors limits of room =
    record {
      named = written-front form known sectors limits;
      features = by-form (λ f. features_in f (superblock_bytes f sectors limits) ≡ 0) refl refl (λ j its. refl) form known;
      of = of;
      room = room;
    }

-- the numbers of one sector are those of one device with one set of limits
pub one_superblock : (form : Format) → IsFormat form → (sectors others : ℕ) (limits more : Limits) (sector : List ℕ) → sectors < 2 ^ 32 → others < 2 ^ 32
    → IsSuperblockIn form sectors limits sector → IsSuperblockIn form others more sector → (sectors ≡ others) × (limits ≡ more)
one_superblock form known sectors others limits more sector fits other-fits is other-is = (
  sym (has_sectors form known sectors limits sector is fits) ∙ has_sectors form known others more sector other-is other-fits,
  sym (has_limits form known sectors limits sector is) ∙ has_limits form known others more sector other-is,
)

-- and those of one form
pub one_form : (form other : Format) → IsFormat form → IsFormat other → (sectors others : ℕ) (limits more : Limits) (sector : List ℕ)
    → IsSuperblockIn form sectors limits sector → IsSuperblockIn other others more sector → form ≡ other
one_form form other known also sectors others limits more sector is other-is =
    one-form form known other also
    (sym (has_version form known sectors limits sector is) ∙ has_version other also others more sector other-is)
    (sym (has_journal form known sectors limits sector is) ∙ has_journal other also others more sector other-is)

-- that of a device that is opened is the one that it names
pub names : (form : Format) → IsOpened form → (sectors : ℕ) (limits : Limits) (sector : List ℕ) → IsSuperblockIn form sectors limits sector
    → named_form sector ≡ form
unfolding named_form
names form opened sectors limits sector is =
    opened-is form opened (version_in sector) (journal_in sector) (has_version form (inr opened) sectors limits sector is)
    (has_journal form (inr opened) sectors limits sector is)

-- ---- what tests say

-- where one test more is made after some, the first that fails is the same if one fails before it
some-place : (b : Bool) (n field : ℕ) → cond b (Some n) None ≡ Some field → (b ≡ true) × (n ≡ field)
some-place true n field is = (refl, same_Some n field is)
some-place false n field is = cc

pub first_before : (ts : List Bool) (b : Bool) (field : ℕ) → position not ts ≡ Some field → position not (ts ++ b ∷ []) ≡ Some field
first_before ts b field is =
    let both = some-place _ _ field is in
    let lt : position_or_len not ts < length ts = ltb-true _ _ both.0 in
    let other : eqb (position_or_len not ts) (length ts) ≡ false = not-equal _ _ lt in
    let same : position_or_len not (ts ++ b ∷ []) ≡ position_or_len not ts = position_or_len_push not ts b ∙ rw (other) refl in
    rw (same, lt-ltb (position_or_len not ts) (length (ts ++ b ∷ [])) (omega (arith, lt, length-append ts (b ∷ [])))) (ap Some both.1)
  where
    not-equal : (m n : ℕ) → m < n → eqb m n ≡ false
    not-equal m n lt =
        elim (eqb_tells m n) [
          | inl equal ↦ absurd (omega (arith, lt, equal.1))
          | inr different ↦ different.0
        ]

-- if none does, it is the last one
all-before : (ts : List Bool) (b : Bool) → position not ts ≡ None → position_or_len not (ts ++ b ∷ []) ≡ length ts + cond (not b) 0 1
all-before ts b none =
    let late : length ts ≤ position_or_len not ts = ltb-false _ _ (no-place _ _ none) in
    let all : position_or_len not ts ≡ length ts =
    position_or_len_is not ts (length ts) false (omega arith) (λ k lt. fails_before_first not ts k false (omega (arith, lt, late)))
    (λ lt. absurd (omega (arith, lt))) in
    position_or_len_push not ts b ∙ rw (eq-eqb (position_or_len not ts) (length ts) all) refl
  where
    no-place : (c : Bool) (n : ℕ) → cond c (Some n) None ≡ None → c ≡ false
    no-place true n e = cc
    no-place false n e = refl

pub last-fails : (ts : List Bool) → position not ts ≡ None → position not (ts ++ false ∷ []) ≡ Some (length ts)
last-fails ts none =
    let at : position_or_len not (ts ++ false ∷ []) ≡ length ts = all-before ts false none ∙ (omega arith) in
    rw (at, lt-ltb (length ts) (length (ts ++ false ∷ [])) (omega (arith, length-append ts (false ∷ [])))) refl

none-fails : (ts : List Bool) → position not ts ≡ None → position not (ts ++ true ∷ []) ≡ None
none-fails ts none =
    let at : position_or_len not (ts ++ true ∷ []) ≡ length ts + 1 = all-before ts true none in
    rw (at, le-ltb (length ts + 1) (length (ts ++ true ∷ [])) (omega (arith, length-append ts (true ∷ [])))) refl

-- an area that is too large fails the last test
pub area-fails : (form : Format) (limits : Limits) → AreWithin form.most limits → most_area < area_in form limits → first_fault form limits ≡ Some 22
area-fails form limits within above = rw (not-le (area_in form limits) most_area above) (last-fails (tests form.most limits) within)
  where
    not-le : (a b : ℕ) → b < a → nat_le a b ≡ false
    not-le a b lt = by (leb a b) refl
      where
        by : (c : Bool) → leb a b ≡ c → leb a b ≡ false
        by true is = absurd (omega (arith, lt, leb-true a b is))
        by false is = is

-- limits that pass the tests of the fields and of the area pass all
pub all-pass : (form : Format) (limits : Limits) → AreWithin form.most limits → area_in form limits ≤ most_area → first_fault form limits ≡ None
all-pass form limits within area = rw (le-leb (area_in form limits) most_area area) (none-fails (tests form.most limits) within)

-- so do limits of a version
pub of-passes : (form : Format) (limits : Limits) → AreOf form limits → first_fault form limits ≡ None
of-passes form limits of = all-pass form limits of.within of.area

-- where the area of limits that pass the tests of the fields is not too large, the first test that fails is one of a field
pub first-is-of-fields : (form : Format) (limits : Limits) (field : ℕ) → (AreWithin form.most limits → area_in form limits ≤ most_area)
    → first_fault form limits ≡ Some field → position not (tests form.most limits) ≡ Some field
first-is-of-fields form limits field small is = by (position not (tests form.most limits)) refl
  where
    own : List Bool
    own = tests form.most limits

    last : Bool
    last = nat_le (area_in form limits) most_area

    by : (o : Option ℕ) → position not own ≡ o → position not own ≡ Some field
    by None none =
        let passes : last ≡ true = le-leb (area_in form limits) most_area (small none) in
        absurd (none-some field (sym (ap (λ (b : Bool). position not (own ++ b ∷ [])) passes ∙ none-fails own none) ∙ is))
    by (Some first) found = found ∙ sym (first_before own last first found) ∙ is
