use Rattle.std.proofs.Common.{◌≡◌, ℕ, List, [], ◌∷◌, ◌++◌, get_or, length, sym, ap, subst, ◌∙◌, arith}
use Rattle.std.proofs.lemmas.List.{length-append, length-drop, take-append-drop}
use Rattle.ipc_base.specs.Numbers.{fields_bytes, FitFields}
use Rattle.ipc_base.proofs.CallerLemmas.{fields_one, numbers_are}
use Rattle.shm_segment.specs.Segment.{Segment}
use Rattle.ipc_state.specs.Named.{NamedEntry}
use Rattle.ipc_image.specs.Saved.{segment_sizes, segment_numbers, segment_bytes, FitsSegment}
use Rattle.ipc_image.specs.SavedParts.{own_perm}
use Rattle.ipc_image.specs.Relations.Named.{own-own}
use Rattle.ipc_image.proofs.pshm.NamedEntrySegmentStored.read.Goals as goal

pub returns-in_err-numbers-clause-damaged : goal.returns-in_err-numbers-clause-damaged
returns-in_err-numbers-clause-damaged c is e fits same =
    let none = rw c.in_err-numbers.ensures.ok_part at c.take_fields.ensures.none in
    none (segment_numbers e) (e.bound ++ e.object.bytes) fits.tree.0 same

pub returns-then-rest-numbers-clause-damaged : goal.returns-then-rest-numbers-clause-damaged
returns-then-rest-numbers-clause-damaged c is e fits same =
    let ns : List ℕ = c.in_ok-numbers.numbers in
    let after = c.in_ok-numbers.after.now in
    let found = rw c.in_ok-numbers.ensures.ok_part at c.take_fields.ensures.some in
    let split = rw c.in_ok-name.ensures.ok_part at c.split_at_checked.ensures.cases in
    let both = fields_one segment_sizes ns (segment_numbers e) after (e.bound ++ e.object.bytes) found.0 fits.tree.0 (sym found.1 ∙ same) in
    omega (
      arith,
      c.if-rest-numbers.true,
      ap (λ (l : List ℕ). get_or l 3 0) both.0,
      ap (λ (l : List ℕ). get_or l 4 0) both.0,
      ap length both.1,
      length-append e.bound e.object.bytes,
      length-drop (get_or ns 3 0) after,
      ap length split.2,
    )

pub returns-clause-ok : goal.returns-clause-ok
returns-clause-ok c =
    let ns : List ℕ = c.in_ok-numbers.numbers in
    let after = c.in_ok-numbers.after.now in
    let text : List ℕ = c.in_ok-name.name.now in
    let rest : List ℕ = c.in_ok-name.rest.now in
    let found = rw c.in_ok-numbers.ensures.ok_part at c.take_fields.ensures.some in
    let split = rw c.in_ok-name.ensures.ok_part at c.split_at_checked.ensures.cases in
    let long : length rest ≡ get_or ns 4 0 = omega (arith, c.if-rest-numbers.false) in
    let named : length text ≡ get_or ns 3 0 = split.3 in
    let cut : after ≡ text ++ rest = sym (take-append-drop (get_or ns 3 0) after) ∙ (λ i. sym split.1 i ++ sym split.2 i) in
    let whole : NamedEntry Segment =
    record { bound = text; perm = own_perm (get_or ns 0 0) (get_or ns 1 0) (get_or ns 2 0); object = record { bytes = rest } } in
    let same : ns ≡ segment_numbers whole =
    numbers_are segment_sizes ns found.0 ∙ (λ i. get_or ns 0 0 ∷ get_or ns 1 0 ∷ get_or ns 2 0 ∷ sym named i ∷ sym long i ∷ []) in
    let Is : NamedEntry Segment → Type 0 = λ e. FitsSegment e × (c.args.bytes.now ≡ segment_bytes e) in
    let made : Is whole = (
      record {
        own = own-own (get_or ns 0 0) (get_or ns 1 0) (get_or ns 2 0);
        tree = (subst (FitFields segment_sizes) same found.0, length-append text rest);
        object = tt;
      },
      found.1 ∙ ap (λ (l : List ℕ). fields_bytes segment_sizes ns ++ l) cut ∙ ap (λ (l : List ℕ). fields_bytes segment_sizes l ++ (text ++ rest)) same,
    ) in
    let name = sym c.in_ok-new.ensures in
    let perm = sym c.own_perm.ensures.perm in
    let bytes = sym c.in_ok-of_bytes.ensures in
    subst Is (λ i. record { bound = name i; perm = perm i; object = record { bytes = bytes i } }) made
