-- Calls that wait: what is read of their bytes, and how many they have.
use Rattle.std.proofs.Common.{◌≡◌, ◌<◌, ◌≤◌, ◌^◌, ◌-◌, ◌+◌, ◌*◌, ◌%◌, ℕ, true, false, cond, nat_eq, List, [], ◌∷◌, ◌++◌, length, Option, Some, None, IfSome}
use Rattle.std.proofs.Common.{refl, sym, ap, subst, ◌∙◌, append_assoc, arith}
use Rattle.std.specs.Prelude.{All}
use Rattle.std.specs.Int.{w32, to_be_bytes}
use Rattle.std.specs.List.{flat_map}
use Rattle.std.proofs.lemmas.Bool.Decides.{nat_tests}
use Rattle.std.proofs.lemmas.List.{length-append}
use Rattle.std.proofs.lemmas.List.Concat.{flat_map-cons}
use Rattle.std.proofs.lemmas.List.Elements.{All-head, All-tail}
use Rattle.ipc_base.specs.declared.identity.Moment.{Moment}
use Rattle.ipc_base.specs.Numbers.{fields_bytes, FitFields}
use Rattle.ipc_state.specs.declared.parked.Awaited.{Awaited}
use Rattle.ipc_state.specs.Waiting.{PlainWaiting, awaited_by, IsSoundWaiting}
use Rattle.ipc_wire.specs.Request.{PlainRequest}
use Rattle.ipc_wire.specs.Spelling.{HasFrame, request_bytes, opcode_of, fields_of}
use Rattle.ipc_image.specs.Format.{format}
use Rattle.ipc_image.specs.Relations.Trees.{waiting_one}
use Rattle.ipc_image.specs.Saved.{deadline_number, waiting_sizes, waiting_shape, waiting_numbers, waiting_tree, waiting_bytes, waits_bytes, FitsWaiting}
use Rattle.ipc_image.specs.SavedParts.{deadline_from}
use Rattle.ipc_image.specs.Relations.Shapes.{tree_one, plain_one, counted_one}

-- the parts of a request are its bytes
pub call_spelled : (r : PlainRequest) (opcode : ℕ) → opcode < 256 → (fields rest : List ℕ) → opcode ≡ opcode_of r.kind
    → fields ++ rest ≡ fields_of r.kind → ((to_be_bytes w32 r.serial ++ opcode % 256 ∷ []) ++ fields) ++ rest ≡ request_bytes r
call_spelled r opcode byte fields rest kind parts =
    let same : opcode % 256 ≡ opcode = omega (arith, byte) in
    append_assoc (to_be_bytes w32 r.serial ++ opcode % 256 ∷ []) fields rest ∙ ap (λ (l : List ℕ). to_be_bytes w32 r.serial ++ opcode % 256 ∷ l) parts
    ∙ ap (λ (n : ℕ). to_be_bytes w32 r.serial ++ n ∷ fields_of r.kind) (same ∙ kind)

-- ---- read

module _ (pid n : ℕ) (text : List ℕ) (fit : FitFields waiting_sizes (pid ∷ n ∷ length text ∷ [])) where
  -- the text that was cut after the numbers is the request of the call that stands there
  pub text_is : (left rest : List ℕ) (w : PlainWaiting) → FitsWaiting w
      → fields_bytes waiting_sizes (pid ∷ n ∷ length text ∷ []) ++ (text ++ left) ≡ waiting_bytes w ++ rest → text ≡ request_bytes w.call
  text_is left rest w fits same =
      let both = tree_one waiting_shape ((pid ∷ n ∷ length text ∷ []), text) (waiting_tree w) left rest (fit, refl) fits.tree same in
      ap (λ (t : List ℕ × List ℕ). t.1) both.0

-- a number is that of its deadline
number_is : (n : ℕ) → deadline_number (deadline_from n) ≡ n
number_is n =
    elim (nat_eq n (2 ^ 64 - 1)) as (λ b. nat_eq n (2 ^ 64 - 1) ≡ b → deadline_number (cond b None (Some (record { 0 = n }))) ≡ n) [
      | true ↦ λ e. greatest n e
      | false ↦ λ e. refl
    ] refl
  where
    greatest : (n : ℕ) → nat_eq n (2 ^ 64 - 1) ≡ true → 2 ^ 64 - 1 ≡ n
    greatest n e = grind (arith, nat_tests)

deadline_fits : (n : ℕ) → n < 2 ^ 64 → IfSome (deadline_from n) (λ m. m.0 < 2 ^ 64 - 1)
deadline_fits n below =
    elim (nat_eq n (2 ^ 64 - 1)) as (λ b. nat_eq n (2 ^ 64 - 1) ≡ b → IfSome (cond b None (Some (record { 0 = n }))) (λ (m : Moment). m.0 < 2 ^ 64 - 1)) [
      | true ↦ λ e. tt
      | false ↦ λ e. other n below e
    ] refl
  where
    other : (n : ℕ) → n < 2 ^ 64 → nat_eq n (2 ^ 64 - 1) ≡ false → n < 2 ^ 64 - 1
    other n below e = grind (arith, nat_tests)

-- the call that has these numbers and this request
pub made_is : (pid n : ℕ) (text : List ℕ) (on : Awaited) (until : Option Moment) (call : PlainRequest)
    → FitFields waiting_sizes (pid ∷ n ∷ length text ∷ []) → until ≡ deadline_from n → HasFrame call → text ≡ request_bytes call
    → awaited_by call.kind ≡ Some on → let w : PlainWaiting = record { pid = record { 0 = pid }; on = on; deadline = until; call = call } in
    FitsWaiting w × (fields_bytes waiting_sizes (pid ∷ n ∷ length text ∷ []) ++ text ≡ waiting_bytes w)
made_is pid n text on until call fit is has text_is waits =
    let w : PlainWaiting = record { pid = record { 0 = pid }; on = on; deadline = until; call = call } in
    let same : pid ∷ n ∷ length text ∷ [] ≡ waiting_numbers w =
    ap (λ (k : ℕ). pid ∷ k ∷ length text ∷ []) (sym (ap deadline_number is ∙ number_is n))
    ∙ ap (λ (l : List ℕ). pid ∷ deadline_number until ∷ length l ∷ []) text_is in (
      record {
        tree = (subst (FitFields waiting_sizes) same fit, refl);
        frame = has;
        on = waits;
        deadline = subst (λ (d : Option Moment). IfSome d (λ m. m.0 < 2 ^ 64 - 1)) (sym is) (deadline_fits n fit.1.0);
      },
      ap (λ (l : List ℕ). fields_bytes waiting_sizes (pid ∷ n ∷ length text ∷ []) ++ l) text_is
          ∙ ap (λ (ns : List ℕ). fields_bytes waiting_sizes ns ++ request_bytes call) same,
    )

-- no two lists of calls have the same bytes
pub waits_one : (vs ws : List PlainWaiting) → length vs < 2 ^ 32 → length ws < 2 ^ 32 → All FitsWaiting vs → All FitsWaiting ws
    → waits_bytes vs ≡ waits_bytes ws → vs ≡ ws
waits_one = counted_one waiting_bytes FitsWaiting (plain_one waiting_shape waiting_tree FitsWaiting (λ w fit. fit.tree) waiting_one)

-- ---- how many bytes

-- a call has at most 16, and a request
pub waiting-long : (w : PlainWaiting) → HasFrame w.call → length (waiting_bytes w) ≤ 16 + format.request
waiting-long w has = omega (arith, has.short)

pub length-waits : (ws : List PlainWaiting) → All IsSoundWaiting ws → length (flat_map waiting_bytes ws) ≤ (16 + format.request) * length ws
length-waits [] each = omega arith
length-waits (w ∷ ws) each =
    omega (
      arith,
      ap length (flat_map-cons waiting_bytes w ws),
      length-append (waiting_bytes w) (flat_map waiting_bytes ws),
      waiting-long w (All-head IsSoundWaiting w ws each).frame,
      length-waits ws (All-tail IsSoundWaiting w ws each),
    )
