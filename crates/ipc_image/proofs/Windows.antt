-- Pieces that pass a window one after another are one text that passes it.
use Rattle.std.proofs.Common.{◌≡◌, ℕ, ◌+◌, ◌-◌, ◌<◌, ◌≤◌, min, List, [], ◌++◌, length, take, drop, get_or, Some, refl, sym, ap, ◌∙◌, arith, inl, inr}
use Rattle.std.proofs.lemmas.Bool.{cases_lt}
use Rattle.std.proofs.Math.ListN.{drop_of_length-le}
use Rattle.std.proofs.Math.Nat.{min_comm}
use Rattle.std.proofs.Math.Seq.{drop-append-add, take-append-add, take-nil}
use Rattle.std.proofs.lemmas.List.{append_assoc, append-nil, length-append, drop-append-le, flat_map_more}
use Rattle.std.proofs.lemmas.List.{take-append-le, take_all, take_more, take_min, take-take, length-take}
use Rattle.std.proofs.lemmas.List.{take-append-drop}
use Rattle.std.proofs.lemmas.Grind.{flat_map-append}
use Rattle.std.proofs.lemmas.Slice.{take-put_mid}
use borrow.Rule.Slice.PartMut.{put_mid}
use Rattle.std.proofs.lemmas.Option.{get_or_from_slice_get, slice_get_within}
use Rattle.std.specs.List.{flat_map, slice_get}
use Rattle.std.specs.Prelude.{Option, None, option_map}
use Rattle.ipc_base.specs.Objects.{window}
use Rattle.ipc_image.specs.Window.{Shown, at_place, passed}

drop_both : (n : ℕ) (xs ys : List ℕ) → drop n (xs ++ ys) ≡ drop n xs ++ drop (n - length xs) ys
drop_both n xs ys =
    elim (cases_lt n (length xs)) [
      | inl lt ↦
          let none : n - length xs ≡ 0 = omega arith in
          rw (none) (drop-append-le n xs ys (omega arith))
      | inr le ↦
          let split : n ≡ length xs + (n - length xs) = omega arith in
          rw (drop_of_length-le xs le) (ap (λ (k : ℕ). drop k (xs ++ ys)) split ∙ drop-append-add xs ys (n - length xs))
    ]

take_both : (n : ℕ) (xs ys : List ℕ) → take n (xs ++ ys) ≡ take n xs ++ take (n - length xs) ys
take_both n xs ys =
    elim (cases_lt n (length xs)) [
      | inl lt ↦
          let none : n - length xs ≡ 0 = omega arith in
          rw (none) (take-append-le n xs ys (omega arith) ∙ sym (append-nil (take n xs)))
      | inr le ↦
          let split : n ≡ length xs + (n - length xs) = omega arith in
          rw (take_all n xs le) (ap (λ (k : ℕ). take k (xs ++ ys)) split ∙ take-append-add xs ys (n - length xs))
    ]

-- by its parts
pub same : {before later : ℕ} {bytes more : List ℕ} {room left : ℕ} → before ≡ later → bytes ≡ more → room ≡ left
    → ◌≡◌ {A = Shown} (record { before = before; bytes = bytes; room = room }) (record { before = later; bytes = more; room = left })
same before bytes room = cc

module _ (w : Shown) where
  -- a piece before the window
  pub passed-before : (piece : List ℕ) → length piece ≤ w.before → passed piece w ≡ record w { before = w.before - length piece }
  passed-before piece le =
      same refl
      (rw (drop_of_length-le piece le) (ap (λ (l : List ℕ). w.bytes ++ l) (take-nil {A = ℕ} w.room) ∙ append-nil w.bytes))
      (rw (drop_of_length-le piece le) (omega arith))

  -- nothing passes
  pub passed-none : passed [] w ≡ w
  passed-none = passed-before [] (omega arith) ∙ same (omega arith) refl refl

  -- two pieces
  pub passed-both : (xs ys : List ℕ) → passed ys (passed xs w) ≡ passed (xs ++ ys) w
  passed-both xs ys =
      let shown : List ℕ = drop w.before xs in
      let next : List ℕ = drop (w.before - length xs) ys in
      same (omega (arith, length-append xs ys))
      (rw (drop_both w.before xs ys) (append_assoc w.bytes (take w.room shown) (take (w.room - length shown) next)
      ∙ ap (λ (l : List ℕ). w.bytes ++ l) (sym (take_both w.room shown next))))
      (rw (drop_both w.before xs ys) (omega (arith, length-append shown next)))

  -- a piece more of a list of them
  pub passed-more : {X : Type 0} (bytes_of : X → List ℕ) (xs : List X) (i : ℕ) (d : X) → i < length xs
      → passed (bytes_of (get_or xs i d)) (passed (flat_map bytes_of (take i xs)) w) ≡ passed (flat_map bytes_of (take (i + 1) xs)) w
  passed-more bytes_of xs i d within =
      passed-both (flat_map bytes_of (take i xs)) (bytes_of (get_or xs i d))
      ∙ ap (λ (l : List ℕ). passed l w) (flat_map_more bytes_of [] (take i xs) (get_or xs i d) ∙ ap (flat_map bytes_of) (sym (take_more xs i d within)))

  pub passed-next : {X : Type 0} (bytes_of : X → List ℕ) (xs : List X) (i : ℕ) (x : X) → slice_get xs i ≡ Some x
      → passed (bytes_of x) (passed (flat_map bytes_of (take i xs)) w) ≡ passed (flat_map bytes_of (take (i + 1) xs)) w
  passed-next {X} bytes_of xs i x is =
      ap (λ (y : X). passed (bytes_of y) (passed (flat_map bytes_of (take i xs)) w)) (sym (get_or_from_slice_get xs i x x is))
      ∙ passed-more bytes_of xs i x (slice_get_within xs i x is)

-- three pieces
pub passed-three : (w : Shown) (xs ys zs : List ℕ) → passed zs (passed ys (passed xs w)) ≡ passed (xs ++ (ys ++ zs)) w
passed-three w xs ys zs = passed-both (passed xs w) ys zs ∙ passed-both w xs (ys ++ zs)

-- all of a list of them, if the window shows no more after some
pub passed-full : {X : Type 0} (w : Shown) (bytes_of : X → List ℕ) (xs : List X) (i : ℕ) (full : Shown)
    → full ≡ passed (flat_map bytes_of (take i xs)) w → ((piece : List ℕ) → passed piece full ≡ full) → full ≡ passed (flat_map bytes_of xs) w
passed-full w bytes_of xs i full some more =
    let others : List ℕ = flat_map bytes_of (drop i xs) in
    sym (more others) ∙ ap (passed others) some ∙ passed-both w (flat_map bytes_of (take i xs)) others
    ∙ ap (λ (l : List ℕ). passed l w) (sym (flat_map-append bytes_of (take i xs) (drop i xs)) ∙ ap (flat_map bytes_of) (take-append-drop i xs))

-- what a window shows of a text that has passed
pub window-shown : (place : ℕ) (text : List ℕ) → window 0 (passed text (at_place place)).bytes ≡ window place text
window-shown place text = rw (take-take 512 512 (drop place text) (omega arith)) refl

-- a piece that is copied into the bytes after those that are shown
pub copied : (filled count : ℕ) (old piece : List ℕ) → length old ≡ 512 → filled ≤ 512 → count ≡ min (length piece) (512 - filled)
    → take (filled + count) (put_mid filled (filled + count - filled) old (take count piece)) ≡ take filled old ++ take (512 - filled) piece
copied filled count old piece long within is =
    take-put_mid filled (filled + count - filled) old (take count piece) (filled + count) (omega (arith, length-take count piece)) (omega arith)
    ∙ ap (λ (l : List ℕ). take filled old ++ l) (rw (is, min_comm (length piece) (512 - filled)) (take_min (512 - filled) piece))

-- so it is of an object, if there is one
pub object-shown : (place : ℕ) (found : Option (ℕ × List ℕ)) (w : Shown) → option_map (λ o. passed o.1 (at_place place)) found ≡ Some w
    → option_map (λ o. window place o.1) found ≡ Some (window 0 w.bytes)
object-shown place None w is = cc
object-shown place (Some o) w is = ap Some (sym (window-shown place o.1)) ∙ ap (option_map (λ (v : Shown). window 0 v.bytes)) is
