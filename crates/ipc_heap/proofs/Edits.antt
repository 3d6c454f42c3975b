-- What becomes of the words of a table.
use Rattle.std.proofs.Common.{◌≡◌, ℕ, zero, suc, ◌+◌, ◌-◌, ◌<◌, ◌≤◌, List, [], ◌∷◌, ◌++◌, length, get_or, set, take, drop, refl, sym, ap, ◌∙◌, append_assoc}
use Rattle.std.proofs.Common.{arith}
use Rattle.std.specs.Prelude.{slice_index}
use Rattle.std.proofs.lemmas.List.{take_at, drop_at, take-take, drop-take, length-take-le, length-drop, length-append, drop-drop}
use Rattle.ipc_heap.specs.declared.words.Place.{Place}
use Rattle.ipc_heap.specs.Relations.Words.{replaced}

module _ (ws : List ℕ) (place : Place) (end : ℕ) (some : 0 < place.at) (le : place.at + place.len ≤ end) (within : end ≤ length ws) where
  -- the words from the end are in their place, and the old ones are away
  brought : (moved new : List ℕ) (away : ℕ) → away ≡ place.at + (length ws - end)
      → moved ≡ take place.at ws ++ (drop end ws ++ take (end - place.at) (drop place.at ws))
      → new ≡ take away moved ++ drop (away + place.len) moved
      → new ≡ take place.at (take end ws) ++ (drop end ws ++ drop (place.at + place.len) (take end ws))
  brought moved new away is was now =
      let front : List ℕ = take place.at ws ++ drop end ws in
      let long : length front ≡ away =
      omega (arith, is, length-append (take place.at ws) (drop end ws), length-take-le place.at ws (omega arith), length-drop end ws) in
      let both : moved ≡ front ++ take (end - place.at) (drop place.at ws) =
      was ∙ sym (append_assoc (take place.at ws) (drop end ws) (take (end - place.at) (drop place.at ws))) in
      let first : take away moved ≡ front = ap (take away) both ∙ take_at front (take (end - place.at) (drop place.at ws)) away long in
      let rest : drop away moved ≡ take (end - place.at) (drop place.at ws) =
      ap (drop away) both ∙ drop_at front (take (end - place.at) (drop place.at ws)) away long in
      let bound : place.at + (end - place.at) ≡ end = omega (arith, le) in
      let same : take (end - place.at) (drop place.at ws) ≡ drop place.at (take end ws) =
      sym (drop-take place.at (end - place.at) ws) ∙ ap (λ (n : ℕ). drop place.at (take n ws)) bound in
      now ∙ ap (λ (l : List ℕ). l ++ drop (away + place.len) moved) first
      ∙ ap (λ (l : List ℕ). front ++ l) (sym (drop-drop place.len away moved) ∙ ap (drop place.len) (rest ∙ same) ∙ drop-drop place.len place.at (take end ws))
      ∙ append_assoc (take place.at ws) (drop end ws) (drop (place.at + place.len) (take end ws))
      ∙ ap (λ (l : List ℕ). l ++ (drop end ws ++ drop (place.at + place.len) (take end ws))) (sym (take-take place.at end ws (omega (arith, le))))

-- the first word stays first
first_word : (at end : ℕ) (ws rest : List ℕ) → 0 < at → 0 < end → 0 < length ws
    → take at (take end ws) ++ rest ≡ slice_index ws 0 ∷ (drop 1 (take at (take end ws)) ++ rest)
first_word zero end ws rest some more long = absurd (omega arith)
first_word (suc at) zero ws rest some more long = absurd (omega arith)
first_word (suc at) (suc end) [] rest some more long = absurd (omega arith)
first_word (suc at) (suc end) (w ∷ ws) rest some more long = refl

module _ (ws : List ℕ) (place : Place) (end : ℕ) (some : 0 < place.at) (le : place.at + place.len ≤ end) (within : end ≤ length ws) where
  -- an object that was there, and one that was not
  pub brought-over : (moved new : List ℕ) (away : ℕ) → away ≡ place.at + (length ws - end)
      → moved ≡ take place.at ws ++ (drop end ws ++ take (end - place.at) (drop place.at ws))
      → new ≡ take away moved ++ drop (away + place.len) moved → 0 < place.len
      → new ≡ replaced (take end ws) place (drop end ws) (slice_index ws 0 + (1 - place.len))
  brought-over moved new away is was now there =
      let one : slice_index ws 0 ≡ slice_index ws 0 + (1 - place.len) = omega (arith, there) in
      brought ws place end some le within moved new away is was now
      ∙ first_word place.at end ws (drop end ws ++ drop (place.at + place.len) (take end ws)) some (omega (arith, some, le)) (omega (arith, some, le, within))
      ∙ ap (λ (n : ℕ). n ∷ (drop 1 (take place.at (take end ws)) ++ (drop end ws ++ drop (place.at + place.len) (take end ws)))) one

  pub brought-new : (moved new : List ℕ) (away first : ℕ) → away ≡ place.at + (length ws - end)
      → moved ≡ take place.at ws ++ (drop end ws ++ take (end - place.at) (drop place.at ws))
      → new ≡ take away moved ++ drop (away + place.len) moved → place.len ≡ 0 → first ≡ get_or new 0 first
      → set new 0 (first + 1) ≡ replaced (take end ws) place (drop end ws) (slice_index ws 0 + (1 - place.len))
  brought-new moved new away first is was now none read =
      let all : new ≡ slice_index ws 0 ∷ (drop 1 (take place.at (take end ws)) ++ (drop end ws ++ drop (place.at + place.len) (take end ws))) =
      brought ws place end some le within moved new away is was now
      ∙ first_word place.at end ws (drop end ws ++ drop (place.at + place.len) (take end ws)) some (omega (arith, some, le))
      (omega (arith, some, le, within)) in
      let count : first ≡ slice_index ws 0 = read ∙ ap (λ (l : List ℕ). get_or l 0 first) all in
      let one : first + 1 ≡ slice_index ws 0 + (1 - place.len) = omega (arith, none, count) in
      ap (λ (l : List ℕ). set l 0 (first + 1)) all
      ∙ ap (λ (n : ℕ). n ∷ (drop 1 (take place.at (take end ws)) ++ (drop end ws ++ drop (place.at + place.len) (take end ws)))) one
