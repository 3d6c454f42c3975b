-- Things read one after another, as many as were counted: what was read so far, and what a reader that stops has shown.
use Rattle.std.proofs.Common.{◌≡◌, ◌≢◌, ◌<◌, ◌+◌, ℕ, List, [], ◌∷◌, ◌++◌, length, refl, sym, ap, subst, ◌∙◌, arith}
use Rattle.std.specs.Prelude.{All}
use Rattle.std.specs.List.{flat_map}
use Rattle.std.proofs.lemmas.List.{length-append, append-nil, append_assoc}
use Rattle.std.proofs.lemmas.List.Elements.{All-nil, All-push, All-head, All-tail}
use Rattle.ipc_image.specs.SavedParts.{with_more, IsPlace}
use Rattle.ipc_base.proofs.CallerLemmas.{spelled-next, spelled-more}

module _ {X : Type 0} (bytes_of : X → List ℕ) (P : X → Type 0) where
  -- these were read, so many, and these bytes are left
  pub record AreRead (items : List X) (count : ℕ) (bytes left : List ℕ) : Type 0 where
    pub fit : All P items
    pub long : length items ≡ count
    pub read : bytes ≡ flat_map bytes_of items ++ left

  pub none-read : (bytes : List ℕ) → AreRead [] 0 bytes bytes
  none-read bytes = record { fit = All-nil P; long = refl; read = refl }

  module _ (one : (x y : X) (more others : List ℕ) → P x → P y → bytes_of x ++ more ≡ bytes_of y ++ others → (x ≡ y) × (more ≡ others))
      (items : List X) (count : ℕ) (bytes left : List ℕ) (so_far : AreRead items count bytes left) where
    -- one more
    pub one-read : (rest : List ℕ) (x : X) → P x → left ≡ bytes_of x ++ rest → AreRead (items ++ x ∷ []) (count + 1) bytes rest
    one-read rest x fits is =
        record {
          fit = All-push P items x so_far.fit fits;
          long = omega (arith, length-append items (x ∷ []), so_far.long);
          read = spelled-more bytes_of P one items x bytes left rest so_far.read is;
        }

    module _ (xs : List X) (after : List ℕ) (fit : All P xs) (is : bytes ≡ flat_map bytes_of xs ++ after) where
      -- where there are more, the next one stands next
      pub stuck : count < length xs → ((x : X) (rest : List ℕ) → P x → left ≢ bytes_of x ++ rest) → ⊥
      stuck less never =
          let next = spelled-next bytes_of P one items xs left after so_far.fit fit (omega (arith, less, so_far.long)) (sym so_far.read ∙ is) in
          never next.0 (flat_map bytes_of next.1 ++ after) (middle items next.0 next.1 (subst (All P) next.2 fit)) next.3
        where
          middle : (ys : List X) (x : X) (more : List X) → All P (ys ++ x ∷ more) → P x
          middle [] x more h = All-head P x more h
          middle (y ∷ ys) x more h = middle ys x more (All-tail P y (ys ++ x ∷ more) h)

-- what was added is added after what was added before
module _ {S X : Type 0} (items : S → List X) (put : S → List X → S) (place : IsPlace items put) (s : S) where
  pub none-more : with_more items put s [] ≡ s
  none-more = ap (put s) (append-nil (items s)) ∙ place.same s

  pub more-more : (xs ys : List X) → with_more items put (with_more items put s xs) ys ≡ with_more items put s (xs ++ ys)
  more-more xs ys =
      place.again s (items s ++ xs) (items (put s (items s ++ xs)) ++ ys)
      ∙ ap (λ (l : List X). put s (l ++ ys)) (place.found s (items s ++ xs)) ∙ ap (put s) (append_assoc (items s) xs ys)
