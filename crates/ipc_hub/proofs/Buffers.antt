-- The front of a buffer: what stands there, what is written after it, and what is taken off it.
use Rattle.std.proofs.Common.{◌≡◌, ℕ, [], ◌+◌, ◌-◌, ◌≤◌, List, ◌++◌, length, take, drop, sym, ap, ◌∙◌, arith, append_assoc}
use Rattle.std.specs.Prelude.{Vec}
use Rattle.std.specs.List.{copy_within}
use Rattle.std.specs.Vec.{with_items}
use Rattle.std.proofs.Math.Seq.{take-append_seam}
use Rattle.std.proofs.lemmas.List.{drop-take, length-drop, length-take-le, length-append, drop_all}
use Rattle.std.proofs.lemmas.List.{take-append-le, take-take, take-append-drop, with_items_is}
use Rattle.ipc_hub.specs.View.{Outgoing}

-- views that are the same in each part
pub same-outgoing : (a b : Outgoing) → a.visible ≡ b.visible → a.waiting ≡ b.waiting → a.free ≡ b.free → a ≡ b
same-outgoing a b v w f = λ i. record { visible = v i; waiting = w i; free = f i }

-- a front is its own front and the rest of it
pub front-parts : (xs : List ℕ) (n end : ℕ) → n ≤ end → take n xs ++ drop n (take end xs) ≡ take end xs
front-parts xs n end le = ap (λ (ws : List ℕ). ws ++ drop n (take end xs)) (sym (take-take n end xs le)) ∙ take-append-drop n (take end xs)

-- nothing of a front stands after it
pub front-rest : (xs : List ℕ) (end : ℕ) → end ≤ length xs → drop end (take end xs) ≡ []
front-rest xs end long = drop_all end (take end xs) (omega (arith, length-take-le end xs long))

-- a front of which so many bytes were copied down
pub front-copied : (xs : List ℕ) (n m end : ℕ) → n + m ≤ end → end ≤ length xs → take m (copy_within xs n end 0) ≡ drop n (take (n + m) xs)
front-copied xs n m end le long =
    take-append-le m (take (end - n) (drop n xs)) (drop (0 + (end - n)) xs)
    (omega (arith, length-take-le (end - n) (drop n xs) (omega (arith, length-drop n xs))))
    ∙ take-take m (end - n) (drop n xs) (omega arith)
    ∙ sym (drop-take n m xs)

-- bytes written after a front
pub front-grown : (xs bytes ys zs : List ℕ) (end : ℕ) → end ≤ length xs
    → take (end + length bytes) (take end xs ++ ((bytes ++ ys) ++ zs)) ≡ take end xs ++ bytes
front-grown xs bytes ys zs end long =
    let size : end + length bytes ≡ length (take end xs ++ bytes) = omega (arith, length-append (take end xs) bytes, length-take-le end xs long) in
    ap (take (end + length bytes)) (ap (λ (ws : List ℕ). take end xs ++ ws) (append_assoc bytes ys zs) ∙ sym (append_assoc (take end xs) bytes (ys ++ zs)))
    ∙ ap (λ (n : ℕ). take n ((take end xs ++ bytes) ++ (ys ++ zs))) size
    ∙ take-append_seam (take end xs ++ bytes) (ys ++ zs)

-- the front of a front stays when more is written
pub front-stays : (xs ys : List ℕ) (n end : ℕ) → n ≤ end → end ≤ length xs → take n (take end xs ++ ys) ≡ take n xs
front-stays xs ys n end le long = take-append-le n (take end xs) ys (omega (arith, length-take-le end xs long)) ∙ take-take n end xs le

-- what a vector has when bytes were written after a place in it
pub written : {Z : Type 0} (v : Vec ℕ Z) (xs out bytes : List ℕ) (end : ℕ) → xs ≡ v.items → end ≤ length xs → length bytes ≤ length xs - end
    → out ≡ bytes ++ drop (length bytes) (take (length xs - end) (drop end xs))
    → (with_items v (take end xs ++ (out ++ drop (length xs - end) (drop end xs)))).items
    ≡ take end xs ++ ((bytes ++ drop (length bytes) (take (length xs - end) (drop end xs))) ++ drop (length xs - end) (drop end xs))
written v xs out bytes end same long space is =
    let free : List ℕ = drop end xs in
    let rest : List ℕ = drop (length bytes) (take (length xs - end) free) in
    let beyond : List ℕ = drop (length xs - end) free in
    let ws : List ℕ = take end xs ++ ((bytes ++ rest) ++ beyond) in
    let size : length ws ≡ v.len = omega (
      arith,
      v.ok.0,
      ap length same,
      length-append (take end xs) ((bytes ++ rest) ++ beyond),
      length-append (bytes ++ rest) beyond,
      length-append bytes rest,
      length-take-le end xs long,
      length-drop end xs,
      length-drop (length bytes) (take (length xs - end) free),
      length-take-le (length xs - end) free (omega (arith, length-drop end xs)),
      length-drop (length xs - end) free,
    ) in
    ap (λ (o : List ℕ). (with_items v (take end xs ++ (o ++ beyond))).items) is ∙ with_items_is v ws size
