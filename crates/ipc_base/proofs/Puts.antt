-- Two fields put one after the other are one field.
use Rattle.std.proofs.Common.{◌≡◌, ℕ, suc, ◌+◌, ◌<◌, ◌≤◌, Bool, true, false, List, [], ◌++◌, length, take, drop, get_or, sym, ap, ◌∙◌, append_assoc, arith}
use Rattle.std.specs.List.{flat_map}
use Rattle.std.proofs.Math.Seq.{take-suc}
use Rattle.std.proofs.lemmas.List.{length-append, length-take-le, length-drop, take_at, drop_at, drop-drop, flat_map_more}
use Rattle.std.proofs.lemmas.List.Folds.{length-flat_map-take}
use Rattle.ipc_base.specs.Fields.{Puts}

pub puts_both : (a b : List ℕ) (at mid next : ℕ) (old between new : List ℕ) → Puts a at mid old between true → Puts b mid next between new true
    → Puts (a ++ b) at next old new true
puts_both a b at mid next old between new p q =
    let here : at + length a ≤ length old = p.0 in
    let mid-is : mid ≡ at + length a = p.1 in
    let kept : length (take at old) ≡ at = length-take-le at old (omega arith) in
    let front : length (take at old ++ a) ≡ mid = omega (arith, length-append (take at old) a) in
    let beyond : List ℕ = drop (at + length a) old in
    let whole : length between ≡ length old = ap length p.2 ∙ omega (
      arith,
      length-append (take at old ++ a) (drop (at + length a) old),
      length-drop
          (at + length a) old,
    ) in
    let both : length (a ++ b) ≡ length a + length b = length-append a b in
    let before : take mid between ≡ take at old ++ a = ap (take mid) p.2 ∙ take_at (take at old ++ a) beyond mid front in
    let after : drop mid between ≡ beyond = ap (drop mid) p.2 ∙ drop_at (take at old ++ a) beyond mid front in
    let end : at + length a + length b ≡ at + length (a ++ b) = omega arith in
    let last : drop (mid + length b) between ≡ drop (at + length (a ++ b)) old =
    sym (drop-drop (length b) mid between) ∙ ap (drop (length b)) after ∙ drop-drop (length b) (at + length a) old ∙ ap (λ (n : ℕ). drop n old) end in
    let fits : mid + length b ≤ length between = q.0 in
    let next-is : next ≡ mid + length b = q.1 in
    let joined : new ≡ ((take at old ++ a) ++ b) ++ drop (at + length (a ++ b)) old =
    q.2 ∙ ap (λ (x : List ℕ). (x ++ b) ++ drop (mid + length b) between) before ∙ ap (λ (x : List ℕ). ((take at old ++ a) ++ b) ++ x) last in
    (omega arith, omega arith, joined ∙ ap (λ (x : List ℕ). x ++ drop (at + length (a ++ b)) old) (append_assoc (take at old) a b))

-- a field that is put leaves the buffer as long as it was
pub puts_length : (field : List ℕ) (at next : ℕ) (old new : List ℕ) (written : Bool) → Puts field at next old new written → length new ≡ length old
puts_length field at next old new true p =
    let front = length-append (take at old ++ field) (drop (at + length field) old) in
    let kept : length (take at old) ≡ at = length-take-le at old (omega arith) in
    ap length p.2 ∙ omega (arith, front, length-append (take at old) field, length-drop (at + length field) old)
puts_length field at next old new false p = ap length p.2

-- where there is room, a field is put
pub puts_room : (field : List ℕ) (at next : ℕ) (old new : List ℕ) (written : Bool) → Puts field at next old new written → at + length field ≤ length old
    → Puts field at next old new true
puts_room field at next old new true p room = p
puts_room field at next old new false p room = absurd (omega arith)

-- a field put after one that was put, where there is room for both
pub puts_more : (a b : List ℕ) (at mid next : ℕ) (old between new : List ℕ) (written : Bool) → Puts a at mid old between true
    → Puts b mid next between new written → at + length (a ++ b) ≤ length old → Puts (a ++ b) at next old new true
puts_more a b at mid next old between new written p q room =
    let kept : length between ≡ length old = puts_length a at mid old between true p in
    let fits : mid + length b ≤ length between = omega (arith, p.1, kept, length-append a b) in
    puts_both a b at mid next old between new p (puts_room b mid next between new written q fits)

-- a field put after others is one more of them
pub puts_next : {X : Type 0} (spell : X → List ℕ) (xs : List X) (i at next : ℕ) (d : X) (old new : List ℕ) (written : Bool) → i < length xs
    → at ≡ length (flat_map spell (take i xs)) → take at old ≡ flat_map spell (take i xs) → length (flat_map spell xs) ≤ length old
    → Puts (spell (get_or xs i d)) at next old new written
    → (next ≡ length (flat_map spell (take (i + 1) xs))) × (take next new ≡ flat_map spell (take (i + 1) xs))
puts_next spell xs i at next d old new written inside place bytes most p =
    let one : List ℕ = spell (get_or xs i d) in
    let after : suc i ≡ i + 1 = omega arith in
    let q = puts_room one at next old new written p (omega (arith, length-flat_map-take spell xs i d inside)) in
    let more : flat_map spell (take i xs) ++ one ≡ flat_map spell (take (i + 1) xs) =
    flat_map_more spell [] (take i xs) (get_or xs i d) ∙ ap (flat_map spell) (sym (take-suc xs i d inside) ∙ ap (λ (n : ℕ). take n xs) after) in
    let kept : length (take at old) ≡ at = length-take-le at old (omega arith) in
    let front : length (take at old ++ one) ≡ next = omega (arith, length-append (take at old) one) in
    let whole : take next new ≡ take at old ++ one =
    ap (take next) q.2 ∙ take_at (take at old ++ one) (drop (at + length one) old) next front in
    let is : take next new ≡ flat_map spell (take (i + 1) xs) = whole ∙ ap (λ (x : List ℕ). x ++ one) bytes ∙ more in
    (omega (arith, length-append (flat_map spell (take i xs)) one, ap length more), is)
