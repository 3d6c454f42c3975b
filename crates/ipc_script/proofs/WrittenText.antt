-- What a writer holds after a part of some text.
use Rattle.std.proofs.Common.{◌≡◌, ℕ, ◌-◌, List, [], ◌++◌, length, take, drop, Option, refl, sym, ap, ◌∙◌, append_assoc}
use Rattle.std.proofs.lemmas.List.{take-append-drop, take_rest}
use Rattle.std.proofs.KnownBytes.{Appends-nil, Appends-trans}
use Rattle.std.specs.Io.KnownBytes.{Appends}
use Rattle.ipc_script.specs.Script.{WritesPart, WritesMore}

-- one piece more of the bytes is written
pub wrote_more : (a b c : Option (List ℕ)) (done rest bytes : List ℕ) (n : ℕ) → done ++ rest ≡ bytes → Appends a b done → Appends b c (take n rest)
    → (x : List ℕ) × (x ++ take (length rest - n) (drop n rest) ≡ bytes) × Appends a c x
wrote_more a b c done rest bytes n e before piece = (
  done ++ take n rest,
  ap (λ (ys : List ℕ). (done ++ take n rest) ++ ys) (take_rest rest n)
      ∙ (append_assoc done (take n rest) (drop n rest) ∙ (ap (λ (ys : List ℕ). done ++ ys) (take-append-drop n rest) ∙ e)),
  Appends-trans a b c done (take n rest) before piece,
)

-- ---- a beginning of a text

-- nothing of it
pub part_none : (w : Option (List ℕ)) (text : List ℕ) → WritesPart w w text
part_none w text = ([], text, refl, Appends-nil w)

-- a text, and then a beginning of another
pub part_after : (a b c : Option (List ℕ)) (text more : List ℕ) → Appends a b text → WritesPart b c more → WritesPart a c (text ++ more)
part_after a b c text more before part = (
  text ++ part.0,
  part.1,
  ap (λ (ys : List ℕ). text ++ ys) part.2 ∙ sym (append_assoc text part.0 part.1),
  Appends-trans a b c text part.0 before part.3,
)

-- what follows a text changes nothing
pub part_more : (a b : Option (List ℕ)) (text more : List ℕ) → WritesPart a b text → WritesPart a b (text ++ more)
part_more a b text more part =
    (part.0, part.1 ++ more, ap (λ (ys : List ℕ). ys ++ more) part.2 ∙ append_assoc part.0 part.1 more, part.3)

-- ---- nothing is taken back

pub grown_none : (w : Option (List ℕ)) → WritesMore w w []
grown_none w = ([], Appends-nil w)

pub grown_more : (a b c : Option (List ℕ)) → WritesMore a b [] → WritesMore b c [] → WritesMore a c []
grown_more a b c first next = (first.0 ++ next.0, Appends-trans a b c first.0 next.0 first.1 next.1)

pub grown_by : (a b : Option (List ℕ)) (text : List ℕ) → Appends a b text → WritesMore a b []
grown_by a b text is = (text, is)

pub grown_part : (a b : Option (List ℕ)) (text : List ℕ) → WritesPart a b text → WritesMore a b []
grown_part a b text part = (part.0, part.3)
