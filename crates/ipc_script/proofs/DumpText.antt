-- The text of a listing, as the formats of its line write it.
use Rattle.std.proofs.Common.{◌≡◌, ◌<◌, ℕ, ℤ, pos, negsuc, ◌+◌, ◌-◌, ◌^◌, zero, suc, Bool, true, false, List, [], ◌∷◌, ◌++◌, length, replicate, take, drop}
use Rattle.std.proofs.Common.{get_or, map, Bor, Option, refl, sym, ap, ◌∙◌, subst, append-nil, append_assoc, arith}
use Rattle.std.proofs.KnownBytes.{Appends-trans}
use Rattle.std.proofs.lemmas.Grind.{flat_map-append}
use Rattle.std.proofs.lemmas.List.{take-append-drop, take_more, drop_more, flat_map_more}
use Rattle.std.specs.Io.KnownBytes.{Appends}
use Rattle.ipc_engine.specs.declared.listing.Row.{Row}
use Rattle.ipc_engine.specs.Listing.{plain_row}
use Rattle.std.proofs.lemmas.Bool.Decides.{nat_tests}
use Rattle.std.specs.List.{repeat, flat_map}
use Rattle.std.specs.Fmt.{decimal, signed_decimal, digits, padded_integral, format_spec, sign_text, char_count}
use Rattle.std.specs.Char.{encode_utf8}
use Rattle.std.specs.Int.{is_negative}
use Rattle.std.specs.Prelude.{unsigned_abs}
use Rattle.ipc_script.specs.Dump.{right_in, digits_in, row_line, dump_text}
use Rattle.ipc_script.specs.Script.{WritesPart}
use Rattle.ipc_script.proofs.WrittenText.{part_after, part_more}

-- one byte again and again
repeat_one : (n b : ℕ) → repeat n (b ∷ []) ≡ replicate n b
repeat_one zero b = refl
repeat_one (suc n) b = ap (λ (bs : List ℕ). b ∷ bs) (repeat_one n b)

-- a number of which nothing stands after the digits
filled : (p q : ℕ) (sign ds : List ℕ) → p ≡ q → (repeat p (32 ∷ []) ++ sign ++ [] ++ []) ++ (ds ++ repeat (p - p) (32 ∷ [])) ≡ replicate q 32 ++ (sign ++ ds)
filled p q sign ds is =
    let none : p - p ≡ 0 = omega arith in
    let filling : List ℕ = replicate q 32 ++ sign in
    rw (none, is, repeat_one q 32, append-nil filling, append-nil filling, append-nil ds) (append_assoc (replicate q 32) sign ds)

-- what `{:>W}` writes of an integer
pub right_padded : (width : ℕ) (negative : Bool) (ds : List ℕ)
    → padded_integral (format_spec 32 3 0 width (2 ^ 64 - 1)) negative [] ds ≡ right_in width (sign_text negative ++ ds)
unfolding padded_integral char_count encode_utf8
right_padded width false ds = filled _ (width - length ds) [] ds (omega arith)
right_padded width true ds = filled _ (width - length (45 ∷ ds)) (45 ∷ []) ds (omega arith)

positive : (n : ℕ) → is_negative (pos n) ≡ false
positive n = grind (arith, nat_tests)

-- what `{:>W}` writes of a signed integer
pub right_signed : (width : ℕ) (z : ℤ)
    → padded_integral (format_spec 32 3 0 width (2 ^ 64 - 1)) (is_negative z) [] (decimal (unsigned_abs z)) ≡ right_in width (signed_decimal z)
right_signed width (pos n) = rw (positive n) (right_padded width false (decimal n))
right_signed width (negsuc n) = right_padded width true (decimal (suc n))

-- what `{:0Wo}` and `{:0Wx}` write, and the like
pub zero_padded : (base width number : ℕ)
    → padded_integral (format_spec 32 0 4 width (2 ^ 64 - 1)) false [] (digits base false number)
    ≡ digits_in base width number
unfolding padded_integral char_count
zero_padded base width number =
    let text : List ℕ = digits base false number in
    let short : width - length text - 0 - 0 ≡ width - length text = omega arith in
    rw (short, append-nil text) refl

-- ---- the lines of a listing

-- a row of the machine, whose name lies there
abbrev pub Listed : Type 0
Listed = Row (Bor (List ℕ))

abbrev pub line_text : Listed → List ℕ
line_text row = row_line (plain_row row)

abbrev pub lines_text : List Listed → List ℕ
lines_text rows = flat_map line_text rows

pub lines-plain : (rows : List Listed) → lines_text rows ≡ dump_text (map plain_row rows)
lines-plain [] = refl
lines-plain (row ∷ rows) = ap (λ (l : List ℕ). line_text row ++ l) (lines-plain rows)

-- some of them are written
pub listed_some : (rows : List Listed) (i : ℕ) (w0 w1 : Option (List ℕ))
    → Appends w0 w1 (lines_text (take i rows)) → WritesPart w0 w1 (lines_text rows)
listed_some rows i w0 w1 before = (
  lines_text (take i rows),
  lines_text (drop i rows),
  ap lines_text (sym (take-append-drop i rows)) ∙ flat_map-append line_text (take i rows) (drop i rows),
  before,
)

module _ (rows : List Listed) (i : ℕ) (d : Listed) (inside : i < length rows) (w0 w1 w2 : Option (List ℕ))
    (before : Appends w0 w1 (lines_text (take i rows))) where
  -- at this place
  listed : lines_text rows ≡ lines_text (take i rows) ++ (line_text (get_or rows i d) ++ lines_text (drop (i + 1) rows))
  listed =
      ap lines_text (sym (take-append-drop i rows)) ∙ (flat_map-append line_text (take i rows) (drop i rows)
      ∙ ap (λ (rest : List Listed). lines_text (take i rows) ++ lines_text rest) (drop_more rows i d inside))

  -- a beginning of the next line is written
  pub listed_part : WritesPart w1 w2 (line_text (get_or rows i d)) → WritesPart w0 w2 (lines_text rows)
  listed_part part =
      let line : List ℕ = line_text (get_or rows i d) in
      let rest : List ℕ = lines_text (drop (i + 1) rows) in
      subst (WritesPart w0 w2) (sym listed)
      (part_after w0 w1 w2 (lines_text (take i rows)) (line ++ rest) before (part_more w1 w2 line rest part))

  -- the next line is written
  pub listed_more : Appends w1 w2 (line_text (get_or rows i d)) → Appends w0 w2 (lines_text (take (i + 1) rows))
  listed_more line =
      subst (Appends w0 w2)
      (flat_map_more line_text [] (take i rows) (get_or rows i d) ∙ ap lines_text (sym (take_more rows i d inside)))
      (Appends-trans w0 w1 w2 (lines_text (take i rows)) (line_text (get_or rows i d)) before line)
