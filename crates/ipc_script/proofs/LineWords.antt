-- The line of a text from its words.
use Rattle.std.proofs.Common.{◌≡◌, ℕ, List, [], ◌∷◌, Bool, true, false, cond, ◌==◌, Option, Some, None, refl, ap, ◌∙◌}
use Rattle.std.specs.Borrow.{Bor}
use Rattle.std.specs.List.{slice_split, onto_first}
use Rattle.ipc_script.specs.Line.{line_of, line_of_words, words_of}
use Rattle.ipc_script.specs.Relations.Lines.{words_after}

-- a word and no more
pub last_word : (text first : List ℕ) (rest : Option (Bor (List ℕ))) → words_of text ≡ first ∷ words_after rest → rest ≡ None → words_of text ≡ first ∷ []
last_word text first rest h e = h ∙ ap (λ o. first ∷ words_after o) e

-- a word, and what the rest has
pub next_word : (text first : List ℕ) (rest : Option (Bor (List ℕ))) (beyond : Bor (List ℕ)) (words : List (List ℕ))
    → words_of text ≡ first ∷ words_after rest → rest ≡ Some beyond → words_of beyond.now ≡ words → words_of text ≡ first ∷ words
next_word text first rest beyond words h e f = h ∙ ap (λ o. first ∷ words_after o) e ∙ ap (λ ws. first ∷ ws) f

pub from_words : (text : List ℕ) (words : List (List ℕ)) → words_of text ≡ words → line_of text ≡ line_of_words words
unfolding line_of
from_words text words h = ap line_of_words h

-- ---- more than four words

-- a part goes onto the first or is a new one, so there is one
some_onto : (b : ℕ) (parts : List (List ℕ)) → (w : List ℕ) × (ws : List (List ℕ)) × (onto_first b parts ≡ w ∷ ws)
some_onto b [] = (b ∷ [], [], refl)
some_onto b (part ∷ parts) = (b ∷ part, parts, refl)

some_cond : (t : Bool) (b : ℕ) (parts : List (List ℕ)) → (w : List ℕ) × (ws : List (List ℕ)) × (cond t ([] ∷ parts) (onto_first b parts) ≡ w ∷ ws)
some_cond true b parts = ([], parts, refl)
some_cond false b parts = some_onto b parts

pub some_word : (text : List ℕ) → (w : List ℕ) × (ws : List (List ℕ)) × (words_of text ≡ w ∷ ws)
unfolding words_of
some_word [] = ([], [], refl)
some_word (b ∷ text) = some_cond (b == 32) b (slice_split (λ c. c == 32) text)
