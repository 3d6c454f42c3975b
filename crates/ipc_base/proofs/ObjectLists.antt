-- Objects by rising number, and one more after them.
use Rattle.std.specs.Prelude.{ℕ, ◌+◌, ◌^◌, ◌<◌, List, [], ◌∷◌, ◌++◌, length}
use Rattle.std.proofs.Common.{subst, sym, arith}
use Rattle.std.proofs.lemmas.List.Elements.{All-append}
use Rattle.std.proofs.lemmas.List.{length-append, map-append}
use Rattle.ipc_base.specs.Objects.{PlainObjects, AreObjects}
use Rattle.ipc_base.specs.Table.{keys_of, IsRising}
use Rattle.ipc_base.proofs.CallerLemmas.{rising-weaker, rising-push}

-- one more
pub AreObjects-push : (objects : PlainObjects) (number : ℕ) (bytes : List ℕ) → AreObjects objects
    → IsRising 0 (keys_of objects) number → number < 2 ^ 64 → 0 < length bytes → length bytes < 2 ^ 64
    → length objects + 1 < 2 ^ 32 → AreObjects (objects ++ (number, bytes) ∷ [])
AreObjects-push objects number bytes are rising fits some short few = record {
  numbers = subst (λ (ks : List ℕ). IsRising 0 ks (2 ^ 64))
      (sym (map-append (λ (o : ℕ × List ℕ). o.0) objects ((number, bytes) ∷ [])))
      (rising-weaker 0 (keys_of objects ++ number ∷ []) (number + 1) (2 ^ 64) (omega (arith, fits))
      (rising-push 0 (keys_of objects) number rising));
  some = All-append (λ (o : ℕ × List ℕ). 0 < length o.1) objects ((number, bytes) ∷ []) are.some (search (arith, some));
  lengths = All-append (λ (o : ℕ × List ℕ). length o.1 < 2 ^ 64) objects ((number, bytes) ∷ []) are.lengths (search (arith, short));
  count = omega (arith, length-append objects ((number, bytes) ∷ []), few);
}
