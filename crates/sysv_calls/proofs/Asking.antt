-- The access that a list of operations asks for, by its operations one by one.
use Rattle.std.proofs.Common.{◌≡◌, ◌∙◌, ℕ, pos, Bool, true, false, not, ◌&&◌, ◌||◌, cond, List, [], ◌∷◌, map, refl, ap}
use Rattle.std.specs.List.{list_all, list_any}
use Rattle.std.specs.Ordering.{int_eq}
use Rattle.std.proofs.lemmas.List.Folds.{list_all-map}
use Rattle.ipc_wire.specs.declared.sem_bufs.SemBuf.{SemBuf}
use Rattle.sysv_sem.specs.declared.operation.Operation.{Operation}
use Rattle.sysv_calls.specs.Access.{read, write}
use Rattle.sysv_calls.specs.Semop.{asked, operation_of}

abbrev is_zero : SemBuf → Bool
is_zero o = int_eq o.op (pos 0)

-- one that reads may, and one that writes
abbrev pub allowed : Bool → Bool → Bool → Bool → Bool
allowed r reads w alters = (r || not reads) && (w || not alters)

one-more : (z reads alters r w : Bool) → (cond z r w && allowed r reads w alters) ≡ allowed r (z || reads) w (not z || alters)
one-more true reads alters true w = refl
one-more true reads alters false w = refl
one-more false reads alters r true = refl
one-more false reads alters true false = refl
one-more false true alters false false = refl
one-more false false alters false false = refl

asked-each : (may : ℕ → Bool) (os : List SemBuf) → list_all (λ o. may (asked (operation_of o))) os
    ≡ allowed (may read) (list_any is_zero os) (may write) (list_any (λ o. not (is_zero o)) os)
asked-each may [] = by_may (may read) (may write)
  where
    by_may : (r w : Bool) → true ≡ allowed r false w false
    by_may true true = refl
    by_may true false = refl
    by_may false true = refl
    by_may false false = refl
asked-each may (o ∷ os) =
    ap (λ (b : Bool). may (asked (operation_of o)) && b) (asked-each may os)
    ∙ ap (λ (b : Bool). b && allowed (may read) (list_any is_zero os) (may write) (list_any (λ p. not (is_zero p)) os)) (by_zero (is_zero o))
    ∙ one-more (is_zero o) (list_any is_zero os) (list_any (λ p. not (is_zero p)) os) (may read) (may write)
  where
    by_zero : (z : Bool) → may (cond z read write) ≡ cond z (may read) (may write)
    by_zero true = refl
    by_zero false = refl

-- so each is allowed if all that read are, and all that write
pub asked-all : (may : ℕ → Bool) (os : List SemBuf) → list_all (λ o. may (asked o)) (map operation_of os)
    ≡ allowed (may read) (list_any is_zero os) (may write) (list_any (λ o. not (is_zero o)) os)
asked-all may os = list_all-map (λ (o : Operation). may (asked o)) operation_of os ∙ asked-each may os
