-- What a list of operations demands, by its operations one by one.
use Rattle.std.proofs.Common.{◌≡◌, ◌∙◌, ℕ, ◌+◌, Bool, true, false, not, ◌&&◌, ◌||◌, List, [], ◌∷◌, nat_lt, refl, ap, arith}
use Rattle.std.specs.Prelude.{max, nat_le}
use Rattle.std.specs.List.{fold, list_all, list_any}
use Rattle.ipc_wire.specs.declared.sem_bufs.SemBuf.{SemBuf}
use Rattle.sysv_sem.specs.Operation.{is_patient}
use Rattle.ipc_state.specs.declared.operations.Demands.{Demands}
use Rattle.ipc_state.specs.Demands.{demanding, demands_of, is_read, no_demands, operation_of}

one-more : (a num nsems : ℕ) → nat_le (max a (num + 1)) nsems ≡ (nat_le a nsems && nat_lt num nsems)
one-more a num nsems = grind arith

none : (nsems : ℕ) → nat_le 0 nsems ≡ true
none nsems = grind arith

and-both : (a b c : Bool) → ((a && b) && c) ≡ (a && (b && c))
and-both true b c = refl
and-both false b c = refl

and-all : (b : Bool) → b ≡ (b && true)
and-all true = refl
and-all false = refl

or-either : (a b c : Bool) → ((a || b) || c) ≡ (a || (b || c))
or-either true b c = refl
or-either false b c = refl

within-from : (nsems : ℕ) (d : Demands) (os : List SemBuf)
    → nat_le (fold demanding d os).semaphores nsems ≡ (nat_le d.semaphores nsems && list_all (λ o. nat_lt o.num nsems) os)
within-from nsems d [] = and-all (nat_le d.semaphores nsems)
within-from nsems d (o ∷ os) =
    within-from nsems (demanding d o) os
    ∙ ap (λ (b : Bool). b && list_all (λ (p : SemBuf). nat_lt p.num nsems) os) (one-more d.semaphores o.num nsems)
    ∙ and-both (nat_le d.semaphores nsems) (nat_lt o.num nsems) (list_all (λ (p : SemBuf). nat_lt p.num nsems) os)

-- as many semaphores as are demanded have all that are named
pub all-within : (nsems : ℕ) (os : List SemBuf) → nat_le (demands_of os).semaphores nsems ≡ list_all (λ o. nat_lt o.num nsems) os
all-within nsems os =
    within-from nsems no_demands os
    ∙ ap (λ (b : Bool). b && list_all (λ (o : SemBuf). nat_lt o.num nsems) os) (none nsems)

or-none : (b : Bool) → b ≡ (b || false)
or-none true = refl
or-none false = refl

-- one that reads, and one that alters
pub some-read : (d : Demands) (os : List SemBuf) → (fold demanding d os).reads ≡ (d.reads || list_any is_read os)
some-read d [] = or-none d.reads
some-read d (o ∷ os) = some-read (demanding d o) os ∙ or-either d.reads (is_read o) (list_any is_read os)

pub some-alter : (d : Demands) (os : List SemBuf) → (fold demanding d os).alters ≡ (d.alters || list_any (λ o. not (is_read o)) os)
some-alter d [] = or-none d.alters
some-alter d (o ∷ os) =
    some-alter (demanding d o) os ∙ or-either d.alters (not (is_read o)) (list_any (λ (p : SemBuf). not (is_read p)) os)

-- one that is not patient
pub all-patient : (d : Demands) (os : List SemBuf) → (fold demanding d os).patient ≡ (d.patient && list_all (λ o. is_patient (operation_of o)) os)
all-patient d [] = and-all d.patient
all-patient d (o ∷ os) =
    all-patient (demanding d o) os ∙ and-both d.patient (is_patient (operation_of o)) (list_all (λ (p : SemBuf). is_patient (operation_of p)) os)
