-- The tests of the form, and then of what the limits name.
use Rattle.std.proofs.Common.{◌≡◌, ◌∙◌, ◌&&◌, Bool, false, true, nat_eq, ℕ, None, ap, sym, refl, arith}
use Rattle.std.proofs.lemmas.Bool.Decides.{nat_tests}
use Rattle.ipc_limits.specs.declared.limits.Limits.{Limits}
use Rattle.ipc_image.specs.declared.format.Format.{Format}
use Rattle.ipc_image.specs.Format.{device_form}
use Rattle.ipc_image.specs.Sizes.{first_fault}
use Rattle.ipc_store.specs.Image.{names_form, or_version, own_fault}
use Rattle.ipc_store.proofs.copying.own_need.Goals as goal

-- where no test of the form fails
own : (form : Format) (limits : Limits) (names : Bool) → form ≡ device_form limits → first_fault form limits ≡ None → names ≡ names_form form limits
    → own_fault limits ≡ or_version None names
own form limits names is none same =
    ap (λ (f : Format). or_version (first_fault f limits) (names_form f limits)) (sym is)
    ∙ (λ i. or_version (none i) (sym same i))

-- the tests of a form that limits name
names : (form : Format) (limits : Limits) → names_form form limits ≡ true → (limits.version ≡ form.version) × (limits.journal ≡ form.journal)
names form limits is =
    both (nat_eq limits.version form.version) (nat_eq limits.journal form.journal) (same limits.version form.version) (same limits.journal form.journal) is
  where
    same : (n m : ℕ) → nat_eq n m ≡ true → n ≡ m
    same n m e = grind (arith, nat_tests)

    never : false ≡ true → ⊥
    never is = cc

    both : {A B : Type 0} (x y : Bool) → (x ≡ true → A) → (y ≡ true → B) → (x && y) ≡ true → A × B
    both true true a b is = (a refl, b refl)
    both true false a b is = absurd (never is)
    both false y a b is = absurd (never is)

pub returns-then-not-names_form-clause-fault : goal.returns-then-not-names_form-clause-fault
returns-then-not-names_form-clause-fault c =
    own c.args.form c.args.limits.now false c.requires.own c.in_ok-need.ensures.none
    (sym c.if-not-names_form.true ∙ c.names_form.ensures)

pub returns-clause-none : goal.returns-clause-none
returns-clause-none c =
    own c.args.form c.args.limits.now true c.requires.own c.in_ok-need.ensures.none
    (sym c.if-not-names_form.false ∙ c.names_form.ensures)

pub returns-clause-of : goal.returns-clause-of
returns-clause-of c =
    let are = names c.args.form c.args.limits.now (sym c.names_form.ensures ∙ c.if-not-names_form.false) in
    c.in_ok-need.ensures.of are.0 are.1
