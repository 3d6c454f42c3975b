-- What holds of each form of a device holds of any, and what holds of those that are opened of any of these.
use Rattle.std.proofs.Common.{◌≡◌, ◌∙◌, ℕ, true, false, nat_eq, inl, inr, refl, sym, ap, subst, arith}
use Rattle.std.specs.Prelude.{if◌then◌else◌}
use Rattle.ipc_image.specs.declared.format.Format.{Format}
use Rattle.ipc_image.specs.Format.{IsFormat, IsJournal, IsOpened, format, format_one, format_three, nearest_journal, opened_form}

pub by-opened : (P : Format → Type 0) → P format → ((journal : ℕ) → IsJournal journal → P (format_three journal)) → (form : Format) → IsOpened form
    → P form
by-opened P last three form opened =
    elim opened [
      | inl is ↦ subst P (sym is) last
      | inr its ↦ subst P (sym its.2) (three its.0 its.1)
    ]

pub by-form : (P : Format → Type 0) → P format_one → P format → ((journal : ℕ) → IsJournal journal → P (format_three journal)) → (form : Format)
    → IsFormat form → P form
by-form P one last three form known =
    elim known [
      | inl is ↦ subst P (sym is) one
      | inr opened ↦ by-opened P last three form opened
    ]

-- a version and a journal name a form that is opened
pub opened-by : (version journal : ℕ) → IsOpened (opened_form version journal)
opened-by version journal =
    elim (nat_eq version 3) as (λ three. IsOpened (if three then format_three (nearest_journal journal) else format)) [
      | true ↦ inr (nearest_journal journal, (omega arith, omega arith), refl)
      | false ↦ inl refl
    ]

-- it is the one that has them
near : (journal : ℕ) → IsJournal journal → nearest_journal journal ≡ journal
near journal its = omega (arith, its)

own : (form : Format) → IsOpened form → opened_form form.version form.journal ≡ form
own = by-opened (λ f. opened_form f.version f.journal ≡ f) refl (λ journal its. ap format_three (near journal its))

pub opened-is : (form : Format) → IsOpened form → (version journal : ℕ) → version ≡ form.version → journal ≡ form.journal
    → opened_form version journal ≡ form
opened-is form opened version journal same long = (λ i. opened_form (same i) (long i)) ∙ own form opened

-- and so is a form that is not opened
abbrev form_by : ℕ → ℕ → Format
form_by version journal = if nat_eq version 1 then format_one else opened_form version journal

own-by : (form : Format) → IsFormat form → form_by form.version form.journal ≡ form
own-by = by-form (λ f. form_by f.version f.journal ≡ f) refl refl (λ journal its. ap format_three (near journal its))

pub one-form : (form : Format) → IsFormat form → (other : Format) → IsFormat other → form.version ≡ other.version → form.journal ≡ other.journal
    → form ≡ other
one-form form known other also same long = sym (own-by form known) ∙ (λ i. form_by (same i) (long i)) ∙ own-by other also
