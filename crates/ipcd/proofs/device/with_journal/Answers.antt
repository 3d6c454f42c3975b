-- Limits of version 3, whatever its journal.
use Rattle.std.proofs.Common.{◌≡◌, ◌≤◌, ◌∙◌, ⊎_elim, ℕ, ap, refl, sym, subst, arith}
use Rattle.ipc_limits.specs.declared.limits.Limits.{Limits}
use Rattle.ipc_limits.specs.Limits.{small_of_three, standard_of_three, AreWithin}
use Rattle.ipc_image.specs.declared.format.Format.{Format}
use Rattle.ipc_image.specs.Format.{device_form, format_three, nearest_journal, opened_form, IsJournal}
use Rattle.ipc_image.specs.Sizes.{area_in, most_area}
use Rattle.ipc_image.specs.Superblock.{AreOf}
use Rattle.ipc_image.proofs.CallerLemmas.{are-of, of-opened, three-known, three-opened}
use Rattle.ipcd.proofs.device.with_journal.Goals as goal

abbrev with : Limits → ℕ → Limits
with base n = record base { journal = n }

-- the limits with the journal of their form are of this form
own : (base : Limits) → base.version ≡ 3 → ((n : ℕ) → AreWithin standard_of_three (with base n))
    → ((n : ℕ) → area_in (format_three n) (with base n) ≤ most_area)
    → (journal : ℕ) (form : Format) → form ≡ device_form (with base journal) → AreOf (device_form (with base form.journal)) (with base form.journal)
unfolding device_form
own base version within area journal form is =
    let n : ℕ = nearest_journal journal in
    let its : IsJournal n = (omega arith, omega arith) in
    let same : form ≡ format_three n = is ∙ ap (λ (v : ℕ). opened_form v journal) version in
    let of : AreOf (format_three n) (with base n) = are-of (format_three n) (three-known n its) (with base n) version refl (within n) (area n) in
    let named : device_form (with base n) ≡ format_three n = of-opened (format_three n) (with base n) (three-opened n its) of in
    subst (λ (k : ℕ). AreOf (device_form (with base k)) (with base k)) (sym (ap (λ (f : Format). f.journal) same))
    (subst (λ (f : Format). AreOf f (with base n)) (sym named) of)

pub returns : goal.returns
returns c =
    ⊎_elim
    (λ is. subst IsOwn (sym is) (own small_of_three refl (λ n. refl) (λ n. omega arith) c.args.journal))
    (λ is. subst IsOwn (sym is) (own standard_of_three refl (λ n. refl) (λ n. omega arith) c.args.journal))
    c.requires c.of-form.result c.of-form.ensures.is
  where
    IsOwn : Limits → Type 0
    IsOwn base =
        (form : Format) → form ≡ device_form (with base c.args.journal) → AreOf (device_form (with base form.journal)) (with base form.journal)
