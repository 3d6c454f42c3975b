-- A device of the last form, with that journal, under limits of it.
use Rattle.std.proofs.Common.{◌≡◌, ◌⊎◌, ◌<◌, ◌↔◌, ◌∙◌, None, Some, OnOk, IsErrOf, ap, subst}
use Rattle.ipc_limits.specs.declared.limits.Limits.{Limits}
use Rattle.ipc_disk.specs.Medium.{Image, IsHonest}
use Rattle.ipc_disk.specs.Since.{EachImageSince}
use Rattle.ipc_state.specs.State.{start}
use Rattle.ipc_image.specs.declared.format.Format.{Format}
use Rattle.ipc_image.specs.Format.{format_three}
use Rattle.ipc_image.specs.Sizes.{first_fault, need_in}
use Rattle.ipc_store.specs.Image.{as_of, StandsFor, IsNotFormatted}
use Rattle.ipc_store.specs.declared.fault.FormatError.TheVariants as errors
use Rattle.ipc_store.proofs.store.Store.format_large.Given.{Over}
use Rattle.ipc_store.proofs.store.Store.format_large.Goals as goal
use Rattle.ipc_store.proofs.store.Store.format_large.Goals.{After-format_as}

own : (g : Over) (c : After-format_as g) → c.as_of.result ≡ as_of (format_three c.args.journal) c.args.limits.now
own g c = c.as_of.ensures ∙ ap (λ (f : Format). as_of f c.args.limits.now) c.three-form.ensures.is

pub returns-clause-ok : goal.returns-clause-ok
returns-clause-ok g c =
    subst (λ (l : Limits). OnOk c.format_as.result (IsHonest (g.D.SectorDisk.medium c.args.disk.now) → (image : Image)
    → (g.D.SectorDisk.medium c.format_as.new.disk).images_now image → StandsFor l start image))
    (own g (goal.at.returns-clause-ok g c).After-format_as) c.format_as.ensures.ok

pub returns-clause-any_moment : goal.returns-clause-any_moment
returns-clause-any_moment g c =
    subst (λ (l : Limits). IsHonest (g.D.SectorDisk.medium c.args.disk.now)
    → EachImageSince (g.D.SectorDisk.medium c.args.disk.now) (g.D.SectorDisk.medium c.format_as.new.disk)
    (λ image. (g.D.SectorDisk.medium c.args.disk.now).images_now image ⊎ IsNotFormatted image ⊎ StandsFor l start image))
    (own g (goal.at.returns-clause-any_moment g c).After-format_as) c.format_as.ensures.any_moment

pub returns-clause-limits : goal.returns-clause-limits
returns-clause-limits g c = λ field.
    let refuses = IsErrOf c.format_as.result (errors.BadLimits (record { field = field })) in
    subst (λ (l : Limits). refuses ↔ (first_fault (format_three c.args.journal) l ≡ Some field))
    (own g (goal.at.returns-clause-limits g c).After-format_as)
    (subst (λ (f : Format). refuses ↔ (first_fault f c.as_of.result ≡ Some field)) c.three-form.ensures.is (c.format_as.ensures.limits field))

pub returns-clause-small : goal.returns-clause-small
returns-clause-small g c = λ need.
    let refuses = IsErrOf c.format_as.result (errors.TooSmall need) in
    let size = g.D.SectorDisk.size c.args.disk.now in
    subst (λ (l : Limits). refuses ↔ ((first_fault (format_three c.args.journal) l ≡ None) × (need ≡ need_in (format_three c.args.journal) l) × (size < need)))
    (own g (goal.at.returns-clause-small g c).After-format_as)
    (subst (λ (f : Format). refuses ↔ ((first_fault f c.as_of.result ≡ None) × (need ≡ need_in f c.as_of.result) × (size < need)))
    c.three-form.ensures.is (c.format_as.ensures.small need))
