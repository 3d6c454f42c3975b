-- The objects are those of the machine, and so are the limits.
use Rattle.std.proofs.Common.{◌≡◌, ◌⊎◌, refl, sym, subst, inl, inr}
use Rattle.std.proofs.lemmas.Result.{err_from_is_err_and}
use Rattle.ipc_base.specs.Objects.{Fit, PlainObjects}
use Rattle.ipc_limits.specs.declared.limits.Limits.{Limits}
use Rattle.ipc_disk.specs.Medium.{Medium}
use Rattle.ipc_disk.proofs.CallerLemmas.{EachImageSince-start}
use Rattle.ipc_disk.specs.Since.{EachImageSince}
use Rattle.ipc_state.specs.State.{State}
use Rattle.ipc_image.specs.declared.format.Format.{Format}
use Rattle.ipc_image.specs.Format.{device_form}
use Rattle.ipc_image.specs.Saved.{saved_in, StandForStateIn}
use Rattle.ipc_image.specs.Sizes.{area_in}
use Rattle.ipc_image.specs.Superblock.{AreOf}
use Rattle.ipc_store.specs.Image.{StandsFor, IsNotFormatted}
use Rattle.ipc_store.proofs.store.Store.copy_onto.Goals as goal

-- what stands for the state under the machine's limits does so under those that are given
stands : (form : Format) (limits own : Limits) (s : State) (objects : PlainObjects) → form ≡ device_form own → limits ≡ own
    → objects ≡ saved_in form s → StandForStateIn form own s (saved_in form s) → StandForStateIn (device_form limits) limits s objects
stands form limits own s objects is same are stand = rw (same, are, sym is) stand

-- images under the given limits are so under the machine's
images : (limits own : Limits) (s : State) (old new : Medium) → limits ≡ own
    → EachImageSince old new (λ image. old.images_now image ⊎ IsNotFormatted image ⊎ StandsFor limits s image)
    → EachImageSince old new (λ image. old.images_now image ⊎ IsNotFormatted image ⊎ StandsFor own s image)
images limits own s old new same run =
    subst (λ (l : Limits). EachImageSince old new (λ image. old.images_now image ⊎ IsNotFormatted image ⊎ StandsFor l s image)) same run

pub returns-in_err-need-clause-any_moment : goal.returns-in_err-need-clause-any_moment
returns-in_err-need-clause-any_moment g c = λ honest. EachImageSince-start _ _ (g.met.D.SectorDisk.only_now _) (λ image now. inl now)

pub returns-then-sectors-need-clause-any_moment : goal.returns-then-sectors-need-clause-any_moment
returns-then-sectors-need-clause-any_moment g c = λ honest. EachImageSince-start _ _ (g.met.D.SectorDisk.only_now _) (λ image now. inl now)

-- the objects of the machine fit under its limits, in the form that these name
fits : (form : Format) (limits own : Limits) (s : State) (objects : PlainObjects) → form ≡ device_form own → limits ≡ own
    → objects ≡ saved_in form s → AreOf form limits → (AreOf form own → Fit (area_in form own) (saved_in form s))
    → Fit (area_in (device_form limits) limits) objects
fits form limits own s objects is same are of fit = rw (are, same, sym is) (fit (subst (AreOf form) same of))

pub make-requires-clause-fits : goal.make-requires-clause-fits
make-requires-clause-fits g c =
    fits _ _ _ _ _ c.form_of-form.ensures.is c.limits-limits.ensures.limits c.objects_of.ensures.objects c.in_ok-need.ensures.of c.objects_of.ensures.fit

pub returns-in_err-make-clause-any_moment : goal.returns-in_err-make-clause-any_moment
returns-in_err-make-clause-any_moment g c = λ honest.
    images _ _ _ _ _ c.limits-limits.ensures.limits (c.in_err-make.ensures.any_moment c.args.engine.now.state
    (stands _ _ _ _ _ c.form_of-form.ensures.is c.limits-limits.ensures.limits c.objects_of.ensures.objects c.objects_of.ensures.stand) honest)

pub returns-in_err-make-clause-counts : goal.returns-in_err-make-clause-counts
returns-in_err-make-clause-counts g c =
    let q = err_from_is_err_and c.from_residual-in_err-make.result c.from_residual-in_err-make.ensures.1 in
    record { failure = λ is. c.in_err-make.ensures.counts.err; no_failure = inl (rw (q.1, q.2) refl) }

pub returns-clause-ok : goal.returns-clause-ok
returns-clause-ok g c = λ honest image now.
    subst (λ (l : Limits). StandsFor l c.args.engine.now.state image) c.limits-limits.ensures.limits
    (c.in_ok-make.ensures.ok c.args.engine.now.state
    (stands _ _ _ _ _ c.form_of-form.ensures.is c.limits-limits.ensures.limits c.objects_of.ensures.objects c.objects_of.ensures.stand) honest image now)

pub returns-clause-any_moment : goal.returns-clause-any_moment
returns-clause-any_moment g c = λ honest.
    images _ _ _ _ _ c.limits-limits.ensures.limits (c.in_ok-make.ensures.any_moment c.args.engine.now.state
    (stands _ _ _ _ _ c.form_of-form.ensures.is c.limits-limits.ensures.limits c.objects_of.ensures.objects c.objects_of.ensures.stand) honest)

pub returns-clause-counts : goal.returns-clause-counts
returns-clause-counts g c = record { failure = λ is. cc; no_failure = inr c.in_ok-make.ensures.counts.ok }
