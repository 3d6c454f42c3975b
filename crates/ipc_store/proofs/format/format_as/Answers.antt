-- The objects are those of the first state.
use Rattle.std.proofs.Common.{◌≡◌, ◌≤◌, ap, arith, ◌∙◌, refl, sym, subst, inl, inr}
use Rattle.std.proofs.lemmas.Option.{none-some}
use Rattle.std.proofs.lemmas.Result.{err_from_is_err_and}
use Rattle.ipc_base.specs.Objects.{PlainObjects}
use Rattle.ipc_limits.specs.declared.limits.Limits.{Limits}
use Rattle.ipc_state.specs.State.{start}
use Rattle.ipc_image.specs.declared.format.Format.{Format}
use Rattle.ipc_image.specs.Format.{device_form, IsOpened}
use Rattle.ipc_image.specs.Saved.{saved_in, StandForStateIn}
use Rattle.ipc_image.specs.Sizes.{need_in}
use Rattle.ipc_image.specs.Superblock.{AreOf}
use Rattle.ipc_image.proofs.CallerLemmas.{of-opened, start-stands}
use Rattle.ipc_store.specs.Image.{as_of}
use Rattle.ipc_store.proofs.format.format_as.Goals as goal

module _ (form : Format) (limits : Limits) (opened : IsOpened form) (own : limits ≡ as_of form limits)
    (of : limits.version ≡ form.version → limits.journal ≡ form.journal → AreOf form limits) where
  -- the limits are of the form
  are-of : AreOf form limits
  are-of = of (ap (λ (l : Limits). l.version) own) (ap (λ (l : Limits). l.journal) own)

  -- which they name
  named : device_form limits ≡ form
  named = of-opened form limits opened are-of

  stands : {objects : PlainObjects} → objects ≡ saved_in form start → StandForStateIn (device_form limits) limits start objects
  stands are = rw (are, named) (start-stands form limits)

pub make-requires-clause-of : goal.make-requires-clause-of
make-requires-clause-of g c =
    let limits = c.args.limits.now in
    subst (λ (f : Format). AreOf f limits) (sym (named c.args.form limits c.requires.opened c.requires.own c.in_ok-need.ensures.of))
    (are-of c.args.form limits c.requires.opened c.requires.own c.in_ok-need.ensures.of)

pub make-requires-clause-room : goal.make-requires-clause-room
make-requires-clause-room g c =
    let limits = c.args.limits.now in
    subst (λ (f : Format). need_in f limits ≤ g.D.SectorDisk.size c.args.disk.now)
    (sym (named c.args.form limits c.requires.opened c.requires.own c.in_ok-need.ensures.of))
    (omega (arith, c.in_ok-need.ensures.exact, c.sectors.ensures, c.if-sectors-need.false))

pub make-requires-clause-fits : goal.make-requires-clause-fits
make-requires-clause-fits g c =
    let limits = c.args.limits.now in
    let of = are-of c.args.form limits c.requires.opened c.requires.own c.in_ok-need.ensures.of in
    rw (c.start_objects.ensures.objects, of-opened c.args.form limits c.requires.opened of) (c.start_objects.ensures.fit limits of)

pub returns-in_err-make-clause-any_moment : goal.returns-in_err-make-clause-any_moment
returns-in_err-make-clause-any_moment g c = c.in_err-make.ensures.any_moment start
    (stands c.args.form c.args.limits.now c.requires.opened c.requires.own c.in_ok-need.ensures.of c.start_objects.ensures.objects)

pub returns-in_err-make-clause-counts : goal.returns-in_err-make-clause-counts
returns-in_err-make-clause-counts g c =
    let q = err_from_is_err_and c.from_residual-in_err-make.result c.from_residual-in_err-make.ensures.1 in
    record { failure = λ is. c.in_err-make.ensures.counts.err; no_failure = inl (rw (q.1, q.2) refl) }

pub returns-in_err-make-clause-limits : goal.returns-in_err-make-clause-limits
returns-in_err-make-clause-limits g c =
    let q = err_from_is_err_and c.from_residual-in_err-make.result c.from_residual-in_err-make.ensures.1 in
    rw (q.1, q.2) (λ field. (λ is. cc, λ some. absurd (none-some field (sym c.in_ok-need.ensures.none ∙ some))))

pub returns-clause-limits : goal.returns-clause-limits
returns-clause-limits g c = λ field. (λ is. cc, λ some. absurd (none-some field (sym c.in_ok-need.ensures.none ∙ some)))

pub returns-clause-ok : goal.returns-clause-ok
returns-clause-ok g c = c.in_ok-make.ensures.ok start
    (stands c.args.form c.args.limits.now c.requires.opened c.requires.own c.in_ok-need.ensures.of c.start_objects.ensures.objects)

pub returns-clause-any_moment : goal.returns-clause-any_moment
returns-clause-any_moment g c = c.in_ok-make.ensures.any_moment start
    (stands c.args.form c.args.limits.now c.requires.opened c.requires.own c.in_ok-need.ensures.of c.start_objects.ensures.objects)

pub returns-clause-counts : goal.returns-clause-counts
returns-clause-counts g c = record { failure = λ is. cc; no_failure = inr c.in_ok-make.ensures.counts.ok }
