-- What is found of a machine is found of an image that stands for its state, and what a look refuses is there.
use Rattle.std.proofs.Common.{◌≡◌, ◌≤◌, ◌∙◌, inl, ⊎_elim, ℕ, length, ap, subst, sym, arith}
use Rattle.std.proofs.lemmas.Bool.{cases_lt}
use Rattle.ipc_disk.specs.Medium.{Image}
use Rattle.ipc_disk.proofs.CallerLemmas.{IsSameDisk-then, Stays-join}
use Rattle.ipc_engine.specs.Engine.{Machine}
use Rattle.ipc_image.specs.declared.format.Format.{Format}
use Rattle.ipc_store.specs.Image.{form_at, StandsFor, IsNotFormatted}
use Rattle.ipc_store.specs.Refusals.{IsRefusal}
use Rattle.ipc_store.specs.declared.fault.OpenError.{OpenError}
use Rattle.ipc_store.specs.declared.fault.OpenError.TheVariants as opening
use Rattle.ipcd.specs.Check.{place_of, refusal_of, IsFoundIn, IsOfMachine}
use Rattle.ipcd.specs.declared.checking.Finding.{Finding}
use Rattle.ipcd.specs.declared.checking.Finding.TheVariants.{Fit, NotFormatted, Version, Damaged, Unread, NoMemory}
use Rattle.ipcd.proofs.checking.find.Goals as goal

of-machine : (finding : Finding) (machine : Machine) (image : Image) → IsOfMachine finding machine
    → StandsFor machine.limits machine.state image → IsFoundIn finding image
of-machine (Fit version sectors small objects) machine image is stands = (machine, is, stands)
of-machine NoMemory machine image is stands = tt
of-machine (NotFormatted sectors) machine image is stands = absurd is
of-machine (Version found) machine image is stands = absurd is
of-machine (Damaged sector place) machine image is stands = absurd is
of-machine Unread machine image is stands = absurd is

of-error : (sectors : ℕ) (form : Format) (error : OpenError) (image : Image) → (3 ≤ length image → form ≡ form_at image)
    → IsRefusal (form_at image) image error → IsFoundIn (refusal_of sectors form error) image
of-error sectors form opening.NotFormatted image named is = is
of-error sectors form (opening.Version found) image named is = is
of-error sectors form (opening.Damaged sector) image named is =
    (is.0, is.1, ap (λ (f : Format). place_of f sector) (named (large is.0.formatted)))
  where
    large : ¬ IsNotFormatted image → 3 ≤ length image
    large formatted = ⊎_elim (λ less. absurd (formatted (inl less))) (λ le. le) (cases_lt (length image) 3)
of-error sectors form opening.Device image named is = tt
of-error sectors form opening.NoMemory image named is = tt

pub returns-in-Ok-look-clause-found : goal.returns-in-Ok-look-clause-found
returns-in-Ok-look-clause-found g c = λ honest.
    let reads = c.read_form.ensures.alone.stays honest in
    subst (IsFoundIn c.fitness.result) (reads.contents honest)
    (of-machine _ _ _ c.fitness.ensures (c.in-Ok-look.ensures.ok (reads.time.honest.0 honest)))

pub returns-in-Err-clause-found : goal.returns-in-Err-clause-found
returns-in-Err-clause-found g c = λ honest.
    let image : Image = (g.D.SectorDisk.medium c.args.disk.now).contents in
    let reads = c.read_form.ensures.alone.stays honest in
    let size = (g.met.D.SectorDisk.shaped c.args.disk.now image honest.reads).count in
    let refused = subst (λ (i : Image). IsRefusal (form_at i) i c.in-Err.error) (reads.contents honest)
    (c.in-Err.ensures.refused (reads.time.honest.0 honest)) in
    subst (λ (f : Finding). IsFoundIn f image) (sym c.refusal_of.ensures)
    (of-error _ c.in-Ok.form c.in-Err.error image (λ large. c.in-Ok.ensures.form honest (omega (arith, large, size))) refused)

-- the first sector is read, and then the device
pub returns-in-Ok-look-clause-alone : goal.returns-in-Ok-look-clause-alone
returns-in-Ok-look-clause-alone g c =
    let first = c.read_form.ensures.alone in
    let next = c.look.ensures.alone in
    record {
      same = IsSameDisk-then first.same next.same;
      stays = λ honest. Stays-join _ _ _ honest (first.stays honest) (next.stays (first.same.honest.0 honest));
      writes = next.writes ∙ first.writes;
      syncs = next.syncs ∙ first.syncs;
    }
