-- The store is closed when nothing waits, and its disk is opened again.
use Rattle.std.proofs.Common.{◌≡◌, ⊎_elim, inl, inr, ℕ, ◌<◌, ◌^◌, List, [], length, sym, ap, subst, ◌∙◌, arith}
use Rattle.ipc_disk.specs.Counts.{counted}
use Rattle.ipc_disk.specs.Medium.{IsHonest}
use Rattle.ipc_disk.specs.Since.{EachImageSince}
use Rattle.ipc_engine.specs.Event.{PlainEvent}
use Rattle.ipc_state.specs.State.{State}
use Rattle.ipc_store.specs.Histories.{OpensOn, Takes}
use Rattle.ipc_store.specs.Relations.Matches.{OpensTo, StoreMatches}
use Rattle.ipc_store.specs.View.{numbers_used}
use Rattle.ipc_script.proofs.Lasting.{takes-halted, unless-any}
use Rattle.ipc_script.proofs.NumbersSpent.{halted-by}
use Rattle.ipc_script.proofs.OpenedAgain.{reopens, stood, root}
use Rattle.ipc_script.proofs.reopening.reopened.Given.{Over}
use Rattle.ipc_script.proofs.reopening.reopened.Goals.{After-close-3}
use Rattle.ipc_script.proofs.reopening.reopened.Goals as goal

-- the store that is closed, on an honest disk
still : (g : Over) (c : After-close-3 g) → IsHonest (g.D.SectorDisk.medium c.args.hub.store.disk)
    → IsHonest (g.D.SectorDisk.medium c.close-2.result.disk)
still g c honest = subst (λ s. IsHonest (g.D.SectorDisk.medium s.disk)) (sym c.close-2.ensures.store) (c.in_default.ensures.honest honest)

there : (g : Over) (c : After-close-3 g) → IsHonest (g.D.SectorDisk.medium c.args.hub.store.disk) → (base : State)
    × ((pending : List PlainEvent) × StoreMatches (g.D.SectorDisk.medium c.close-2.result.disk) c.close-2.result base pending)
there g c honest =
    c.close-3.ensures.matches
    (ap (λ s. s.stopped) c.close-2.ensures.store ∙ c.in_default.ensures.spends.running)
    (still g c honest)

-- and its disk
here : (g : Over) (c : After-close-3 g) → IsHonest (g.D.SectorDisk.medium c.args.hub.store.disk) → IsHonest (g.D.SectorDisk.medium c.close-3.result)
here g c honest = subst (λ d. IsHonest (g.D.SectorDisk.medium d)) (sym c.close-3.ensures.disk) (still g c honest)

fits : (g : Over) (c : After-close-3 g) → IsHonest (g.D.SectorDisk.medium c.args.hub.store.disk)
    → length (g.D.SectorDisk.medium c.close-3.result).contents < 2 ^ 32
fits g c honest =
    let disk = c.close-3.result in
    omega (arith, (g.met.D.SectorDisk.shaped disk (g.D.SectorDisk.medium disk).contents (here g c honest).reads).count, g.met.D.SectorDisk.fits disk)

none : (g : Over) (c : After-close-3 g) → c.close-2.result.waiting ≡ 0
none g c = ap (λ s. s.waiting) c.close-2.ensures.store ∙ c.in_default.ensures.waiting

-- no failure was counted until then
failures : (g : Over) (c : After-close-3 g) → (g.D.SectorDisk.counts c.close-3.result).failures ≡ (g.D.SectorDisk.counts c.args.hub.store.disk).failures
failures g c =
    ap (λ d. (g.D.SectorDisk.counts d).failures) c.close-3.ensures.disk ∙ ap (λ s. (g.D.SectorDisk.counts s.disk).failures) c.close-2.ensures.store
    ∙ c.in_default.ensures.spends.failures

pub returns-in-Ok-clause-ok : goal.returns-in-Ok-clause-ok
returns-in-Ok-clause-ok g c limits h m honest =
    let d = (goal.at.returns-in-Ok-clause-ok g c).After-close-3 in
    reopens g.D.SectorDisk.medium c.close-2.result c.in-Ok.store c.close-3.result c.close-3.ensures.disk (fits g d honest) (still g d honest) (none g d)
    (there g d honest) (c.in-Ok.ensures.ok (here g d honest)) limits h c.release.new.self c.new.result (c.in_default.ensures.ok limits h m)
    c.close-2.ensures.limits c.close-2.ensures.state c.in-Ok.ensures.confirmed c.new.ensures.matches

-- the store that is closed has accepted no event
came : (g : Over) (c : After-close-3 g) → Takes g.D.SectorDisk.medium c.args.hub.store [] c.close-2.result
came g c = subst (λ s. Takes g.D.SectorDisk.medium c.args.hub.store [] s) (sym c.close-2.ensures.store) c.release.ensures.takes

pub returns-in-Ok-clause-stops : goal.returns-in-Ok-clause-stops
returns-in-Ok-clause-stops g c honest =
    let d = (goal.at.returns-in-Ok-clause-stops g c).After-close-3 in
    let med = g.D.SectorDisk.medium in
    let is = here g d honest in
    let next = c.in-Ok.store in
    rw c.new.ensures.store (
      c.close-2.result,
      came g d,
      λ limits h m. c.close-2.ensures.state ∙ (c.in_default.ensures.ok limits h m).hub.state,
      record {
        running = ap (λ s. s.stopped) c.close-2.ensures.store
            ∙ c.in_default.ensures.spends.running;
        empty = none g d;
        honest = still g d honest;
        crash = subst (λ x. EachImageSince (med x) (med next.disk) (OpensTo (med x))) c.close-3.ensures.disk (c.in-Ok.ensures.any_moment is);
        opens = subst (λ x. OpensOn (med x).contents (med next.disk) next) c.close-3.ensures.disk (c.in-Ok.ensures.ok is);
      },
    )

pub returns-in-Err-clause-left : goal.returns-in-Err-clause-left
returns-in-Err-clause-left g c = λ honest. (
  c.release.new.self.store,
  takes-halted g.D.SectorDisk.medium g.met.D.SectorDisk.only_now g.D.SectorDisk.counts c.args.hub c.release.new.self c.in-Err.field-0
      c.in-Err.ensures.refused,
  inl (c.close-in-Err.ensures.disk ∙ ap (λ s. s.disk) c.close.ensures.store),
  tt,
)

pub returns-in-Err-open-clause-left : goal.returns-in-Err-open-clause-left
returns-in-Err-open-clause-left g c honest =
    let d = (goal.at.returns-in-Err-open-clause-left g c).After-close-3 in
    let med = g.D.SectorDisk.medium in (
      c.close-2.result,
      came g d,
      inr (subst (λ x. EachImageSince (med x) (med c.in-Err-open.field-0.disk) (OpensTo (med x))) c.close-3.ensures.disk
          (c.in-Err-open.ensures.any_moment (here g d honest))),
      unless-any _ _ (none g d),
    )

pub returns-in-Ok-clause-spends : goal.returns-in-Ok-clause-spends
returns-in-Ok-clause-spends g c honest has =
    let d = (goal.at.returns-in-Ok-clause-spends g c).After-close-3 in
    let is = here g d honest in
    let epoch = root g.D.SectorDisk.medium c.close-2.result c.in-Ok.store c.close-3.result c.close-3.ensures.disk (fits g d honest) (still g d honest)
    (none g d) (there g d honest) in
    rw c.new.ensures.store (record {
      running = (c.in-Ok.ensures.ok is).found.2.running;
      failures = ⊎_elim (λ never. absurd never) (λ same. same) c.in-Ok.ensures.counts.no_failure ∙ failures g d;
      numbers = omega (arith, c.in-Ok.ensures.numbers is, epoch, ap numbers_used c.close-2.ensures.store, c.in_default.ensures.spends.numbers);
    })

pub returns-in-Ok-clause-honest : goal.returns-in-Ok-clause-honest
returns-in-Ok-clause-honest g c = λ honest.
    rw c.new.ensures.store (c.in-Ok.ensures.ok (here g (goal.at.returns-in-Ok-clause-honest g c).After-close-3 honest)).found.2.device.honest

-- what waited was not written
pub returns-in-Err-clause-disk : goal.returns-in-Err-clause-disk
returns-in-Err-clause-disk g c = λ honest has.
    ap (λ d. (g.D.SectorDisk.counts d).failures) c.close-in-Err.ensures.disk ∙ ap (λ s. (g.D.SectorDisk.counts s.disk).failures) c.close.ensures.store
    ∙ halted-by g.D.SectorDisk.medium g.D.SectorDisk.counts 3 c.args.hub c.release.new.self has c.in-Err.field-0 c.in-Err.ensures.refused

pub returns-in-Err-open-clause-disk : goal.returns-in-Err-open-clause-disk
returns-in-Err-open-clause-disk g c honest has =
    let d = (goal.at.returns-in-Err-open-clause-disk g c).After-close-3 in
    let old = c.close-2.result in
    let epoch = root g.D.SectorDisk.medium old old c.close-3.result c.close-3.ensures.disk (fits g d honest) (still g d honest) (none g d)
    (there g d honest) in
    let stands = stood g.D.SectorDisk.medium old old c.close-3.result c.close-3.ensures.disk (fits g d honest) (still g d honest) (none g d)
    (there g d honest) in
    ⊎_elim (λ device. rw (c.fault_of.ensures.device device)
    (c.in-Err-open.ensures.counts.failure device ∙ ap (λ (n : ℕ). counted n 1) (failures g d)))
    (λ other. ⊎_elim (λ memory. rw (c.fault_of.ensures.memory memory) tt)
    (λ end. absurd (omega (arith, end.epoch, epoch, ap numbers_used c.close-2.ensures.store, c.in_default.ensures.spends.numbers, has.left))) other)
    (c.in-Err-open.ensures.refusals old.machine.limits old.machine.state (here g d honest) stands)
