-- Each exit: what a crash leaves, and the history of the store.
use Rattle.std.proofs.Common.{◌≡◌, ⊎_elim, Bool, true, false, ℕ, ◌+◌, length, inl, inr, sym, subst, ap, ◌∙◌, arith}
use Rattle.std.proofs.lemmas.List.{length-append}
use Rattle.std.proofs.lemmas.Result.{on_ok_weaker}
use Rattle.std.specs.Prelude.{◌↔◌, IsTrue}
use Rattle.byteorder.specs.Endian.{big_bytes}
use Rattle.ipc_journal.specs.View.{Fits}
use Rattle.ipc_journal.specs.declared.journal.Journal.{Journal}
use Rattle.ipc_store.specs.View.{HasPlace}
use Rattle.ipc_store.proofs.store.Store.commit.Given.{Over}
use Rattle.ipc_store.proofs.Committing.{stands_now, any_moment-none, append-counts, none-waits}
use Rattle.ipc_store.proofs.Lives.{takes-none, takes-either, leaves-either}
use Rattle.ipc_store.proofs.Meanwhile.{readable-none}
use Rattle.ipc_store.proofs.store.Store.commit.Goals as goal
use Rattle.ipc_store.proofs.store.Store.commit.Goals.{Else-fits}

pub returns-then-self-clause-takes : goal.returns-then-self-clause-takes
returns-then-self-clause-takes g c = takes-none g.D.SectorDisk.medium g.met.D.SectorDisk.only_now c.args.self.now

pub returns-then-count-eq0-clause-takes : goal.returns-then-count-eq0-clause-takes
returns-then-count-eq0-clause-takes g c = takes-none g.D.SectorDisk.medium g.met.D.SectorDisk.only_now c.args.self.now

pub returns-then-count-eq0-clause-any_moment : goal.returns-then-count-eq0-clause-any_moment
returns-then-count-eq0-clause-any_moment g c = λ base pending at.
    let m = g.D.SectorDisk.medium in
    any_moment-none (m c.args.self.now.disk) (m c.args.self.now.disk) c.args.self.now base pending at (g.met.D.SectorDisk.only_now _)

pub returns-then-self-clause-meanwhile : goal.returns-then-self-clause-meanwhile
returns-then-self-clause-meanwhile g c = readable-none g.D.SectorDisk.medium c.args.self.now (g.met.D.SectorDisk.only_now _)

pub returns-then-count-eq0-clause-meanwhile : goal.returns-then-count-eq0-clause-meanwhile
returns-then-count-eq0-clause-meanwhile g c = readable-none g.D.SectorDisk.medium c.args.self.now (g.met.D.SectorDisk.only_now _)

pub returns-then-count-eq0-clause-left : goal.returns-then-count-eq0-clause-left
returns-then-count-eq0-clause-left g c = λ base pending image at now.
    inl (stands_now (g.D.SectorDisk.medium c.args.self.now.disk) c.args.self.now base pending at image now)

pub returns-then-fits-clause-takes : goal.returns-then-fits-clause-takes
returns-then-fits-clause-takes g c =
    takes-either g.D.SectorDisk.medium g.met.D.SectorDisk.only_now c.args.self.now c.append.new.self
    (sym (ap (λ v. v.stopped) c.self.view_is) ∙ c.if-self.false) (ap (λ v. v.limits) c.append.ensures.commits.machine)
    c.append.ensures.any_moment c.append.result c.append.ensures.commits.confirmed c.append.ensures.matches
    c.append.ensures.commits.unconfirmed c.append.ensures.commits.stops c.append.ensures.same.honest.0 c.append.ensures.meanwhile

pub returns-then-fits-clause-left : goal.returns-then-fits-clause-left
returns-then-fits-clause-left g c =
    leaves-either g.D.SectorDisk.medium g.met.D.SectorDisk.only_now c.args.self.now c.append.new.self
    (sym (ap (λ v. v.stopped) c.self.view_is) ∙ c.if-self.false) (ap (λ v. v.limits) c.append.ensures.commits.machine)
    c.append.ensures.any_moment c.append.ensures.same.honest.0

pub returns-else-fits-clause-takes : goal.returns-else-fits-clause-takes
returns-else-fits-clause-takes g c =
    takes-either g.D.SectorDisk.medium g.met.D.SectorDisk.only_now c.args.self.now c.save_state.new.self
    (sym (ap (λ v. v.stopped) c.self.view_is) ∙ c.if-self.false) (ap (λ v. v.limits) c.save_state.ensures.commits.machine)
    c.save_state.ensures.any_moment c.save_state.result c.save_state.ensures.commits.confirmed c.save_state.ensures.matches
    c.save_state.ensures.commits.unconfirmed c.save_state.ensures.commits.stops c.save_state.ensures.same.honest.0
    c.save_state.ensures.meanwhile

pub returns-else-fits-clause-left : goal.returns-else-fits-clause-left
returns-else-fits-clause-left g c =
    leaves-either g.D.SectorDisk.medium g.met.D.SectorDisk.only_now c.args.self.now c.save_state.new.self
    (sym (ap (λ v. v.stopped) c.self.view_is) ∙ c.if-self.false) (ap (λ v. v.limits) c.save_state.ensures.commits.machine)
    c.save_state.ensures.any_moment c.save_state.ensures.same.honest.0

pub returns-then-count-eq0-clause-matches : goal.returns-then-count-eq0-clause-matches
returns-then-count-eq0-clause-matches g c = λ base pending at.
    none-waits (g.D.SectorDisk.medium c.args.self.now.disk) c.args.self.now base pending at
    (sym (ap (λ v. v.waiting) c.self.view_is) ∙ sym c.count.ensures.count ∙ c.if-count-eq0.true)

pub returns-then-fits-clause-faults : goal.returns-then-fits-clause-faults
returns-then-fits-clause-faults g c =
    append-counts g.D.SectorDisk.counts c.args.self.now.disk c.append.new.self.disk _ _ c.append.result c.append.ensures.stopped c.append.ensures.failure
    c.append.ensures.counts

-- what waits has a place in the journal
pub returns-then-fits-clause-writes : goal.returns-then-fits-clause-writes
returns-then-fits-clause-writes g c = rw (sym c.self.view_is) (
    let records = c.self.inside.batch.records in
    let long : length c.bytes-len.result.now ≡ 4 + length records =
    ap length c.bytes-len.ensures.bytes ∙ length-append (big_bytes 4 (length records)) records in
    on_ok_weaker c.append.result
    (λ counted honest some none. absurd (none (subst (Fits c.self.inside.journal) long (c.fits.ensures.0 c.if-fits.true)))) c.append.ensures.durable)

-- ---- what waits has no place in the journal

never : true ≡ false → ⊥
never is = cc

not-fits : (j : Journal) (fits : Bool) (n m : ℕ) → n ≡ m → fits ≡ false → (IsTrue fits ↔ Fits j n) → Fits j m → ⊥
not-fits j fits n m same is says place = never (sym (says.1 (subst (Fits j) (sym same) place)) ∙ is)

no-place : (g : Over) (c : Else-fits g) → HasPlace c.args.self.now → ⊥
no-place g c place =
    let records = c.self.inside.batch.records in
    let long : length c.bytes-len.result.now ≡ 4 + length records =
    ap length c.bytes-len.ensures.bytes ∙ length-append (big_bytes 4 (length records)) records in
    not-fits c.self.inside.journal c.fits.result (length c.bytes-len.result.now) (4 + length records) long c.if-fits.false c.fits.ensures
    (subst (λ v. HasPlace v) (sym c.self.view_is) place)

pub returns-else-fits-clause-stopped : goal.returns-else-fits-clause-stopped
returns-else-fits-clause-stopped g c = (
  λ is. inr (
    c.save_state.ensures.stopped.0 is,
    omega (arith, c.if-count-eq0.false, c.count.ensures.count, ap (λ v. v.waiting) c.self.view_is),
    no-place g (goal.at.returns-else-fits-clause-stopped g c).Else-fits,
  ),
  λ why. ⊎_elim (λ stopped. absurd (never (sym stopped ∙ (sym (ap (λ v. v.stopped) c.self.view_is) ∙ c.if-self.false))))
      (λ end. c.save_state.ensures.stopped.1 end.0) why,
)

pub returns-else-fits-clause-counts : goal.returns-else-fits-clause-counts
returns-else-fits-clause-counts g c =
    on_ok_weaker c.save_state.result
    (λ done waits place. absurd (no-place g (goal.at.returns-else-fits-clause-counts g c).Else-fits place)) c.save_state.ensures.durable

pub returns-else-fits-clause-keeps : goal.returns-else-fits-clause-keeps
returns-else-fits-clause-keeps g c =
    on_ok_weaker c.save_state.result
    (λ done place. absurd (no-place g (goal.at.returns-else-fits-clause-keeps g c).Else-fits place)) c.save_state.ensures.durable
