-- Each exit: what a crash leaves, and what was read.
use Rattle.std.proofs.Common.{◌≡◌, ◌+◌, ◌<◌, inl, inr, ⊎_elim, [], Err, sym, ap, subst, ◌∙◌, arith}
use Rattle.std.specs.Prelude.{map, ⊤, Result}
use Rattle.ipc_limits.specs.declared.limits.Limits.{Limits}
use Rattle.ipc_checkpoint.specs.Meanwhile.{EachLater}
use Rattle.ipc_checkpoint.specs.View.{epoch_of as saved_epoch}
use Rattle.ipc_checkpoint.proofs.CallerLemmas.{CheckpointMatches-holds}
use Rattle.ipc_disk.specs.Counts.{counted}
use Rattle.ipc_disk.specs.Medium.{Medium, IsHonest}
use Rattle.ipc_disk.specs.Range.{IsOutside}
use Rattle.ipc_disk.specs.Since.{EachImageSince, LeavesAlone}
use Rattle.ipc_journal.specs.Journal.{head, Holds}
use Rattle.ipc_journal.specs.View.{form_of, range_of, epoch_of, used_of}
use Rattle.ipc_image.specs.Format.{device_form}
use Rattle.ipc_image.specs.declared.format.Format.{Format}
use Rattle.ipc_store.specs.declared.fault.OpenError.{OpenError}
use Rattle.ipc_store.specs.declared.fault.OpenError.TheVariants as errors
use Rattle.ipc_store.specs.Batch.{batch_bytes}
use Rattle.ipc_store.specs.Image.{StandsFor, IsAtEnd, epoch_at, form_at}
use Rattle.ipc_store.specs.Meanwhile.{GoesOn}
use Rattle.ipc_store.specs.Refusals.{IsRefusal}
use Rattle.ipc_store.specs.Relations.Loading.{IsLoaded}
use Rattle.ipc_store.specs.Relations.Matches.{MachineMatches, OpensTo, StandsForEither, StoreMatches}
use Rattle.ipc_state.specs.State.{restart}
use Rattle.ipc_store.proofs.CallerLemmas.{stands-form}
use Rattle.ipc_store.proofs.Clearing.{cleared, each-batches, its-batches, loaded-epoch, loaded-stands}
use Rattle.ipc_store.proofs.Openings.{at_end, begins, clear-later, clear-leaves, only_read, read-later, refused_by, restart-later, restart_leaves}
use Rattle.ipc_store.proofs.store.Store.open.Given.{Over}
use Rattle.ipc_store.proofs.store.Store.open.Goals as goal
use Rattle.ipc_store.proofs.store.Store.open.Goals.{After-clear_tail, After-new-store, After-restart, In-Err-restart}

-- the answer of the restart
abbrev restarted : OpenError → Result ⊤ OpenError
restarted e = Err e

-- which error it is
err-is : (e f : OpenError) → restarted e ≡ restarted f → e ≡ f
err-is e f is = cc

-- the medium of a disk
abbrev m : (g : Over) → g.row.D.Denot → Medium
m g = g.D.SectorDisk.medium

-- ---- what was read, and what stands after the batches is cleared

module _ (g : Over) (c : After-clear_tail g) (honest : IsHonest (m g c.args.disk)) where
  loaded : IsLoaded (m g c.read_device.new.disk) c.in-Ok.found.2 c.in-Ok.found.0 c.in-Ok.found.1
  loaded = c.in-Ok.ensures.loaded honest

  alone : LeavesAlone (IsOutside (range_of c.in-Ok.found.1)) (m g c.read_device.new.disk) (m g c.clear_tail.new.disk)
  alone = c.clear_tail.ensures.others loaded.honest

  positive : 0 < epoch_of c.in-Ok.found.1
  positive =
      omega (
        arith,
        loaded.epoch,
        (CheckpointMatches-holds c.in-Ok.found.0 loaded.objects (m g c.read_device.new.disk) loaded.saved _ loaded.honest.reads).there.positive,
      )

  run : EachImageSince (m g c.read_device.new.disk) (m g c.clear_tail.new.disk)
      (Holds (form_of c.in-Ok.found.1) (range_of c.in-Ok.found.1) (epoch_of c.in-Ok.found.1) (map batch_bytes loaded.batches))
  run =
      c.clear_tail.ensures.any_moment (map batch_bytes loaded.batches) positive loaded.honest loaded.after.0 loaded.after.1
      (each-batches (m g c.read_device.new.disk) c.in-Ok.found.2 c.in-Ok.found.0 c.in-Ok.found.1 loaded)

  leaves : EachImageSince (m g c.args.disk) (m g c.clear_tail.new.disk) (OpensTo (m g c.args.disk))
  leaves =
      clear-leaves (m g c.args.disk) (m g c.read_device.new.disk) (m g c.clear_tail.new.disk) c.in-Ok.found.2 c.in-Ok.found.0 c.in-Ok.found.1 honest
      (c.read_device.ensures.reads.stays honest) (g.met.D.SectorDisk.only_now c.args.disk) loaded alone run

  later : EachLater GoesOn (m g c.args.disk) (m g c.clear_tail.new.disk)
  later =
      clear-later (m g c.args.disk) (m g c.read_device.new.disk) (m g c.clear_tail.new.disk) c.in-Ok.found.2 c.in-Ok.found.0 c.in-Ok.found.1 honest
      (c.read_device.ensures.reads.stays honest) (g.met.D.SectorDisk.only_now c.args.disk) loaded alone run

  -- the disk stood for the state of the machine
  stood-for : StandsFor c.in-Ok.found.2.limits c.in-Ok.found.2.state (m g c.args.disk).contents
  stood-for =
      subst (StandsFor c.in-Ok.found.2.limits c.in-Ok.found.2.state) ((c.read_device.ensures.reads.stays honest).contents honest)
      (loaded-stands (m g c.read_device.new.disk) c.in-Ok.found.2 c.in-Ok.found.0 c.in-Ok.found.1 loaded)

  form-is : device_form c.in-Ok.found.2.limits ≡ form_at (m g c.args.disk).contents
  form-is = stands-form c.in-Ok.found.2.limits c.in-Ok.found.2.state (m g c.args.disk).contents stood-for

-- nothing had failed by then
none-failed : (g : Over) (c : After-clear_tail g)
    → (g.D.SectorDisk.counts c.read_device.new.disk).failures ≡ (g.D.SectorDisk.counts c.args.disk).failures
none-failed g c = ⊎_elim (λ device. absurd cc) (λ kept. kept) c.in-Ok.ensures.reads.no_failure

pub returns-in-Err-clause-counts : goal.returns-in-Err-clause-counts
returns-in-Err-clause-counts g c = record {
  failure = λ device. c.in-Err.ensures.reads.failure (ap Err device);
  no_failure = ⊎_elim (λ device. inl cc) inr c.in-Err.ensures.reads.no_failure;
}

pub returns-in-Err-clause-any_moment : goal.returns-in-Err-clause-any_moment
returns-in-Err-clause-any_moment g c = λ honest. only_read _ _ (c.read_device.ensures.reads.stays honest) (g.met.D.SectorDisk.only_now c.args.disk)

pub returns-in-Err-clause-meanwhile : goal.returns-in-Err-clause-meanwhile
returns-in-Err-clause-meanwhile g c = λ honest. read-later _ _ (c.read_device.ensures.reads.stays honest) (g.met.D.SectorDisk.only_now c.args.disk)

pub returns-in-Err-clause-refusals : goal.returns-in-Err-clause-refusals
returns-in-Err-clause-refusals g c = λ limits s honest stands.
    refused_by (m g c.args.disk).contents limits s c.in-Err.error stands (c.in-Err.ensures.refused honest)

pub returns-in-Err-clause-refused : goal.returns-in-Err-clause-refused
returns-in-Err-clause-refused g c = λ honest. inl (c.in-Err.ensures.refused honest)

pub returns-in-Err-clause-unwritten : goal.returns-in-Err-clause-unwritten
returns-in-Err-clause-unwritten g c = inr c.read_device.ensures.reads.writes

-- ---- the disk has failed where it was cleared

pub returns-in-Err-clear_tail-clause-any_moment : goal.returns-in-Err-clear_tail-clause-any_moment
returns-in-Err-clear_tail-clause-any_moment g c = leaves g (goal.at.returns-in-Err-clear_tail-clause-any_moment g c).After-clear_tail

pub returns-in-Err-clear_tail-clause-meanwhile : goal.returns-in-Err-clear_tail-clause-meanwhile
returns-in-Err-clear_tail-clause-meanwhile g c = later g (goal.at.returns-in-Err-clear_tail-clause-meanwhile g c).After-clear_tail

pub returns-in-Err-clear_tail-clause-untouched : goal.returns-in-Err-clear_tail-clause-untouched
returns-in-Err-clear_tail-clause-untouched g c = λ honest none.
    absurd (none _ _ (stood-for g (goal.at.returns-in-Err-clear_tail-clause-untouched g c).After-clear_tail honest))

pub returns-in-Err-clear_tail-clause-counts : goal.returns-in-Err-clear_tail-clause-counts
returns-in-Err-clear_tail-clause-counts g c =
    let before = none-failed g (goal.at.returns-in-Err-clear_tail-clause-counts g c).After-clear_tail in
    record { failure = λ device. c.in-Err-clear_tail.ensures.counts.err ∙ ap (λ n. counted n 1) before; no_failure = inl cc }

-- ---- the store over what was cleared

module _ (g : Over) (c : After-new-store g) (honest : IsHonest (m g c.args.disk)) where
  abbrev at : After-clear_tail g
  at = (goal.at.After-new-store g c).After-clear_tail

  -- nothing stands after the batches any more
  matches : MachineMatches (m g c.clear_tail.new.disk) c.in-Ok.found.2 c.in-Ok.found.0 c.in-Ok.found.1
  matches =
      let all = loaded g at honest in
      cleared (m g c.read_device.new.disk) c.in-Ok.found.2 c.in-Ok.found.0 c.in-Ok.found.1 all (m g c.clear_tail.new.disk) (alone g at honest)
      (c.in_default.ensures.cleared (map batch_bytes all.batches) (positive g at honest) all.honest all.durable all.after.0 all.after.1
      (its-batches (m g c.read_device.new.disk) c.in-Ok.found.2 c.in-Ok.found.0 c.in-Ok.found.1 all))

  begun : StoreMatches (m g c.new-store.result.disk) c.new-store.result c.in-Ok.found.2.state []
  begun =
      begins (m g) c.clear_tail.new.disk c.in-Ok.found.0 c.in-Ok.found.1 c.in-Ok.found.2 matches c.new-store.result c.new-store.ensures

  -- what it shows is what was read
  limits-are : c.new-store.result.machine.limits ≡ c.in-Ok.found.2.limits
  limits-are = ap (λ v. v.machine.limits) c.new-store.ensures

pub new-store-requires-clause-matches : goal.new-store-requires-clause-matches
new-store-requires-clause-matches g c = λ honest.
    let before = c.read_device.ensures.reads.same.honest.1 (c.clear_tail.ensures.same.honest.1 honest) in
    let at = (goal.at.new-store-requires-clause-matches g c).After-clear_tail in
    let all = loaded g at before in
    cleared (m g c.read_device.new.disk) c.in-Ok.found.2 c.in-Ok.found.0 c.in-Ok.found.1 all (m g c.clear_tail.new.disk) (alone g at before)
    (c.in_default.ensures.cleared (map batch_bytes all.batches) (positive g at before) all.honest all.durable all.after.0 all.after.1
    (its-batches (m g c.read_device.new.disk) c.in-Ok.found.2 c.in-Ok.found.0 c.in-Ok.found.1 all))

-- ---- it was opened

pub returns-in-Ok-restart-clause-ok : goal.returns-in-Ok-restart-clause-ok
returns-in-Ok-restart-clause-ok g c = λ honest.
    let at = (goal.at.returns-in-Ok-restart-clause-ok g c).After-clear_tail in
    let here = (goal.at.returns-in-Ok-restart-clause-ok g c).After-new-store in
    let s = c.in-Ok.found.2.state in
    record {
      found = (
        s,
        subst (λ (l : Limits). StandsFor l s (m g c.args.disk).contents) (sym (c.restart.ensures.limits ∙ limits-are g here honest)) (stood-for g at honest),
        subst (λ (l : Limits). StoreMatches (m g c.restart.new.self.disk) c.restart.new.self (restart l s) []) (sym c.restart.ensures.limits)
            (c.in-Ok-restart.ensures.matches s (begun g here honest)),
      );
      confirmed = c.in-Ok-restart.ensures.confirmed;
    }

pub returns-in-Ok-restart-clause-numbers : goal.returns-in-Ok-restart-clause-numbers
returns-in-Ok-restart-clause-numbers g c = λ honest.
    let at = (goal.at.returns-in-Ok-restart-clause-numbers g c).After-clear_tail in
    let over = c.new-store.ensures in
    let epoch : epoch_at (m g c.args.disk).contents ≡ saved_epoch c.in-Ok.found.0 =
    ap epoch_at (sym ((c.read_device.ensures.reads.stays honest).contents honest))
    ∙ loaded-epoch (m g c.read_device.new.disk) c.in-Ok.found.2 c.in-Ok.found.0 c.in-Ok.found.1 (loaded g at honest) in
    omega (arith, c.in-Ok-restart.ensures.numbers, epoch, ap (λ v. saved_epoch v.checkpoint) over, ap (λ v. v.confirmed) over, ap (λ v. v.waiting) over)

module _ (g : Over) (c : After-restart g) (honest : IsHonest (m g c.args.disk)) where
  abbrev was : After-clear_tail g
  was = (goal.at.After-restart g c).After-clear_tail

  abbrev began : After-new-store g
  began = (goal.at.After-restart g c).After-new-store

  -- the images since the open began
  all-images : EachImageSince (m g c.args.disk) (m g c.restart.new.self.disk) (OpensTo (m g c.args.disk))
  all-images =
      let s = c.in-Ok.found.2.state in
      restart_leaves (m g c.args.disk) (m g c.read_device.new.disk) (m g c.clear_tail.new.disk) c.in-Ok.found.2 c.in-Ok.found.0 c.in-Ok.found.1 honest
      (c.read_device.ensures.reads.stays honest) (g.met.D.SectorDisk.only_now c.args.disk) (loaded g was honest) (alone g was honest) (run g was honest)
      (m g c.restart.new.self.disk)
      (subst (λ v. EachImageSince (m g v.disk) (m g c.restart.new.self.disk) (StandsForEither v.machine.limits s (restart v.machine.limits s)))
      c.new-store.ensures
      (c.restart.ensures.any_moment s (begun g began honest)))

  goes-on : EachLater GoesOn (m g c.args.disk) (m g c.restart.new.self.disk)
  goes-on =
      let s = c.in-Ok.found.2.state in
      restart-later (m g c.args.disk) (m g c.read_device.new.disk) (m g c.clear_tail.new.disk) c.in-Ok.found.2 c.in-Ok.found.0 c.in-Ok.found.1 honest
      (c.read_device.ensures.reads.stays honest) (g.met.D.SectorDisk.only_now c.args.disk) (loaded g was honest) (alone g was honest) (run g was honest)
      (m g c.restart.new.self.disk)
      (subst (λ v. EachLater GoesOn (m g v.disk) (m g c.restart.new.self.disk)) c.new-store.ensures (c.restart.ensures.meanwhile s (begun g began honest)))

-- what had failed when the restart began
failed-before : (g : Over) (c : After-restart g)
    → (g.D.SectorDisk.counts c.new-store.result.disk).failures ≡ (g.D.SectorDisk.counts c.args.disk).failures
failed-before g c =
    ap (λ v. (g.D.SectorDisk.counts v.disk).failures) c.new-store.ensures ∙ c.in_default.ensures.counts.ok
    ∙ none-failed g (goal.at.After-restart g c).After-clear_tail

pub returns-in-Ok-restart-clause-any_moment : goal.returns-in-Ok-restart-clause-any_moment
returns-in-Ok-restart-clause-any_moment g c = all-images g (goal.at.returns-in-Ok-restart-clause-any_moment g c).After-restart

pub returns-in-Ok-restart-clause-meanwhile : goal.returns-in-Ok-restart-clause-meanwhile
returns-in-Ok-restart-clause-meanwhile g c = goes-on g (goal.at.returns-in-Ok-restart-clause-meanwhile g c).After-restart

pub returns-in-Ok-restart-clause-counts : goal.returns-in-Ok-restart-clause-counts
returns-in-Ok-restart-clause-counts g c =
    let before = failed-before g (goal.at.returns-in-Ok-restart-clause-counts g c).After-restart in
    record {
      failure = λ never. absurd never;
      no_failure = ⊎_elim (λ device. absurd cc) (λ same. inr (same ∙ before)) c.in-Ok-restart.ensures.counts.no_failure;
    }

-- ---- the restart was refused

-- the epochs are at their end, and there was nothing to clear
full : (g : Over) (c : In-Err-restart g)
    → restarted c.in-Err-restart.error ≡ restarted (errors.Damaged (device_form c.new-store.result.machine.limits).root)
    → c.clear_tail.new.disk ≡ c.read_device.new.disk
full g c is =
    c.clear_tail.ensures.nothing
    (subst (λ v. head (form_of v.journal) + used_of v.journal ≡ (range_of v.journal).count) c.new-store.ensures (c.in-Err-restart.ensures.at_end is).1)

ended : (g : Over) (c : In-Err-restart g) → IsHonest (m g c.args.disk)
    → restarted c.in-Err-restart.error ≡ restarted (errors.Damaged (device_form c.new-store.result.machine.limits).root)
    → IsAtEnd (m g c.args.disk).contents
ended g c honest is =
    let store = c.new-store.result in
    let old = c.in-Err-restart.ensures.at_end is in
    let contents : (m g store.disk).contents ≡ (m g c.args.disk).contents =
    ap (λ v. (m g v.disk).contents) c.new-store.ensures ∙ ap (λ d. (m g d).contents) (full g c is)
    ∙ (c.read_device.ensures.reads.stays honest).contents honest in
    at_end (m g store.disk) store c.in-Ok.found.2.state (m g c.args.disk).contents
    (begun g (goal.at.In-Err-restart g c).After-new-store honest) contents old.0 old.1

pub returns-in-Err-restart-clause-any_moment : goal.returns-in-Err-restart-clause-any_moment
returns-in-Err-restart-clause-any_moment g c = λ honest.
    subst (λ d. EachImageSince (m g c.args.disk) (m g d) (OpensTo (m g c.args.disk))) (sym c.close.ensures.disk)
    (all-images g (goal.at.returns-in-Err-restart-clause-any_moment g c).After-restart honest)

pub returns-in-Err-restart-clause-meanwhile : goal.returns-in-Err-restart-clause-meanwhile
returns-in-Err-restart-clause-meanwhile g c = λ honest.
    subst (λ d. EachLater GoesOn (m g c.args.disk) (m g d)) (sym c.close.ensures.disk)
    (goes-on g (goal.at.returns-in-Err-restart-clause-meanwhile g c).After-restart honest)

pub returns-in-Err-restart-clause-refusals : goal.returns-in-Err-restart-clause-refusals
returns-in-Err-restart-clause-refusals g c = λ limits s honest stands.
    ⊎_elim (λ device. inl cc) (λ end. inr (inr (ended g (goal.at.returns-in-Err-restart-clause-refusals g c).In-Err-restart honest end)))
    c.in-Err-restart.ensures.faults

pub returns-in-Err-restart-clause-refused : goal.returns-in-Err-restart-clause-refused
returns-in-Err-restart-clause-refused g c = λ honest.
    let e = c.in-Err-restart.error in
    let image = (m g c.args.disk).contents in
    let at = goal.at.returns-in-Err-restart-clause-refused g c in
    let named = ap device_form (limits-are g at.After-new-store honest) ∙ form-is g at.After-clear_tail honest in
    ⊎_elim (λ device. inl (subst (IsRefusal (form_at image) image) (sym (err-is e errors.Device device)) tt))
    (λ end. inr (
      ended g at.In-Err-restart honest end,
      err-is e (errors.Damaged (device_form c.new-store.result.machine.limits).root) end ∙ ap (λ (f : Format). errors.Damaged f.root) named,
    ))
    c.in-Err-restart.ensures.faults

pub returns-in-Err-restart-clause-unwritten : goal.returns-in-Err-restart-clause-unwritten
returns-in-Err-restart-clause-unwritten g c =
    let writes : (d e : g.row.D.Denot) → d ≡ e → (g.D.SectorDisk.counts d).writes ≡ (g.D.SectorDisk.counts e).writes =
    λ d e same. ap (λ x. (g.D.SectorDisk.counts x).writes) same in
    ⊎_elim (λ device. inl (err-is c.in-Err-restart.error errors.Device device))
    (λ end. ⊎_elim (λ device. inl (err-is c.in-Err-restart.error errors.Device device))
    (λ same. inr (writes _ _ c.close.ensures.disk ∙ writes _ _ same ∙ writes _ _ (ap (λ v. v.disk) c.new-store.ensures)
    ∙ writes _ _ (full g (goal.at.returns-in-Err-restart-clause-unwritten g c).In-Err-restart end)
    ∙ c.read_device.ensures.reads.writes))
    c.in-Err-restart.ensures.unwritten)
    c.in-Err-restart.ensures.faults

pub returns-in-Err-restart-clause-untouched : goal.returns-in-Err-restart-clause-untouched
returns-in-Err-restart-clause-untouched g c = λ honest none.
    absurd (none _ _ (stood-for g (goal.at.returns-in-Err-restart-clause-untouched g c).After-clear_tail honest))

pub returns-in-Err-restart-clause-counts : goal.returns-in-Err-restart-clause-counts
returns-in-Err-restart-clause-counts g c =
    let before = failed-before g (goal.at.returns-in-Err-restart-clause-counts g c).After-restart in
    let closed = ap (λ d. (g.D.SectorDisk.counts d).failures) c.close.ensures.disk in
    record {
      failure = λ e. closed ∙ (c.in-Err-restart.ensures.counts.failure (ap Err e) ∙ ap (λ n. counted n 1) before);
      no_failure = ⊎_elim (λ device. inl cc) (λ same. inr (closed ∙ (same ∙ before))) c.in-Err-restart.ensures.counts.no_failure;
    }
