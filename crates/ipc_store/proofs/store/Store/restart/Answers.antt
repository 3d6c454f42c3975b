-- The restart is the one event that waits.
use Rattle.std.proofs.Common.{◌≡◌, ⊎_elim, inl, inr, refl, ℕ, ◌+◌, List, [], ◌∷◌, ◌++◌, Err, true, false, length, sym, ap, subst, ◌∙◌, arith}
use Rattle.ipc_limits.specs.declared.limits.Limits.{Limits}
use Rattle.ipc_disk.specs.Calls.{CountsFaultIf}
use Rattle.ipc_disk.specs.Counts.{Counts, counted}
use Rattle.ipc_state.specs.State.{restart}
use Rattle.ipc_store.specs.Relations.Matches.{StoreMatches}
use Rattle.ipc_checkpoint.specs.Meanwhile.{EachLater}
use Rattle.ipc_checkpoint.specs.View.{CheckpointView, epoch_of}
use Rattle.ipc_store.specs.Image.{last_epoch}
use Rattle.ipc_store.specs.Meanwhile.{GoesOn}
use Rattle.ipc_journal.specs.declared.journal.Journal.{Journal}
use Rattle.ipc_journal.specs.Journal.{head}
use Rattle.ipc_journal.specs.View.{form_of, range_of, used_of}
use Rattle.ipc_engine.specs.Event.{Restart}
use Rattle.ipc_image.specs.Records.{record_bytes}
use Rattle.ipc_store.proofs.Batches.{record-length}
use Rattle.ipc_store.proofs.Openings.{taken, full_journal}
use Rattle.ipc_store.proofs.store.Store.restart.Goals as goal

pub step-requires-clause-room : goal.step-requires-clause-room
step-requires-clause-room g c = omega (arith, record-length Restart, ap length c.requires.empty)

pub returns-in-Ok-clause-matches : goal.returns-in-Ok-clause-matches
returns-in-Ok-clause-matches g c = λ base at.
    subst (λ (l : Limits). StoreMatches (g.D.SectorDisk.medium c.commit.new.self.disk) c.commit.new.self (restart l base) []) c.step.ensures.limits
    (c.in-Ok.ensures.matches base (Restart ∷ []) (c.in_default.ensures.matches base [] at))

pub returns-in-Ok-clause-any_moment : goal.returns-in-Ok-clause-any_moment
returns-in-Ok-clause-any_moment g c = λ base at.
    taken g.D.SectorDisk.medium c.args.self.now c.step.new.self (g.D.SectorDisk.medium c.commit.new.self.disk) base
    c.step.ensures.disk c.step.ensures.limits
    (c.commit.ensures.any_moment base (Restart ∷ []) (c.in_default.ensures.matches base [] at))

pub returns-in-Err-Device-clause-any_moment : goal.returns-in-Err-Device-clause-any_moment
returns-in-Err-Device-clause-any_moment g c = λ base at.
    taken g.D.SectorDisk.medium c.args.self.now c.step.new.self (g.D.SectorDisk.medium c.commit.new.self.disk) base
    c.step.ensures.disk c.step.ensures.limits
    (c.commit.ensures.any_moment base (Restart ∷ []) (c.in_default.ensures.matches base [] at))

pub returns-in-Err-Stopped-clause-any_moment : goal.returns-in-Err-Stopped-clause-any_moment
returns-in-Err-Stopped-clause-any_moment g c = λ base at.
    taken g.D.SectorDisk.medium c.args.self.now c.step.new.self (g.D.SectorDisk.medium c.commit.new.self.disk) base
    c.step.ensures.disk c.step.ensures.limits
    (c.commit.ensures.any_moment base (Restart ∷ []) (c.in_default.ensures.matches base [] at))

pub returns-in-Err-Stopped-clause-at_end : goal.returns-in-Err-Stopped-clause-at_end
returns-in-Err-Stopped-clause-at_end g c = λ is.
    let all = c.in_default.ensures.records ∙ ap (λ (x : List ℕ). x ++ record_bytes Restart) c.requires.empty in
    let goes : c.step.new.self.stopped ≡ false = c.step.ensures.running ∙ c.requires.running in
    let why = ⊎_elim (λ stopped. absurd (never (sym stopped ∙ goes))) (λ end. end)
    (c.commit.ensures.stopped.0 (c.in-Err-Stopped.is ∙ ap Err c.in-Err-Stopped.field-0-is)) in (
      subst IsLast c.step.ensures.checkpoint why.0,
      subst (λ (j : Journal). head (form_of j) + used_of j ≡ (range_of j).count) c.step.ensures.journal
          (full_journal c.step.new.self.journal c.step.new.self.records all why.2),
    )
  where
    IsLast : CheckpointView → Type 0
    IsLast checkpoint = epoch_of checkpoint ≡ last_epoch

    never : true ≡ false → ⊥
    never is = cc

pub returns-in-Ok-clause-meanwhile : goal.returns-in-Ok-clause-meanwhile
returns-in-Ok-clause-meanwhile g c = λ base at.
    subst (λ d. EachLater GoesOn (g.D.SectorDisk.medium d) (g.D.SectorDisk.medium c.commit.new.self.disk)) c.step.ensures.disk
    (c.commit.ensures.meanwhile.goes_on base (Restart ∷ []) (c.in_default.ensures.matches base [] at))

pub returns-in-Err-Device-clause-meanwhile : goal.returns-in-Err-Device-clause-meanwhile
returns-in-Err-Device-clause-meanwhile g c = λ base at.
    subst (λ d. EachLater GoesOn (g.D.SectorDisk.medium d) (g.D.SectorDisk.medium c.commit.new.self.disk)) c.step.ensures.disk
    (c.commit.ensures.meanwhile.goes_on base (Restart ∷ []) (c.in_default.ensures.matches base [] at))

pub returns-in-Err-Stopped-clause-meanwhile : goal.returns-in-Err-Stopped-clause-meanwhile
returns-in-Err-Stopped-clause-meanwhile g c = λ base at.
    subst (λ d. EachLater GoesOn (g.D.SectorDisk.medium d) (g.D.SectorDisk.medium c.commit.new.self.disk)) c.step.ensures.disk
    (c.commit.ensures.meanwhile.goes_on base (Restart ∷ []) (c.in_default.ensures.matches base [] at))

-- the same calls, from a disk that is the same, where failed means the same
counted-as : {D : Type 0} (counts : D → Counts) {failed other : Type 0} {old mid new : D} → mid ≡ old → (failed → other) → (other → failed)
    → CountsFaultIf counts failed mid new → CountsFaultIf counts other old new
counted-as counts {failed} {other} {old} {mid} {new} same to from faults = record {
  failure = λ bad. subst (λ d. (counts new).failures ≡ counted (counts d).failures 1) same (faults.failure (from bad));
  no_failure = ⊎_elim (λ bad. inl (to bad)) (λ none. inr (subst (λ d. (counts new).failures ≡ (counts d).failures) same none)) faults.no_failure;
}

pub returns-in-Ok-clause-counts : goal.returns-in-Ok-clause-counts
returns-in-Ok-clause-counts g c =
    counted-as g.D.SectorDisk.counts c.step.ensures.disk (λ failed. let went = c.in-Ok.is in cc) (λ failed. cc) c.commit.ensures.faults

pub returns-in-Err-Device-clause-counts : goal.returns-in-Err-Device-clause-counts
returns-in-Err-Device-clause-counts g c =
    counted-as g.D.SectorDisk.counts c.step.ensures.disk (λ failed. refl) (λ failed. c.in-Err-Device.is ∙ ap Err c.in-Err-Device.field-0-is)
    c.commit.ensures.faults
