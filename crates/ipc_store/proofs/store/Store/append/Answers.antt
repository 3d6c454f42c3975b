-- Each exit: the images since the start, and the store after it.
use Rattle.std.proofs.Common.{◌≡◌, ◌+◌, ℕ, [], length, refl, sym, ap, ◌∙◌, arith}
use Rattle.std.proofs.lemmas.List.{length-append}
use Rattle.byteorder.specs.Endian.{big_bytes}
use Rattle.ipc_disk.specs.Counts.{with_calls}
use Rattle.ipc_journal.specs.View.{append_syncs, append_writes, form_of}
use Rattle.ipc_engine.specs.Step.{run}
use Rattle.ipc_store.proofs.Committing.{is_batch, any_moment-append, committed}
use Rattle.ipc_store.proofs.Devices.{stays-on-disk}
use Rattle.ipc_store.proofs.Meanwhile.{readable-append}
use Rattle.ipc_store.proofs.store.Store.append.Goals as goal

pub append-requires-clause-batch : goal.append-requires-clause-batch
append-requires-clause-batch g c = is_batch c.self.inside.batch.records _ c.bytes.ensures.bytes c.bytes.ensures.size

pub returns-in-Err-clause-any_moment : goal.returns-in-Err-clause-any_moment
returns-in-Err-clause-any_moment g c = rw (sym c.self.view_is) (λ base pending at.
    any_moment-append g.D.SectorDisk.medium _ _ base pending at c.bytes.ensures.size _ c.bytes.ensures.bytes
    (c.append.ensures.others at.device.honest) c.append.ensures.any_moment)

pub returns-clause-any_moment : goal.returns-clause-any_moment
returns-clause-any_moment g c = rw (sym c.self.view_is) (λ base pending at.
    any_moment-append g.D.SectorDisk.medium _ _ base pending at c.bytes.ensures.size _ c.bytes.ensures.bytes
    (c.append.ensures.others at.device.honest) c.append.ensures.any_moment)

pub returns-in-Err-clause-meanwhile : goal.returns-in-Err-clause-meanwhile
returns-in-Err-clause-meanwhile g c = rw (sym c.self.view_is)
    (readable-append g.D.SectorDisk.medium _ _ _ c.bytes.ensures.bytes c.append.ensures.others c.append.ensures.any_moment)

pub returns-clause-meanwhile : goal.returns-clause-meanwhile
returns-clause-meanwhile g c = rw (sym c.self.view_is)
    (readable-append g.D.SectorDisk.medium _ _ _ c.bytes.ensures.bytes c.append.ensures.others c.append.ensures.any_moment)

pub returns-clause-matches : goal.returns-clause-matches
returns-clause-matches g c = rw (sym c.self.view_is, c.clear.ensures) (λ base pending at.
    committed _ _ _ base pending at c.bytes.ensures.size _ c.bytes.ensures.bytes (c.append.ensures.others at.device.honest) _ _ _
    c.append.ensures.form c.append.ensures.range c.append.ensures.epoch c.in_default.ensures.acknowledged)

pub returns-clause-counts : goal.returns-clause-counts
returns-clause-counts g c = rw (sym c.self.view_is) (
    let counts = g.D.SectorDisk.counts in
    let form = form_of c.self.inside.journal in
    let records = c.self.inside.batch.records in
    let long : length c.bytes.result.now ≡ 4 + length records =
    ap length c.bytes.ensures.bytes ∙ length-append (big_bytes 4 (length records)) records in
    c.in_default.ensures.counts.ok ∙ ap (λ (n : ℕ). with_calls (append_writes form n) (append_syncs form) (counts c.self.inside.disk)) long)

pub invariant_of-self-2 : goal.invariant_of-self-2
invariant_of-self-2 g c = (
  stays-on-disk _ _ _ _ _ _ _ c.append.ensures.same.sectors refl c.append.ensures.form c.append.ensures.range
      (c.append.ensures.epoch ∙ c.self.invariant.0.epoch) c.self.invariant.0,
  omega (arith, c.self.invariant.1, c.count.ensures.count, ap (λ b. b.count) c.clear.ensures),
  λ goes honest. let found = c.self.invariant.2 goes (c.append.ensures.same.honest.1 honest) in
      let at = found.1.1 in
      rw c.clear.ensures (
        (run c.self.inside.engine.limits found.0 found.1.0).state,
        (
          [],
          committed _ _ _ found.0 found.1.0 at c.bytes.ensures.size _ c.bytes.ensures.bytes (c.append.ensures.others at.device.honest) _ _ _
              c.append.ensures.form c.append.ensures.range c.append.ensures.epoch c.in_default.ensures.acknowledged,
        ),
      ),
  c.self.invariant.3,
)
