-- The journal leads from the objects to a state, and there is a next epoch or none.
use Rattle.std.proofs.Common.{◌≡◌, inl, inr, ℕ, List, length, refl, sym, ap, subst, ◌∙◌}
use Rattle.ipc_limits.specs.declared.limits.Limits.{Limits}
use Rattle.ipc_state.specs.State.{restart}
use Rattle.ipc_checkpoint.specs.View.{epoch_of as saved_epoch}
use Rattle.ipc_disk.specs.Medium.{IsHonest, IsDurable}
use Rattle.ipc_engine.specs.Event.{PlainEvent}
use Rattle.ipc_image.specs.Format.{format_one}
use Rattle.ipc_store.specs.Image.{HasBatches, LeadToBy}
use Rattle.ipc_store.proofs.Refusals.{damage-map, passed}
use Rattle.ipc_store.proofs.upgrade.go_through_journal.Given.{Over}
use Rattle.ipc_store.proofs.upgrade.go_through_journal.Goals as goal
use Rattle.ipc_store.proofs.upgrade.go_through_journal.Goals.{In_ok-load_journal}

-- the room has the bytes of a batch of the old version
long : (g : Over) (c : In_ok-load_journal g) → length c.deref_mut.result.now ≡ format_one.batch
long g c = ap length c.deref_mut.ensures.value ∙ c.in_ok-room.ensures

-- the batches of the image, which lead from the machine's state
led : (g : Over) (c : In_ok-load_journal g) → IsHonest (g.D.SectorDisk.medium c.args.disk.now) → IsDurable (g.D.SectorDisk.medium c.args.disk.now)
    → (batches : List (List PlainEvent)) × HasBatches format_one (saved_epoch c.args.checkpoint.now) batches (g.D.SectorDisk.medium c.args.disk.now).contents
    × LeadToBy format_one.batch c.args.engine.now.limits c.args.engine.now.state batches c.load_journal.new.engine.state
led g c honest durable =
    let found = c.in_ok-load_journal.ensures.stands honest in (
      found.0,
      found.1,
      subst (λ (n : ℕ). LeadToBy n c.args.engine.now.limits c.args.engine.now.state found.0 c.load_journal.new.engine.state) (long g c) found.2,
    )

pub returns-in_err-load_journal-clause-refused : goal.returns-in_err-load_journal-clause-refused
returns-in_err-load_journal-clause-refused g c =
    passed _ c.from_residual-in_err-load_journal.result c.in_err-load_journal.field-0.0 c.from_residual-in_err-load_journal.ensures.1
    (damage-map _ _ c.in_err-load_journal.field-0.0
    (λ sector is honest durable has. inl (is (sym (ap length c.deref_mut.ensures.value ∙ c.in_ok-room.ensures)) honest has))
    c.in_err-load_journal.ensures.refused)

pub returns-then-epoch-eq18446744073709551615-clause-refused : goal.returns-then-epoch-eq18446744073709551615-clause-refused
returns-then-epoch-eq18446744073709551615-clause-refused g c = λ honest durable has.
    let all = led g (goal.at.returns-then-epoch-eq18446744073709551615-clause-refused g c).In_ok-load_journal honest durable in
    inr (
      record {
        limits = c.args.engine.now.limits;
        state = c.load_journal.new.engine.state;
        stands = record {
          epoch = saved_epoch c.args.checkpoint.now;
          base = c.args.engine.now.state;
          kept = has;
          batches = all.0;
          journal = all.1;
          leads = all.2;
        };
        epoch = has.there.there.current ∙ sym c.epoch.ensures ∙ c.if-epoch-eq18446744073709551615.true;
      },
      refl,
    )

pub returns-clause-restarted : goal.returns-clause-restarted
returns-clause-restarted g c = (
  c.load_journal.new.engine.state,
  c.in_ok-step.ensures.state ∙ ap (λ (l : Limits). restart l c.load_journal.new.engine.state) c.load_journal.ensures.limits,
  led g (goal.at.returns-clause-restarted g c).In_ok-load_journal,
)

pub returns-clause-tracked : goal.returns-clause-tracked
returns-clause-tracked g c = λ base is. c.step.ensures.tracked base (c.load_journal.ensures.tracked base is)
