-- A write changes one last value, and in each image at most that sector; what was there is kept.
use Rattle.std.proofs.Common.{◌<◌, ◌^◌, ℕ, sym, subst}
use Rattle.std.proofs.lemmas.List.{length-set}
use Rattle.premises.proofs.Sectors.{contents-set, whole-set, past_of-kept, were-kept, Writes-set}
use Rattle.premises.proofs.remembering.RememberingDiskSectorDisk.write.Goals as goal

pub invariant_of-self-2-clause-whole : goal.invariant_of-self-2-clause-whole
invariant_of-self-2-clause-whole c =
    whole-set c.args.self.now.slots.items c.args.at c.index_mut.result.now c.args.from.now c.told-from c.fits-from c.requires c.index_mut.ensures.value
    c.args.self.now.whole

pub invariant_of-self-2-clause-few : goal.invariant_of-self-2-clause-few
invariant_of-self-2-clause-few c = subst (λ (n : ℕ). n < 2 ^ 32) (sym (length-set c.args.self.now.slots.items c.args.at _)) c.args.self.now.few

pub invariant_of-self-2-clause-were : goal.invariant_of-self-2-clause-were
invariant_of-self-2-clause-were c =
    were-kept _ _ _ c.args.self.now.slots.items c.in-Ok.ensures.ok c.deref.ensures.value _ (length-set c.args.self.now.slots.items c.args.at _)
    c.args.self.now.were c.args.self.now.whole

pub returns-clause-written : goal.returns-clause-written
returns-clause-written c = λ honest. contents-set c.args.self.now.slots.items c.args.at c.index_mut.result.now c.args.from.now

pub returns-clause-medium : goal.returns-clause-medium
returns-clause-medium c =
    Writes-set c.args.self.now.slots.items c.args.at c.index_mut.result.now c.args.from.now _ _ c.requires c.index_mut.ensures.value
    (past_of-kept _ _ _ c.args.self.now.slots.items c.in-Ok.ensures.ok c.deref.ensures.value)
