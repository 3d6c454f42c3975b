-- One call after another.
use Rattle.std.proofs.lemmas.Result.{on_ok_weaker}
use Rattle.ipc_disk.proofs.CallerLemmas.{IsSameDisk-then}
use Rattle.ipc_store.proofs.Formatting.{way-erase, way-prepare, way-superblock}
use Rattle.ipc_store.proofs.format.make.Goals as goal

pub returns-in_err-erase-clause-any_moment : goal.returns-in_err-erase-clause-any_moment
returns-in_err-erase-clause-any_moment g c = λ s stand honest.
    way-erase c.args.limits.now s _ _ (c.erase.ensures.any_moment honest)

pub returns-in_err-prepare-clause-any_moment : goal.returns-in_err-prepare-clause-any_moment
returns-in_err-prepare-clause-any_moment g c = λ s stand honest.
    way-prepare c.args.limits.now s _ _ _ (way-erase c.args.limits.now s _ _ (c.erase.ensures.any_moment honest))
    (c.prepare.ensures.any_moment (c.erase.ensures.same.honest.0 honest) (c.in_ok-erase.ensures.erased honest))

pub returns-clause-ok : goal.returns-clause-ok
returns-clause-ok g c =
    on_ok_weaker c.put_superblock.result (λ ok s stand honest.
    let erased = c.erase.ensures.same.honest.0 honest in
    ok s (c.prepare.ensures.same.honest.0 erased)
    (λ image now. (c.in_ok-prepare.ensures.prepared s stand erased (c.in_ok-erase.ensures.erased honest) image now).1))
    c.put_superblock.ensures.ok

pub returns-clause-whole : goal.returns-clause-whole
returns-clause-whole g c =
    on_ok_weaker c.put_superblock.result (λ whole honest.
    whole (c.prepare.ensures.same.honest.0 (c.erase.ensures.same.honest.0 honest))) c.put_superblock.ensures.whole

pub returns-clause-any_moment : goal.returns-clause-any_moment
returns-clause-any_moment g c = λ s stand honest.
    let erased = c.erase.ensures.same.honest.0 honest in
    let none = c.in_ok-erase.ensures.erased honest in
    way-superblock c.args.limits.now s _ _ _
    (way-prepare c.args.limits.now s _ _ _ (way-erase c.args.limits.now s _ _ (c.erase.ensures.any_moment honest))
    (c.prepare.ensures.any_moment erased none))
    (λ image now. (c.in_ok-prepare.ensures.prepared s stand erased none image now).0)
    (c.put_superblock.ensures.any_moment s (c.prepare.ensures.same.honest.0 erased)
    (λ image now. (c.in_ok-prepare.ensures.prepared s stand erased none image now).1))

pub returns-in_err-prepare-clause-same : goal.returns-in_err-prepare-clause-same
returns-in_err-prepare-clause-same g c = IsSameDisk-then c.erase.ensures.same c.prepare.ensures.same

pub returns-clause-same : goal.returns-clause-same
returns-clause-same g c = IsSameDisk-then (IsSameDisk-then c.erase.ensures.same c.prepare.ensures.same) c.put_superblock.ensures.same
