-- Each image is one of before, or begins with zeros.
use Rattle.std.proofs.Common.{◌⊎◌, inl, inr, subst, sym, arith}
use Rattle.std.proofs.lemmas.Result.{on_ok_weaker}
use Rattle.ipc_disk.proofs.CallerLemmas.{EachImageSince-set}
use Rattle.ipc_store.specs.Relations.Format.{IsErased}
use Rattle.ipc_store.proofs.Formatting.{zeros, erased-zeros}
use Rattle.ipc_store.proofs.format.erase.Goals as goal

pub returns-clause-erased : goal.returns-clause-erased
returns-clause-erased g c =
    let old = g.D.SectorDisk.medium c.args.disk.now in
    on_ok_weaker c.put_durably.result (λ written honest image now. subst IsErased (sym (written honest image now))
    (erased-zeros old.contents
    (omega (arith, (g.met.D.SectorDisk.shaped c.args.disk.now old.contents honest.reads).count, c.requires))))
    c.put_durably.ensures.written

pub returns-clause-any_moment : goal.returns-clause-any_moment
returns-clause-any_moment g c = λ honest.
    let old = g.D.SectorDisk.medium c.args.disk.now in
    EachImageSince-set old _ 0 zeros (λ image. old.images_now image ⊎ IsErased image)
    (c.put_durably.ensures.any_moment honest) (λ image now. inl now)
    (λ image now. inr (erased-zeros image
    (omega (arith, (g.met.D.SectorDisk.shaped c.args.disk.now image now).count, c.requires))))
