-- What is no root is damaged.
use Rattle.std.proofs.Common.{ℕ, List, inl, ◌≡◌, [], sym, subst}
use Rattle.std.proofs.lemmas.Option.{get_or_from_slice_get}
use Rattle.ipc_heap.specs.Relations.Root.{IsRead}
use Rattle.ipc_heap.specs.Damage.{IsRoot, IsFirstDamage}
use Rattle.ipc_heap.specs.Damage.IsFirstDamage.{Root}
use Rattle.ipc_heap.specs.declared.error.OpenError.TheVariants.{Device}
use Rattle.ipc_heap.proofs.Opens.{failed_as}
use Rattle.ipc_heap.proofs.opening.read_root.Goals as goal

pub returns-in-Some-clause-read : goal.returns-in-Some-clause-read
returns-in-Some-clause-read g c honest =
    let image = (g.D.SectorDisk.medium c.args.disk.now).contents in
    subst (λ (s : List ℕ). IsRead s c.in-Some.found)
    (sym (get_or_from_slice_get image c.args.root c.read.new.into [] (c.in_ok-read.ensures.bytes honest))) c.in-Some.ensures.0

pub returns-in_err-read-clause-reads : goal.returns-in_err-read-clause-reads
returns-in_err-read-clause-reads g c =
    let call = c.in_err-read.ensures.call in
    let medium = c.in_err-read.ensures.medium in
    record {
      same = record { sectors = call.sectors; honest = medium.time.honest };
      stays = λ honest. medium;
      failure = λ bad. call.err;
      no_failure = inl (failed_as c.from_residual.result Device c.from_residual.ensures.1);
    }

pub returns-in-None-clause-named : goal.returns-in-None-clause-named
returns-in-None-clause-named g c = λ sector is honest.
    let image = (g.D.SectorDisk.medium c.args.disk.now).contents in
    let same : c.args.root ≡ sector = cc in
    subst (IsFirstDamage c.args.range c.args.root image) same
    (Root (λ root. c.in-None.ensures
    (subst (IsRoot c.args.range) (get_or_from_slice_get image c.args.root c.read.new.into [] (c.in_ok-read.ensures.bytes honest)) root)))
