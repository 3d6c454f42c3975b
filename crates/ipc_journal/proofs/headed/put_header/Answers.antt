-- The header is the one sector that is written.
use Rattle.std.proofs.Common.{◌≡◌, length, ap, ◌∙◌, arith}
use Rattle.std.proofs.lemmas.Result.{on_ok_weaker}
use Rattle.ipc_disk.specs.Medium.{Image}
use Rattle.ipc_disk.specs.Standing.{sector_at}
use Rattle.ipc_disk.proofs.CallerLemmas.{sector_at-set_same}
use Rattle.ipc_journal.proofs.CallerLemmas.{Holds-header}
use Rattle.ipc_journal.proofs.headed.put_header.Goals as goal

pub returns-clause-empty : goal.returns-clause-empty
returns-clause-empty g c =
    on_ok_weaker c.write.result (λ written honest.
    let old = (g.D.SectorDisk.medium c.args.disk.now).contents in
    let long : length old ≡ g.D.SectorDisk.size c.args.disk.now = (g.met.D.SectorDisk.shaped c.args.disk.now old honest.reads).count in
    Holds-header c.args.range c.args.epoch _ c.requires.some (omega arith)
    (ap (λ (image : Image). sector_at image c.args.range.first) (written honest)
    ∙ sector_at-set_same old c.args.range.first c.header_sector.result (omega (arith, long, c.requires.some, c.requires.within))
    ∙ c.header_sector.ensures.bytes))
    c.write.ensures.written
