use Rattle.std.proofs.Common.{◌<◌, ◌^◌, length, arith}
use Rattle.ipc_disk.specs.Medium.{IsHonest}
use Rattle.ipc_store.proofs.Enlargements.{enlargements-rest, enlarged-stands}
use Rattle.ipc_store.proofs.laws.an_upgrade_to_version_three_keeps_the_state.Given.{Over}
use Rattle.ipc_store.proofs.laws.an_upgrade_to_version_three_keeps_the_state.Goals as goal

-- a disk has no more sectors than can be counted
few : (g : Over) (d : _) → IsHonest (g.D.SectorDisk.medium d) → length (g.D.SectorDisk.medium d).contents < 2 ^ 32
few g d honest = omega (arith, (g.met.D.SectorDisk.shaped d (g.D.SectorDisk.medium d).contents honest.reads).count, g.met.D.SectorDisk.fits d)

pub returns-clause-rests : goal.returns-clause-rests
returns-clause-rests g c = λ own limits s left disk three rests upgrades.
    enlargements-rest own limits s three (c.restart_twice_is_once.ensures.state own s) g.D.SectorDisk.medium (few g) left disk rests upgrades

pub returns-clause-stands : goal.returns-clause-stands
returns-clause-stands g c = λ own limits s disk new three rests is.
    enlarged-stands own limits s three (c.restart_twice_is_once.ensures.state own s) g.D.SectorDisk.medium (few g) disk new rests is
