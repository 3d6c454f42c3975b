use Rattle.std.proofs.Common.{◌<◌, ◌^◌, length, arith}
use Rattle.ipc_disk.specs.Medium.{IsHonest}
use Rattle.ipc_store.proofs.Leaving.{rests-still, finds}
use Rattle.ipc_store.proofs.laws.an_open_finds_what_was_acknowledged.Goals as goal

pub returns-clause-rests : goal.returns-clause-rests
returns-clause-rests g c = λ past others left disk rests opens.
    let m = g.D.SectorDisk.medium in
    rests-still m (λ d honest. omega (arith, (g.met.D.SectorDisk.shaped d (m d).contents honest.reads).count, g.met.D.SectorDisk.fits d)) past others
    left disk rests opens

pub returns-clause-found : goal.returns-clause-found
returns-clause-found g c = λ past others left disk opened rests opens on.
    let m = g.D.SectorDisk.medium in
    let fits : (d : _) → IsHonest (m d) → length (m d).contents < 2 ^ 32 =
    λ d honest. omega (arith, (g.met.D.SectorDisk.shaped d (m d).contents honest.reads).count, g.met.D.SectorDisk.fits d) in
    let still = rests-still m fits past others left disk rests opens in
    finds past others (m disk).contents (m opened.disk) opened (fits disk still.honest) (still.left (m disk).contents still.honest.reads) on
