-- Nothing is missing of a whole sector.
use Rattle.std.proofs.Common.{◌≡◌, ◌≤◌, List, ℕ, ◌++◌, ◌-◌, length, replicate, ap, ◌∙◌, sym, subst, arith}
use Rattle.std.specs.Prelude.{slice_set, OnOk}
use Rattle.std.specs.Array.{IsFirstChunk}
use Rattle.std.proofs.lemmas.List.{append-nil, take_all}
use Rattle.ipc_disk.specs.Medium.{IsHonest, Writes}
use Rattle.ipc_disk.specs.Standing.{filled}
use Rattle.ipc_disk.proofs.standing.write_filled.Goals as goal

whole_is_filled : (bytes sector : List ℕ) → length bytes ≤ 512 → IsFirstChunk bytes sector 512 → sector ≡ filled bytes
whole_is_filled bytes sector most first =
    let long : length bytes ≡ 512 = omega (arith, most, first.enough) in
    first.same ∙ take_all 512 bytes most
    ∙ sym (ap (λ (n : ℕ). bytes ++ replicate (512 - n) 0) long ∙ append-nil bytes)

pub returns-in-Some-clause-written : goal.returns-in-Some-clause-written
returns-in-Some-clause-written g c =
    let old = g.D.SectorDisk.medium c.args.disk.now in
    subst (λ (s : List ℕ). OnOk c.write.result (IsHonest old
    → (g.D.SectorDisk.medium c.write.new.self).contents ≡ slice_set old.contents c.args.at s))
    (whole_is_filled c.args.bytes.now c.in-Some.sector.now c.requires.short c.in-Some.ensures.cases) c.write.ensures.written

pub returns-in-Some-clause-medium : goal.returns-in-Some-clause-medium
returns-in-Some-clause-medium g c =
    subst (λ (s : List ℕ). Writes c.args.at s (g.D.SectorDisk.medium c.args.disk.now) (g.D.SectorDisk.medium c.write.new.self))
    (whole_is_filled c.args.bytes.now c.in-Some.sector.now c.requires.short c.in-Some.ensures.cases) c.write.ensures.medium
