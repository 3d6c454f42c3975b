-- The bytes of a root say its numbers.
use Rattle.std.proofs.Common.{◌≡◌, ◌++◌, ℕ, List, length, arith}
use Rattle.std.proofs.lemmas.List.{length-append}
use Rattle.byteorder.specs.Endian.{big_bytes}
use Rattle.byteorder.specs.Numbers.{length-bytes_high_first}
use Rattle.ipc_heap.proofs.Roots.{put_behind, written-root}
use Rattle.ipc_heap.proofs.root.root_sector.Goals as goal

pub returns : goal.returns
returns c =
    let root = c.args.root in
    let epoch : List ℕ = big_bytes 8 root.epoch in
    let first : List ℕ = big_bytes 4 root.first in
    let e : length epoch ≡ 8 = length-bytes_high_first 8 root.epoch in
    let both : length (epoch ++ first) ≡ 12 = omega (arith, length-append epoch first, e, length-bytes_high_first 4 root.first) in
    let two = put_behind epoch _ c.write_u64.new.buf c.write_u32.new.buf first _ _ 8 e c.write_u64.ensures c.write_u32.ensures in
    written-root root.epoch root.first root.len _ _ (omega arith) (omega arith) (omega arith)
    (put_behind (epoch ++ first) _ _ c.write_u32-2.new.buf (big_bytes 4 root.len) _ _ 12 both two c.write_u32-2.ensures)
