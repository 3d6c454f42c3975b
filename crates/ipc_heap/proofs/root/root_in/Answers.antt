-- What the root says, in each case.
use Rattle.std.proofs.Common.{false, refl, sym, subst, arith}
use Rattle.std.specs.Prelude.{IsTrue}
use Rattle.ipc_disk.specs.Range.{IsInside}
use Rattle.ipc_heap.proofs.Roots.{read-root}
use Rattle.ipc_heap.proofs.root.root_in.Goals as goal
use Rattle.ipc_heap.proofs.root.root_in.Goals.{then-root-eq0-via-then-root-eq0}
use Rattle.ipc_heap.proofs.root.root_in.Goals.{then-root-eq0-via-else-root-eq0+then-root-lt4}
use Rattle.ipc_heap.proofs.root.root_in.Goals.{then-root-eq0-via-else-root-eq0+else-root-lt4+then-from-most}
use Rattle.ipc_heap.proofs.root.root_in.Goals.{then-root-eq0-via-else-root-eq0+else-root-lt4+else-from-most+then-not-is_inside}

pub returns-then-root-eq0 : goal.returns-then-root-eq0
returns-then-root-eq0 c root =
    let read = read-root c.args.sector.now _ _ _ c.read_u64.ensures c.read_u32.ensures c.read_u32-2.ensures in
    elim c.then-root-eq0.branch [
      | then-root-eq0-via-then-root-eq0 w ↦ omega (arith, read.epoch, root.positive, w.if-root-eq0.true)
      | then-root-eq0-via-else-root-eq0+then-root-lt4 w ↦ omega (arith, read.len, root.some, w.if-root-lt4.true)
      | then-root-eq0-via-else-root-eq0+else-root-lt4+then-from-most w ↦ omega (arith, read.len, root.most, w.if-from-most.true)
      | then-root-eq0-via-else-root-eq0+else-root-lt4+else-from-most+then-not-is_inside w ↦
          let inside : IsInside c.args.range c.read_u32.result = subst (IsInside c.args.range) read.first root.first in
          let is : IsTrue false = w.if-not-is_inside.ensures.1 inside in
          absurd cc
    ]

pub returns : goal.returns
returns c =
    let read = read-root c.args.sector.now _ _ _ c.read_u64.ensures c.read_u32.ensures c.read_u32-2.ensures in (
      read,
      record {
        positive = omega (arith, read.epoch, c.if-root-eq0.false);
        some = omega (arith, read.len, c.if-root-lt4.false);
        most = omega (arith, read.len, c.if-from-most.false);
        first = subst (IsInside c.args.range) (sym read.first) (c.if-not-is_inside.ensures.0 refl);
      },
    )
