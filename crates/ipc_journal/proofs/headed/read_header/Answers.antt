-- What the header says, in each case.
use Rattle.std.proofs.Common.{inl, inr, refl, arith}
use Rattle.ipc_journal.specs.Headed.{Counts}
use Rattle.ipc_journal.proofs.Headers.{read-epoch, read-used}
use Rattle.ipc_journal.proofs.headed.read_header.Goals as goal
use Rattle.ipc_journal.proofs.headed.read_header.Goals.{then-found-epoch-2-via-then-found-epoch-2, then-found-epoch-2-via-else-found-epoch-2+then-used-range}

pub returns-then-found-epoch-clause-counts : goal.returns-then-found-epoch-clause-counts
returns-then-found-epoch-clause-counts g c = λ honest.
    let e = read-epoch c.args.range _ _ _ (c.in_ok-read.ensures.bytes honest) c.read_u64-found.ensures in
    Counts.Older (omega (arith, e)) refl

pub returns-then-found-epoch-2-clause-damaged : goal.returns-then-found-epoch-2-clause-damaged
returns-then-found-epoch-2-clause-damaged g c = λ sector is honest.
    let e = read-epoch c.args.range _ _ _ (c.in_ok-read.ensures.bytes honest) c.read_u64-found.ensures in
    let u = read-used c.args.range _ _ _ (c.in_ok-read.ensures.bytes honest) c.read_u32-used.ensures in
    elim c.then-found-epoch-2.branch [
      | then-found-epoch-2-via-then-found-epoch-2 w ↦ inl (omega (arith, e, w.if-found-epoch-2.true))
      | then-found-epoch-2-via-else-found-epoch-2+then-used-range w ↦ inr (omega (arith, e, w.if-found-epoch-2.false), omega (arith, u, w.if-used-range.true))
    ]

pub returns-clause-counts : goal.returns-clause-counts
returns-clause-counts g c = λ honest.
    let e = read-epoch c.args.range _ _ _ (c.in_ok-read.ensures.bytes honest) c.read_u64-found.ensures in
    let u = read-used c.args.range _ _ _ (c.in_ok-read.ensures.bytes honest) c.read_u32-used.ensures in
    Counts.Current (omega (arith, e)) u (omega arith)
