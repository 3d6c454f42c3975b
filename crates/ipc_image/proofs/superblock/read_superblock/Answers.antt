use Rattle.std.proofs.Common.{◌≡◌, Option, Some, None, Result, true, false, sym, ◌∙◌}
use Rattle.std.specs.Prelude.{IsErrOf}
use Rattle.std.specs.Option.{ok_or}
use Rattle.ipc_image.specs.declared.fault.SuperblockFault.{SuperblockFault}
use Rattle.ipc_image.specs.declared.fault.SuperblockFault.TheVariants.{NotFormatted, Damaged}
use Rattle.ipc_image.specs.declared.superblock.Superblock.{Superblock}
use Rattle.ipc_image.proofs.Reading.{begins, formatted, is-of, not_formatted}
use Rattle.ipc_image.proofs.superblock.read_superblock.Goals as goal

pub returns-then-not-starts_with-clause-only : goal.returns-then-not-starts_with-clause-only
returns-then-not-starts_with-clause-only c named limits within is =
    absurd (not_formatted c.args.sector.now c.starts_with.result c.starts_with.ensures.value c.if-not-starts_with.true
    (begins c.args.form c.requires named limits c.args.sector.now is))

pub returns-then-not-is_of-clause-only : goal.returns-then-not-is_of-clause-only
returns-then-not-is_of-clause-only c named limits within is =
    let no : true ≡ false = sym (is-of c.args.form c.requires named limits c.args.sector.now is) ∙ sym c.is_of.ensures ∙ c.if-not-is_of.true in
    cc

-- what has the beginning of a superblock is not without it
found_or : (o : Option Superblock) (r : Result Superblock SuperblockFault) → r ≡ ok_or o Damaged → IsErrOf r NotFormatted → ⊥
found_or (Some x) r is other = let fault = rw is at other in cc
found_or None r is other = let fault = rw is at other in cc

pub returns-clause-not_formatted : goal.returns-clause-not_formatted
returns-clause-not_formatted c = (
  λ other. absurd (found_or c.superblock_in.result c.ok_or.result c.ok_or.ensures.value other),
  λ no. absurd (no (formatted c.args.sector.now c.starts_with.result c.starts_with.ensures.value c.if-not-starts_with.false)),
)
