use Rattle.std.proofs.Common.{◌≡◌, Some, None, take, sym, ap, ◌∙◌, arith}
use Rattle.std.proofs.lemmas.Bool.{leb-true, le-leb}
use Rattle.ipc_image.specs.declared.format.Format.{Format}
use Rattle.ipc_image.specs.Superblock.{named_length}
use Rattle.ipc_image.proofs.Reading.{no-features, of-passes, written-front}
use Rattle.ipc_image.proofs.Slices.{agree, differ}
use Rattle.ipc_image.proofs.superblock.is_superblock.Goals as goal

pub returns-then-ne : goal.returns-then-ne
returns-then-ne c = (
  λ no. cc,
  λ is.
      let form : Format = c.args.form in
      absurd (differ c.named_bytes.result.now c.named_bytes-2.result.now c.ne.result c.ne.ensures c.if-ne.true
      (c.named_bytes.ensures ∙ ap (take (named_length form)) c.superblock_of-again.ensures
      ∙ written-front form c.requires.known c.args.found.now.sectors c.args.found.now.limits
      ∙ sym (c.named_bytes-2.ensures ∙ is.named))),
)

pub returns-in-Ok : goal.returns-in-Ok
returns-in-Ok c =
    let form : Format = c.args.form in (
      λ le. record {
        named = sym c.named_bytes-2.ensures ∙ sym (agree c.named_bytes.result.now c.named_bytes-2.result.now c.ne.result c.ne.ensures c.if-ne.false)
            ∙ c.named_bytes.ensures ∙ ap (take (named_length form)) c.superblock_of-again.ensures
            ∙ written-front form c.requires.known c.args.found.now.sectors c.args.found.now.limits;
        features = no-features form c.args.sector.now c.requires.of;
        of = c.in-Ok.ensures.of c.requires.version c.requires.journal;
        room = omega (arith, c.in-Ok.ensures.exact, leb-true c.in-Ok.need c.args.found.now.sectors le);
      },
      λ is. le-leb c.in-Ok.need c.args.found.now.sectors (omega (arith, is.room, c.in-Ok.ensures.exact)),
    )

pub returns-in-Err : goal.returns-in-Err
returns-in-Err c = (
  λ no. cc,
  λ is.
      let both : Some c.in-Err.field-0.field ≡ None = sym c.in-Err.ensures.first ∙ of-passes c.args.form c.args.found.now.limits is.of in
      cc,
)
