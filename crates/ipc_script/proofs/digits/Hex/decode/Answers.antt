use Rattle.std.proofs.Common.{inl, inr, sym, ◌∙◌}
use Rattle.ipc_script.proofs.HexDigits.{decoded, is_decoded}
use Rattle.ipc_script.proofs.digits.Hex.decode.Goals as goal

pub unreachable-requires : goal.unreachable-requires
unreachable-requires c =
    let digits = is_decoded c.args.self.now.digits.now c.args.self.now.well_formed in
    elim c.in-Err.ensures.err [ inl memory ↦ c.in_default.not-OutOfMemory memory | inr fault ↦ cc (sym digits.1 ∙ fault) ]

pub returns-in-Ok : goal.returns-in-Ok
returns-in-Ok c = decoded c.args.self.now.digits.now c.in-Ok.bytes.items c.args.self.now.well_formed c.in-Ok.ensures.ok
