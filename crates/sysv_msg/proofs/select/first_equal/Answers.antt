use Rattle.std.proofs.Common.{FitsSigned, w64, ap, ◌==◌, ◌∙◌}
use Rattle.std.specs.Prelude.{position}
use Rattle.std.proofs.lemmas.Int.{to_z-of_z}
use Rattle.sysv_msg.specs.Ranks.{rank_of}
use Rattle.sysv_msg.proofs.Ranks.{position_of_type}
use Rattle.sysv_msg.proofs.select.first_equal.Goals as goal

pub returns : goal.returns
returns c =
    let fits : FitsSigned w64 c.args.mtype = c.ranges.mtype in
    c.first_of.ensures ∙ ap (λ n. position (λ m. rank_of m.mtype == n) c.args.messages.now.items) (simp to_z-of_z at c.rank_of.ensures)
    ∙ position_of_type c.args.messages.now.items c.args.mtype fits
