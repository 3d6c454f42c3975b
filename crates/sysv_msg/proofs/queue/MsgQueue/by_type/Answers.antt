use Rattle.std.proofs.Common.{FitsSigned, w64, map, sym, ◌∙◌, subst, rules}
use Rattle.std.specs.List.Sorted.{IsPermutation}
use Rattle.std.proofs.lemmas.Int.{to_z-of_z}
use Rattle.sysv_msg.specs.Queue.{Queue}
use Rattle.sysv_msg.specs.Ranks.{rank_of}
use Rattle.sysv_msg.proofs.Ranks.{no_type_at, ranks_same, ranks_up, type_at}
use Rattle.sysv_msg.proofs.queue.MsgQueue.by_type.Goals as goal

pub returns-in_err-rank : goal.returns-in_err-rank
returns-in_err-rank c types up same =
    let ms = c.self.inside.messages.items in
    let own = subst (λ (q : Queue). IsPermutation (map (λ m. m.mtype) q.messages) types) (sym c.self.view_is) same in
    c.from_residual.ensures
    ∙ no_type_at ms types own c.args.place (sym c.in_err-rank.was ∙ c.rank_at.ensures.rank (map rank_of types) (ranks_up types up) (ranks_same ms types own))

pub returns : goal.returns
returns c types up same =
    let ms = c.self.inside.messages.items in
    let own = subst (λ (q : Queue). IsPermutation (map (λ m. m.mtype) q.messages) types) (sym c.self.view_is) same in
    let fits : FitsSigned w64 c.type_of.result = search rules in
    rw to_z-of_z (type_at ms types own c.args.place c.in_ok-rank.rank c.type_of.result fits c.type_of.ensures
    (sym c.in_ok-rank.was ∙ c.rank_at.ensures.rank (map rank_of types) (ranks_up types up) (ranks_same ms types own)))
