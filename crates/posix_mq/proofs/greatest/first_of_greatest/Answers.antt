use Rattle.std.proofs.Common.{◌∙◌}
use Rattle.posix_mq.proofs.Priorities.{greatest_position}
use Rattle.posix_mq.proofs.greatest.first_of_greatest.Goals as goal

pub returns : goal.returns
returns c =
    c.first_of.ensures
    ∙ greatest_position c.args.messages.now.items c.in_ok-greatest.greatest c.in_ok-greatest.ensures.greatest c.in_ok-greatest.ensures.found
