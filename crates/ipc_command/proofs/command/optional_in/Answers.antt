use Rattle.std.proofs.Common.{◌∙◌, ap, ℕ, List, Some}
use Rattle.clap.specs.Words.{found_of}
use Rattle.clap.proofs.WalkLemmas.{first_value-rows}
use Rattle.ipc_command.proofs.command.optional_in.Goals as goal

pub returns-in_ok-to_string-in-Some : goal.returns-in_ok-to_string-in-Some
returns-in_ok-to_string-in-Some c = ap (λ (t : List ℕ). Some t) c.in_ok-to_string-in-Some.ensures.ok ∙ c.in-Some.ensures
    ∙ first_value-rows (found_of c.args.command.now) c.args.name.now

pub returns-in-None : goal.returns-in-None
returns-in-None c = c.in-None.ensures ∙ first_value-rows (found_of c.args.command.now) c.args.name.now
