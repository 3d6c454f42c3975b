use Rattle.std.proofs.Common.{◌≡◌, ◌∙◌, ap, refl, [], Option, Some, None, Bor}
use Rattle.std.proofs.lemmas.Result.{IfOk-weaker}
use Rattle.std.specs.Prelude.{option_map, unwrap_or}
use Rattle.clap.specs.Words.{Text, found_of}
use Rattle.clap.proofs.WalkLemmas.{first_value-rows}
use Rattle.ipc_command.proofs.command.text_in.Goals as goal

-- the text that was found, and the empty one if there is none
text : (r : Option (Bor Text)) (other : Bor Text) (found : Option Text) → other.now ≡ [] → option_map (λ s. s.now) r ≡ found
    → (unwrap_or r other).now ≡ unwrap_or found []
text None other found empty is = empty ∙ ap (λ (o : Option Text). unwrap_or o []) is
text (Some s) other found empty is = ap (λ (o : Option Text). unwrap_or o []) is

pub returns : goal.returns
returns c = IfOk-weaker c.to_string.result _ _
    (λ text_is same. same ∙ ap (λ (s : Bor Text). s.now) c.unwrap_or.ensures
    ∙ text c.get_str.result _ _ refl (c.get_str.ensures ∙ first_value-rows (found_of c.args.command.now) c.args.name.now))
    c.to_string.ensures.ok
