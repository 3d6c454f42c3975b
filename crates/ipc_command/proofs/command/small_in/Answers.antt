use Rattle.std.proofs.Common.{◌≡◌, ◌∙◌, ap, sym, refl, Bool, true, false, Option, Some, None, codes}
use Rattle.std.specs.Prelude.{unwrap_or}
use Rattle.std.specs.Option.{option_map_or}
use Rattle.std.specs.Str.{bytes_eq}
use Rattle.std.specs.Str.Parse.{ParsesBool}
use Rattle.std.specs.Cmp.Lexicographic.{same_text}
use Rattle.clap.specs.Matches.{ReadsOne}
use Rattle.clap.specs.Words.{Text, found_of}
use Rattle.clap.proofs.WalkLemmas.{one_text-rows}
use Rattle.ipc_command.proofs.command.small_in.Goals as goal

-- what `get_one` reads as a `bool`, and false if that is nothing
read : (E : Type 0) (one : Option Text) (r : Option Bool) → (one ≡ None → r ≡ None)
    → ((t : Text) → one ≡ Some t → ReadsOne (ParsesBool {E = E}) t r)
    → unwrap_or r false ≡ option_map_or (λ t. bytes_eq t (codes "true")) one false
read E None r none value = rw (none refl) refl
read E (Some t) (Some true) none value = rw (value t refl) refl
read E (Some t) (Some false) none value = rw (value t refl) refl
read E (Some t) None none value = other (bytes_eq t (codes "true")) refl
  where
    other : (is : Bool) → bytes_eq t (codes "true") ≡ is → false ≡ bytes_eq t (codes "true")
    other true is = absurd ((value t refl).1.0 (same_text t (codes "true") (sym is)))
    other false is = sym is

pub returns : goal.returns
returns c = c.unwrap_or.ensures ∙ read _ _ c.get_one.result c.get_one.ensures.none c.get_one.ensures.value
    ∙ ap (λ (one : Option Text). option_map_or (λ t. bytes_eq t (codes "true")) one false)
    (one_text-rows (found_of c.args.command.now) (codes "small"))
