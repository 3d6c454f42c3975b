use Rattle.std.proofs.Common.{◌≡◌, ◌∙◌, ap, refl, arith, ℕ, Bool, true, false, Option, Some, None, Ok, Err}
use Rattle.std.specs.Prelude.{option_and_then, Result}
use Rattle.std.specs.Str.Parse.{ParsesUnsigned, ExplainsUnsignedError, HasUnsignedDigitsIfOk}
use Rattle.clap.specs.Matches.{ReadsOne}
use Rattle.clap.specs.ValueTests.{is_unsigned_in}
use Rattle.clap.specs.Words.{Text, found_of}
use Rattle.clap.specs.declared.builder.value_parser.ValueParser.TheVariants.{Unsigned}
use Rattle.clap.proofs.ValueTestLemmas.{accepts-Accepts, Accepts-accepts}
use Rattle.clap.proofs.WalkLemmas.{one_text-rows}
use Rattle.ipc_command.specs.Command.{parsed_number}
use Rattle.ipc_command.proofs.command.number_in.Goals as goal

-- what `get_one` reads as a `u32`
read : {E : Type 0} (gives : Text → Result ℕ E → Type 0) → ((t : Text) (r : Result ℕ E) → gives t r → ParsesUnsigned 32 10 t r)
    → (one : Option Text) (r : Option ℕ) → (one ≡ None → r ≡ None)
    → ((t : Text) → one ≡ Some t → ReadsOne gives t r) → r ≡ option_and_then parsed_number one
read gives parses None r none value = none refl
read gives parses (Some t) (Some n) none value =
    let is = parses t (Ok n) (value t refl) in
    let passes : is_unsigned_in 0 4294967295 t ≡ true =
    Accepts-accepts false (Unsigned 0 4294967295) t (is.0.0, omega (arith, is.0.1), omega arith, omega (arith, is.0.1)) in
    rw passes (ap Some is.1)
read gives parses (Some t) None none value = other (is_unsigned_in 0 4294967295 t) refl
  where
    other : (is : Bool) → is_unsigned_in 0 4294967295 t ≡ is → None ≡ parsed_number t
    other true is =
        let fits = accepts-Accepts false (Unsigned 0 4294967295) t is in
        absurd (parses t (Err (value t refl).0) (value t refl).1 (fits.0, omega (arith, fits.3)))
    other false is = rw is refl

pub returns : goal.returns
returns c = read (λ bs r. ParsesUnsigned 32 10 bs r × ExplainsUnsignedError 10 bs r × HasUnsignedDigitsIfOk bs r) (λ t r g. g.0)
    _ c.get_one.result c.get_one.ensures.none c.get_one.ensures.value
    ∙ ap (option_and_then parsed_number) (one_text-rows (found_of c.args.command.now) c.args.name.now)
