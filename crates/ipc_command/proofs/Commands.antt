-- Arguments and commands that are added to a command.
use Rattle.std.proofs.Common.{◌≡◌, ◌∙◌, ap, ap₂, Bool, false, ◌||◌}
use Rattle.clap.specs.Words.{App, with_subcommand}

-- a command below another
pub below : (a b c d : App) → a ≡ b → c ≡ d → with_subcommand a c.top ≡ with_subcommand b d.top
below a b c d above sub = ap₂ with_subcommand above (ap (λ (x : App). x.top) sub)

-- an argument of one command alone, added to a command that has no other ones
pub no_globals : {a b g : Bool} → a ≡ (b || g) → b ≡ false → g ≡ false → a ≡ false
no_globals is one other = is ∙ ap₂ (λ (x y : Bool). x || y) one other
