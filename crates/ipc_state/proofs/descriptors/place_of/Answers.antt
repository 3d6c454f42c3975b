use Rattle.std.proofs.Common.{◌≡◌, ◌<◌, ◌^◌, ℕ, zero, suc, List, [], ◌∷◌, get_or, length, refl, ap, sym, ◌∙◌, arith}
use Rattle.std.specs.Prelude.{nat_eq, position}
use Rattle.ipc_base.proofs.CallerLemmas.{first-at}
use Rattle.ipc_state.specs.declared.descriptors.DescriptorRow.{DescriptorRow}
use Rattle.ipc_state.specs.Descriptors.{descriptor_row}
use Rattle.ipc_state.proofs.descriptors.place_of.Goals as goal

-- a row stands at its place, whatever stands for one that is missing
there : (rows : List DescriptorRow) (i : ℕ) (d : DescriptorRow) → i < length rows → get_or rows i d ≡ get_or rows i (get_or rows i d)
there [] i d within = absurd (omega (arith, within))
there (row ∷ rows) zero d within = refl
there (row ∷ rows) (suc i) d within = there rows i d (omega (arith, within))

pub returns-then-rows-hint : goal.returns-then-rows-hint
returns-then-rows-hint c =
    let rows = c.args.rows.now in
    let is = there rows c.args.hint _ c.if-hint-rows.true in
    sym (ap (λ (n : ℕ). position (λ (r : DescriptorRow). nat_eq r.fd n) rows) (sym c.if-rows-hint.true)
    ∙ first-at descriptor_row rows c.args.hint (2 ^ 32) _ (c.requires c.if-rise.true) c.if-hint-rows.true is)
