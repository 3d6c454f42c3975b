use Rattle.std.proofs.Common.{◌≡◌, ℤ, subst, sym, ap, ◌∙◌}
use Rattle.std.specs.Int.{w32, cast_signed as to_z, cast_unsigned as of_z}
use Rattle.std.proofs.lemmas.Int.{to_z-of_z}
use Rattle.ipc_state.specs.Directory.{Agrees, ArePositive, named_by}
use Rattle.ipc_state.specs.Keyed.{keyed}
use Rattle.ipc_state.specs.Tables.{HeldObjects}
use Rattle.ipc_state.proofs.Directories.{positive-names}
use Rattle.ipc_state.proofs.EntryKeys.{by_bound, of_keys}
use Rattle.ipc_state.proofs.objects.ObjectTable+i32+T.of_key.Goals.{After-find}
use Rattle.ipc_state.proofs.objects.ObjectTable+i32+T.of_key.Goals as goal

-- the directory names what the key does
names : (g : _) (c : After-find g) → ArePositive c.args.self.now.objects.entries → c.find.result ≡ keyed c.args.self.now.objects c.args.key
names g c positive =
    let n : to_z w32 (of_z w32 c.args.key) ≡ c.args.key = to_z-of_z w32 c.args.key c.ranges.key in
    let agree = subst (λ (h : HeldObjects _ _). Agrees (named_by c.self.inside.directory) (keyed h.objects)) c.self.view_is c.self.invariant.0 in
    c.find.ensures ∙ ap (λ (key : ℤ). named_by c.self.inside.directory key) n
    ∙ agree (positive-names (by_bound of_keys) c.args.self.now.objects.entries positive) c.args.key

pub returns-in-Some : goal.returns-in-Some
returns-in-Some g c positive = sym c.in-Some.is ∙ names g (goal.at.returns-in-Some g c).After-find positive

pub returns-in-None : goal.returns-in-None
returns-in-None g c positive = sym c.in-None.is ∙ names g (goal.at.returns-in-None g c).After-find positive
